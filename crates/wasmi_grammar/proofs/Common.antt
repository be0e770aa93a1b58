-- Names that many proofs of this crate cite, passed on from one place.
pub use Rattle.std.proofs.lemmas.List.{flat_map_more, take_rest, drop-drop, drop-append-le, take-append-le, length-map, take-map, map-append, take_at, drop-map}
pub use Rattle.std.proofs.lemmas.Result.{IfErr-weaker, IfOk-weaker}
pub use Rattle.std.specs.List.{slice_get, enumerate_from, AllZip, IsAmong}
pub use Rattle.std.specs.Option.{unwrap_or, option_map, option_and_then, option_map_or}
pub use Rattle.wasmi_machine.specs.declared.calls.Call.{Call}
pub use Rattle.wasmi_operands.proofs.LineWordsLemmas.{refused_through, each_named, accepts_same, limit_named, limit_is, on_refusal, refused_with_memory, with_memory, written_at, refused_with, each_said, not_each}
pub use Rattle.wasmi_operands.proofs.NamesLemmas.{named, named_is, one_named, reference_named, reference_is, lane_named, lane_is}
pub use Rattle.wasmi_operands.specs.LineWords.{Accepts, LineWords, WritesNumber, word_at, WritesEach, decimal_value, AcceptsWithMemory, IsDecimal, words_in}
pub use Rattle.wasmi_operands.specs.Names.{reference_word, WritesAnswer, answer_text, width_word, value_word, mutability_word, WritesLanes}
unfoldable pub use Rattle.wasmi_operands.specs.Names.{IsName}
pub use Rattle.wasmi_operands.specs.declared.error.LineError.{LineError}
pub use Rattle.wasmi_operands.specs.declared.error.LineError.TheVariants.{BadCommand, OutOfMemory}
pub use Rattle.wasmi_store.specs.Memory.{MemoryTypeValue, page_log2, page_of_log2}
pub use Rattle.wasmi_grammar.specs.Commands.{command_word, WritesOperands, NamesAfter, Limits, WritesLimits, NamesType, memory_limits, NamesTableType, table_limits, OperandsWrite}
pub use Rattle.wasmi_grammar.specs.Headers.{NamesLimiterAfter, WritesMeter, WritesRegion, WritesReserve, WritesTenant, AreApart, tenants_of}
pub use Rattle.wasmi_grammar.specs.Lines.{NamesLine, AddsLine, AddsWords, AcceptsLine, AcceptsLines, AreTaken, calls_of, IsBadLine, IsFirstBadLine, HasNoCommands, IsNewScript}
unfoldable pub use Rattle.wasmi_grammar.specs.Lines.{lines_in}
pub use Rattle.wasmi_grammar.specs.Parts.{TenantRun, PartsValue, parts_in, calls_in, part_at, Follow, AreCut}
pub use Rattle.wasmi_grammar.specs.declared.{header.LimiterLine.LimiterLine, header.RegionLine.RegionLine, script.Line.Line, script.Script.Script}
pub use Rattle.wasmi_grammar.specs.declared.header.LimiterLine.TheVariants.{Quota, Tenants, Answers}
pub use Rattle.wasmi_grammar.specs.declared.script.Line.TheVariants.{Meter, Limiter, Region, Reserve, As}
