-- Names that many proofs of this crate cite, passed on from one place.
pub use Rattle.std.proofs.KnownBytes.{Appends-nil, Appends-trans, Appends-kept, Consumes-trans}
pub use Rattle.std.proofs.lemmas.List.{drop_at, map-append, take_at, take_all, length-replicate, flat_map_more, take_more, drop-drop, drop_min, take_min, take_rest}
pub use Rattle.std.proofs.lemmas.Result.{on_ok_weaker, on_err_weaker}
pub use Rattle.std.specs.Fmt.{decimal, digits_onto, digit_glyph, WritesText, with_newline}
unfoldable pub use Rattle.std.specs.Fmt.{digits}
pub use Rattle.std.specs.Io.KnownBytes.{Appends, Consumes, IsAtEnd}
pub use Rattle.std.specs.List.{enumerate_from, zip}
pub use Rattle.std.specs.Option.{option_map, option_map_or}
pub use Rattle.wasmi_grammar.specs.Headers.{meter_meaning, meter_off, region_bytes, start_of, tenant_start}
pub use Rattle.wasmi_grammar.specs.Parts.{TenantRun, parts_in, calls_in}
pub use Rattle.wasmi_grammar.specs.declared.error.ParseError.TheVariants.{BadCommand, OutOfMemory}
pub use Rattle.wasmi_machine.specs.State.{State, new_state, no_slots, World, world, Turn}
pub use Rattle.wasmi_machine.specs.declared.{calls.Call.Call, calls.Reply.Reply}
pub use Rattle.wasmi_meter.specs.AnswerList.{answer_list_rules, new_answers, notice_answer_by}
pub use Rattle.wasmi_script.specs.Outcomes.{replies_text, held_text, tenant_line, tenants_text, IsReadError, script_limit, IsOutcomeOfReader}
pub use Rattle.wasmi_script.specs.Printing.{line, AppendsFront, AddsText, Flushes, Prints, PrintsFront, PrintsText, SendsFront, AddsToFront, FillsFront, HasFront}
pub use Rattle.wasmi_script.specs.ScriptRuns.{IsNewQuota, IsReplayBy, AnswersParts, new_pool}
pub use Rattle.wasmi_script.specs.Texts.{kind_text, reply_text, error_text, head_text, bytes_in, bytes_text}
pub use Rattle.wasmi_script.specs.declared.error.ReplayError.TheVariants.{Parse, TooLong, ReadFault}
