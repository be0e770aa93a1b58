-- Names that many proofs of this crate cite, passed on from one place.
pub use Rattle.std.specs.Prelude.{MatchOption}
pub use Rattle.std.proofs.lemmas.Bool.{and_parts, leb-true}
pub use Rattle.std.proofs.lemmas.Bool.Decides.{nat_tests}
pub use Rattle.std.proofs.lemmas.Grind.{common_steps}
pub use Rattle.std.proofs.lemmas.List.{length-append, length-replicate, map-set, map_push, length-map, set-set, set-get_or, take_more, map-append, append-nil, nil_from_length, same_lists, get_or-replicate}
pub use Rattle.std.proofs.lemmas.List.Elements.{All-get_or, All-push, All-set, All-head, All-tail}
pub use Rattle.std.proofs.lemmas.List.Sums.{sum_by-cons, sum_by-set, sum_by_push}
pub use Rattle.std.proofs.lemmas.Option.{same_Some, none-some, get_or_from_slice_get, slice_get_within, slice_get-map, cond_some}
pub use Rattle.std.specs.Option.{option_map, unwrap_or, option_and_then, option_map_or}
pub use Rattle.std.specs.Prelude.{if◌then◌else◌, is_none, nat_le, ◌&&◌, MatchBool, All, slice_get, slice_set, nat_eq, is_some, Vec, cond, nat_lt, sum_by}
pub use Rattle.wasmi_meter.specs.Attempt.{Attempt, Denied, Request, Failed, AttemptOutcome, Met, MeteredValue, Unasked, optional_due, covers, with_value, Follows, IsFirstCause, MayEnd, alone, answer_of, outcome_charge, value_after, error_of_answer, error_of_failure}
pub use Rattle.wasmi_meter.specs.Capped.{Capped, capped_rules, capped_quota, quota_rules, HoldsTheSame, Reserves, GivesBack, with_more, SameCaps, IsWithinCaps}
pub use Rattle.wasmi_meter.specs.Limiter.{Rules, Answer, AskedIf, NoticedIf, IsDenial, MemoryFailure, TableFailure, optional_rules, unlimited_rules, Failure, NoticeAnswer, Question, kind_of, lent_limiter, lent_rules, KeepsLoan}
pub use Rattle.wasmi_meter.specs.Meter.{Meter, amount_left, due, meter_after, meter_set, PaysCharge, copy_cost, cut_product}
pub use Rattle.wasmi_meter.specs.declared.{error.MemoryError.MemoryError, error.TableError.TableError, fuel.CustomFuelCosts.CustomFuelCosts, limiter.Kind.Kind}
pub use Rattle.wasmi_meter.specs.declared.limiter.Kind.TheVariants.{Bytes, Elements}
pub use Rattle.wasmi_store.proofs.GrowthLemmas.{on_both_tests, on_test, on_test_too, grows_too, loan_kept, loan_same}
pub use Rattle.wasmi_store.specs.Buffer.{LacksMemory, Lent, Owned, Room, fits_room}
pub use Rattle.wasmi_store.specs.Growth.{Grows, Growth, metered_value, Makes, metered, IsDenied, WithCharge}
pub use Rattle.wasmi_store.specs.Memory.{GrowsMemoryCharging, memory_growth, MemoryValue, MakesMemory, new_memory, MemoryTypeValue, minimum_bytes, page_bytes, GrowsMemory, MemoryWrite, WritesMemory, bytes_write, pages_of, in_bounds, IsValidMemory, greatest_pages}
pub use Rattle.wasmi_store.specs.Segment.{SegmentValue, dropped, IsReading, IsReadingOf}
pub use Rattle.wasmi_store.specs.Table.{GrowsTableCharging, table_growth, TableValue, same_type, MakesTable, new_table, size_of, TableTypeValue, is_within_maximum, IsValidTable, element_price, elements_write, with_elements, SetsTable, SetsTableRaw, copy_of}
pub use Rattle.wasmi_typed.specs.declared.typed_ref.TypedRawRef.{TypedRawRef}
pub use Rattle.wasmi_types.specs.Access.{at, overwrite}
pub use Rattle.wasmi_types.specs.declared.value.RefType.{RefType}
pub use Rattle.wasmi_machine.specs.Account.{Account, Balances, ChangesMeter, account_after, charged_by, opened, SetsNoFuel, charges, has_written, charges_for_writing, IsSpent, IsBounded, amount_set, amounts_set, bytes_written, is_accepted, writing_turns}
pub use Rattle.wasmi_machine.specs.Determinism.{IsNotOutOfMemory, AreNotOutOfMemory, IsDeterministic, IsOtherFailure, never_out_of_memory, RelatesByKind, RepliesKeepKind, RunsKeepKind, RunsOfCallsKeepKind, permitting, TellsNoDenial, AcceptsNotices, StaysAccepting}
pub use Rattle.wasmi_machine.specs.Effects.{ActsAt, reply_of, ActsMetered, ActsMeteredUnasked, Asks, Changes, Creates, OnlyReplies, AddsEntry, AddsItem, ChangesAt, ChangesFound, DropsAt, DropsContents, IfNoRoom, IsNoSuch, MeteredSlots, WritesAt, WritesRangeAt, WritesFrom, item_bytes, ChangesPart, reply_or_no_such}
pub use Rattle.wasmi_machine.specs.Exchange.{AsksFor, At, Denial, Exchange, Exchanges, GrowsAsAsked, GrowsBy, New, Nothing, NothingGrows, Notice, Nowhere, Passes, Permission, Place, RepliesTo, charge_at, writing_price, failed_charge, failed_reply, growth_charge, growth_due, growth_question, place_of, question_in, question_of, table_growth_question, writing_charge}
pub use Rattle.wasmi_machine.specs.Laws.{RunsGrowAsPermitted, Keeps, KeepsMeter, KeepsSpare, SameContents}
pub use Rattle.wasmi_machine.specs.MemoryEffects.{CreatesLent, spare_after, byte_write_of, ByteSource, OfBytes, WritesMemoryAt, bytes_appended, bytes_in, load_reply, ReadsBytes, StoresMemory, OfByte, memory_copy_of}
pub use Rattle.wasmi_machine.specs.RegisterEffects.{StoresVectorAt, lane_loaded, vector_at, vector_loaded, SetsAt}
pub use Rattle.wasmi_machine.specs.State.{State, live_at, Turn, TurnOutcome, outcome_of, World, MemoryPart, memory_part, slot_count, IsValidSlot, byte_count, sizes, world, HoldsTotals, live_value, IsValid, with_memories, with_tables, with_data_segments, with_globals, with_registers, with_segments, IsValidSegment, IsValidCall}
pub use Rattle.wasmi_machine.specs.Steps.{Run, Changed, Effect, FuelSet, MemoryGrown, HasRangeWrite, RangeWrite, RangeWritten, Step, TableGrown, HasEffect, effect_of, BytesRead, LentMemoryMade, MemoryMade, TableMade, MemoryWritten, TableWritten, Told, Change, IsRunOf, BytesStored, BytesWritten, LacksSlot, MemoryDropped, RegisterSet, HasChange, RepliesWith, DataDropped, DataMade, ElementSet, GlobalMade, GlobalSet, ItemsDropped, SegmentMade, TableDropped, RepliesWithoutLimiter, SomeCopy, Sequence, is_charged}
pub use Rattle.wasmi_machine.specs.TableEffects.{write_of, OfReference, OfSegment, OfTable, Source, ReservesElementsAt, SetsElementAt, element_bytes}
pub use Rattle.wasmi_machine.specs.declared.{calls.Call.Call, calls.Reply.Reply, slots.Slot.Slot}
pub use Rattle.wasmi_machine.specs.declared.calls.Call.TheVariants.{SetFuel, GrowMemory, GrowTable, NewLentMemory, NewMemory, NewTable, CopyMemory, Load, LoadLane, VectorLoad, Write}
pub use Rattle.wasmi_machine.specs.declared.calls.Reply.TheVariants.{Memory, Table}
pub use Rattle.wasmi_machine.specs.declared.slots.Slot.TheVariants.{Gone, Live}
