-- Names that many proofs of this crate cite, passed on from one place.
pub use Rattle.std.proofs.lemmas.Bool.Decides.{nat_tests}
pub use Rattle.std.proofs.lemmas.List.{set_comm, length-append, append-nil, take-map, drop-map, take_at, drop_at, take-append-drop}
pub use Rattle.std.proofs.lemmas.List.Elements.{All-head, All-tail, All-cons, All-nil, All-weaker, All-append}
pub use Rattle.std.proofs.lemmas.Option.{none-some, same_Some}
pub use Rattle.std.specs.Option.{option_and_then, option_map, option_map_or, unwrap_or}
pub use Rattle.std.specs.Prelude.{All, slice_get, slice_set, MatchBool, is_none, nat_le, ◌&&◌, if◌then◌else◌, MatchOption, count_by, is_some, max, nat_eq, ◌≢◌}
pub use Rattle.wasmi_machine.proofs.EffectLemmas.{both_live, on_live, on_live_too, Creation}
pub use Rattle.wasmi_machine.proofs.MemoryEffectsLemmas.{lacks_owned, stored_count}
pub use Rattle.wasmi_machine.proofs.RangeLemmas.{value_kept, source_writes, IsRange, KeepsMemory, KeepsTable, byte_range, source_range, range_holds}
pub use Rattle.wasmi_machine.proofs.SlotsLemmas.{set_other, live_slot, set_same}
pub use Rattle.wasmi_machine.proofs.StoreLemmas.{acts_too, asks_too, changes_too, unasked_too, acts, alters, replies, runs_joined}
pub use Rattle.wasmi_machine.specs.Determinism.{AcceptsNotices, IsOtherFailure, IsNotOutOfMemory}
pub use Rattle.wasmi_machine.specs.Effects.{ChangesFound, ChangesPart, DropsAt, reply_of, ActsAt, AddsEntry, ChangesAt, ChangesItem, Creates, MeteredSlots, WritesRangeAt, AddsItem}
pub use Rattle.wasmi_machine.specs.MemoryEffects.{ReadsBytes, StoresMemory, WritesMemoryAt, ByteSource, CreatesLent, byte_write_of, spare_after}
pub use Rattle.wasmi_machine.specs.RegisterEffects.{StoresVectorAt, SetsAt, SetsRegister, vector_at}
pub use Rattle.wasmi_machine.specs.State.{State, live_at, live_value, with_data_segments, with_globals, with_memories, with_registers, with_segments, with_tables, byte_count, Turn, World, MemoryPart, memory_part, IsRefusal, with_reserved, world, sizes, HoldsTotals, outcome_of}
pub use Rattle.wasmi_machine.specs.Steps.{Run, BytesRead, BytesStored, BytesWritten, Change, Changed, DataDropped, DataMade, Effect, ElementSet, GlobalMade, GlobalSet, ItemsDropped, MemoryDropped, RegisterSet, SegmentMade, Step, TableDropped, HasChange, HasEffect, Told, effect_of, FuelSet, LentMemoryMade, MemoryGrown, MemoryMade, RangeWritten, TableGrown, TableMade, MemoryWritten, TableWritten, RepliesWith, IsRunOf, LacksSlot, Sequence}
pub use Rattle.wasmi_machine.specs.TableEffects.{SetsElementAt, OfReference, OfSegment, OfTable, Source, write_of, ReservesElementsAt}
pub use Rattle.wasmi_machine.specs.ValueEffects.{DropsDataAt, DropsItemsAt, SetsGlobalAt, CreatesSegment, IsSegmentOf}
pub use Rattle.wasmi_machine.specs.declared.{calls.Call.Call, calls.Reply.Reply, slots.Slot.Slot}
pub use Rattle.wasmi_machine.specs.declared.calls.Call.TheVariants.{SetFuel, GetFuel, Read, NewMemory, NewLentMemory, GrowMemory, GrowTable, Extract, GetElement, GetGlobal, GetRegister, Load, NewData, NewGlobal, NewSegment, Test}
pub use Rattle.wasmi_machine.specs.declared.calls.Reply.TheVariants.{Done, NoSuch, Trap, Memory}
pub use Rattle.wasmi_machine.specs.declared.slots.Slot.TheVariants.{Gone, Live}
pub use Rattle.wasmi_meter.specs.Attempt.{MeteredValue, with_value, AttemptOutcome, Met, answer_of, value_after, Failed, Follows, IsFirstCause, MayEnd, Request, covers, optional_due, outcome_charge, Attempt, Unasked, Denied, alone}
pub use Rattle.wasmi_meter.specs.Limiter.{Rules, optional_rules, Failure, MemoryFailure, TableFailure, NoticeAnswer, Question}
pub use Rattle.wasmi_meter.specs.Meter.{Meter, meter_set, amount_left, meter_after}
pub use Rattle.wasmi_meter.specs.declared.{error.MemoryError.MemoryError, error.TableError.TableError}
pub use Rattle.wasmi_raw.specs.declared.raw.RawVal.{RawVal}
pub use Rattle.wasmi_store.proofs.GrowthLemmas.{on_test, on_test_too, grows_too}
pub use Rattle.wasmi_store.specs.Buffer.{Lent, Owned, Room, room_after, LacksMemory}
pub use Rattle.wasmi_store.specs.Growth.{Grows, Growth, metered, metered_value, Makes}
pub use Rattle.wasmi_store.specs.Memory.{MemoryValue, memory_growth, GrowsMemoryCharging, MakesMemory, MemoryTypeValue, MemoryWrite, WritesMemory, new_memory, page_bytes, pages_of}
pub use Rattle.wasmi_store.specs.Table.{size_of, table_growth, GrowsTableCharging, MakesTable, SetsTable, TableValue, same_type, with_elements, new_table, TableTypeValue, elements_write, is_within_maximum, with_elements_reserved}
pub use Rattle.wasmi_store.specs.Write.{MeteredWrite, WritesCharging, copied, filled, EndsBy, write_charge, IsRefusedFor, write_due}
pub use Rattle.wasmi_typed.specs.declared.typed_ref.TypedRawRef.{TypedRawRef}
pub use Rattle.wasmi_types.specs.Access.{at, overwrite}
pub use Rattle.wasmi_types.specs.declared.{trap.TrapCode.TrapCode, value.RefType.RefType}
pub use Rattle.wasmi_laws.specs.Places.{Content, DataAt, GlobalAt, IndependentTurnsSwap, IsIndependent, IsLocal, Location, MemoryAt, RegisterAt, SegmentAt, TableAt, changed_location, content_at, read_locations, DropsNot, HasAt, IndicesLast, IsLater, IsLaterSlot, IsLive, LeavesAlone, LiveUntilDropped, OthersStay, OthersStayInRuns, dropped_location, NumberStore, StoresAreReadBack, StoresKeepOtherBytes, load_of, store_call, stored_part, stored_size, MemoriesGrowAlike, TablesGrowAlike, MemoriesReadAlike, MemoriesWriteAlike}
pub use Rattle.wasmi_laws.specs.Reserved.{IsLent, IsLentRoom, IsReservedToMaximum, HasElements, HasElementsAt, HasSlot, HasSlots, IsReservedFor, IsReservedTable, NeedsNoMemory, NeedsOnlySlot, ReservedCallsSucceed, ReservedRunsSucceed, SlotsSuffice, SlotKind, Memories, Segments, DataSegments, Globals, made_of, slots_for, takes_slot, IsInRegion}
pub use Rattle.wasmi_laws.specs.Runs.{HasFuel, MoreFuelChangesNothing, NamesNoFuel, meter_with_more, world_with_more, IsPlainRefusal, OtherRefusalsChangeNothing, PlainRefusalsChangeNothing, PlainlyRefusedRunsChangeNothing, CapsHoldInRuns, IsWithinCapsOf, RunsOfCallsAreCut, SizesNeverShrink, TotalsNeverShrink, CostsAreKept, FuelNeverRises, SwitchIsKept}
