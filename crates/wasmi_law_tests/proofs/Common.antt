-- Names that many proofs of this crate cite, passed on from one place.
pub use Rattle.std.proofs.lemmas.List.{length-replicate, append_assoc, append-nil, get_or-set_other}
pub use Rattle.std.proofs.lemmas.List.Elements.{All-head, All-tail, All-cons, All-nil}
pub use Rattle.std.proofs.lemmas.Option.{same_Some, slice_get_read}
pub use Rattle.std.proofs.lemmas.Result.{on_ok_weaker}
pub use Rattle.std.specs.Prelude.{◌↔◌, FitsSigned, IsTrue, All, MatchOption, max, nat_eq}
pub use Rattle.wasmi_c.specs.Numbers.{KeepsQuota, Placed, limiter_of, quota_of}
pub use Rattle.wasmi_c.specs.SharedQuota.{HoldsSums, OneQuotaHoldsEach, sizes_made, UnderQuota}
pub use Rattle.wasmi_laws.specs.Places.{IsIndependent, LeavesAlone, MemoryAt, NumberStore, store_call}
pub use Rattle.wasmi_laws.specs.Reserved.{IsReservedFor, IsReservedTable, ReservedRunsSucceed, FitsSlots}
pub use Rattle.wasmi_machine.specs.Determinism.{AcceptsNotices, IsDeterministic, IsNotOutOfMemory, permitting}
pub use Rattle.wasmi_machine.specs.Laws.{IsRefusal, LentGrowthsSucceed, RepliesAreOne, LentCreationsAreOwned, RunsKeepValidity}
pub use Rattle.wasmi_machine.specs.State.{live_at, World, Turn, outcome_of, world, State, IsValid, IsValidCall, sizes}
pub use Rattle.wasmi_machine.specs.Steps.{Run, Sequence, MemoryGrown, HasEffect, Step, IsRunOf}
pub use Rattle.wasmi_machine.specs.declared.calls.Reply.{Reply}
pub use Rattle.wasmi_machine.specs.declared.calls.Reply.TheVariants.{Number, Memory, Done, NoRoom, NoSuch}
pub use Rattle.wasmi_meter.specs.Capped.{IsWithinCaps}
pub use Rattle.wasmi_meter.specs.Limiter.{Rules, optional_rules, Question, kind_of}
pub use Rattle.wasmi_store.specs.Memory.{MemoryValue, GrowsMemoryCharging, pages_of, growth_of, page_bytes, MemoryTypeValue}
pub use Rattle.wasmi_store.specs.Table.{TableValue}
pub use Rattle.wasmi_law_tests.specs.Runs.{CanGrowInRegion, IsGrownOrDenied, GrowsInRegion, RunsAlone, FitsAnyRegions, HasRegionFor, KeepsTenant, RunsList}
pub use Rattle.wasmi_law_tests.specs.Chains.{RelatesForward}
