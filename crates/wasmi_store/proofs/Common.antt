-- Names that many proofs of this crate cite, passed on from one place.
pub use Rattle.std.proofs.lemmas.Bool.{cond-true, cond-false, MatchBool-at_true}
pub use Rattle.std.proofs.lemmas.Bool.Decides.{nat_tests}
pub use Rattle.std.proofs.lemmas.List.{take_all, drop_all, append-nil, take_at, drop_at, drop-drop, length-replicate, with_items_is, take-take, drop-take}
pub use Rattle.std.proofs.lemmas.Result.{err_from_is_err_and}
pub use Rattle.std.specs.List.{refill, length_refill}
pub use Rattle.std.specs.Prelude.{if◌then◌else◌, MatchBool, nat_lt, OnErr, is_err, nat_le}
pub use Rattle.wasmi_meter.proofs.AttemptLemmas.{IsPermitted, ReachesCharge, attempt_unasked, attempt_denied, attempt_late, attempt_unpaid, attempt_refused, attempt_met, meter_after_nothing}
pub use Rattle.wasmi_meter.specs.Attempt.{MeteredValue, alone, Request, AttemptOutcome, Unasked, Denied, Met, Failed, Attempt, Permits, answer_of, error_of_failure, optional_due, covers, MayEnd, value_after}
pub use Rattle.wasmi_meter.specs.Limiter.{Question, Answer, NoticeAnswer, Rules, KeepsLoan, optional_rules}
pub use Rattle.wasmi_meter.specs.Meter.{Meter, amount_left, Charges, due, copy_cost, meter_after}
pub use Rattle.wasmi_meter.specs.declared.{error.MemoryError.MemoryError, error.TableError.TableError, fuel.CustomFuelCosts.CustomFuelCosts}
pub use Rattle.wasmi_meter.specs.declared.error.TableError.TheVariants.{GrowOutOfBounds, ElementTypeMismatch, OutOfFuel, FillOutOfBounds}
pub use Rattle.wasmi_store.specs.Buffer.{with_zeros, fits_room, refilled_front, view_of, EndsWithin, BufferValue, zeros_in}
pub use Rattle.wasmi_store.specs.Growth.{IsAsked, Makes, Growth, Grows, metered_value, metered, WithCharge}
pub use Rattle.wasmi_store.specs.Memory.{MemoryTypeValue, page_bytes, minimum_bytes, maximum_bytes, in_bounds, MemoryValue, pages_of, new_memory, size_question, MakesMemory, PermitsMinimum, WritesMemory, IsValidMemory, GrowsMemoryCharging, bytes_write, memory_of}
pub use Rattle.wasmi_store.specs.Table.{TableTypeValue, is_indexable, is_within_maximum, same_type, TableValue, size_of, new_table, element_price, MakesTable, GrowsTableCharging, with_added, IsValidTable, elements_write, with_elements, TableWrite, GrowsTable}
pub use Rattle.wasmi_store.specs.Write.{MeteredWrite, EndsBy, IsRefusedFor, Writes, WritesCharging, write_charge, write_due, items_write, WritesItems, BulkWrites, item_price, filled}
