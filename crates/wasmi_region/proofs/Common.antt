-- Names that many proofs of this crate cite, passed on from one place.
pub use Rattle.std.proofs.lemmas.Bool.{cond-true, cond-false, leb-true}
pub use Rattle.std.proofs.lemmas.Result.{err_from_is_err_and}
pub use Rattle.wasmi_meter.specs.Limiter.{Rules, Question, Answer, optional_rules, lent_limiter}
pub use Rattle.wasmi_store.proofs.GrowthLemmas.{loan_kept, makes_lent, grows_lent, permitted_by, GrowthAttempt, growing, grows_none, PermitsGrowth, grows_unasked, grows_met, grows_denied, grows_late, grows_unpaid, grows_refused, makes_denied, makes_refused}
pub use Rattle.wasmi_store.specs.Memory.{memory_growth}
pub use Rattle.wasmi_store.proofs.MemoryLemmas.{growth_permitted, makes_short}
pub use Rattle.wasmi_store.proofs.TableLemmas.{same_as_itself}
pub use Rattle.wasmi_store.proofs.WriteLemmas.{charging, writes_elements}
pub use Rattle.wasmi_store.specs.Table.{creation_of, TableValue, table_of, size_of, element_price, with_added, TableTypeValue, is_indexable, is_within_maximum, copy_of, raw_filling_of, initialization_of, new_table}
pub use Rattle.wasmi_region.specs.Table.{creation_in, growth_in, table_in, region_growth, items_of}
