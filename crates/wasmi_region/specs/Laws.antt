-- What holds of all tables on regions: what the limiter alone can refuse, and that they do as other tables.
use Rattle.std.specs.Prelude.{◌≡◌, ◌+◌, ◌≤◌, ◌⊎◌, ℕ, true, Option, Result, Ok}
use Rattle.wasmi_meter.specs.Attempt.{MeteredValue, optional_due, covers}
use Rattle.wasmi_meter.specs.Limiter.{Rules}
use Rattle.wasmi_meter.specs.Meter.{Meter}
use Rattle.wasmi_meter.specs.declared.error.TableError.{TableError}
use Rattle.wasmi_store.specs.Growth.{IsDenied}
use Rattle.wasmi_store.specs.Table.{TableValue, MakesTable, GrowsTableRaw, new_table, size_of, TableTypeValue, is_indexable, is_within_maximum}
use Rattle.wasmi_region.specs.Table.{MakesTableIn, GrowsTableIn, creation_in, growth_in, typed_as}

-- a table can grow by n elements on a region of so many references: its type and the region have place for them, and a
-- meter, if there is one, can pay them
pub record CanGrowIn (room n : ℕ) (x : TableValue) (m : Option Meter) : Type 0 where
  pub indexable : is_indexable x.ty (size_of x + n) ≡ true
  pub within : is_within_maximum x.ty (size_of x + n) ≡ true
  pub place : size_of x + n ≤ room
  pub paid : covers m (optional_due m (growth_in room x n 0).price) ≡ true

module _ {S : Type 0} (rules : Rules S) where
  -- a creation of a table on a region of at least its minimum is refused by the limiter alone
  abbrev pub TableCreationsSucceed : Type 0
  TableCreationsSucceed =
      (ty : TableTypeValue) (room reference : ℕ) (l : S) (result : Result TableValue TableError) (l' : S)
      → ty.minimum ≤ room → MakesTableIn rules ty room reference l result l'
      → (result ≡ Ok (new_table ty reference)) ⊎ IsDenied rules (creation_in ty room).question l l'

  -- a growth of a table that its type and region have place for, and that can be paid, the limiter alone refuses
  abbrev pub TableGrowthsSucceed : Type 0
  TableGrowthsSucceed =
      (room n reference : ℕ) (s : MeteredValue TableValue S) (result : Result ℕ TableError)
      (s' : MeteredValue TableValue S) → CanGrowIn room n s.value s.meter
      → GrowsTableIn rules room n reference s result s'
      → (result ≡ Ok (size_of s.value))
      ⊎ IsDenied rules (growth_in room s.value n reference).question s.limiter s'.limiter

  -- a table that is made on a region is made as one that owns its elements
  abbrev pub CreationsAreTables : Type 0
  CreationsAreTables =
      (ty : TableTypeValue) (room reference : ℕ) (l : S) (result : Result TableValue TableError) (l' : S)
      → MakesTableIn rules ty room reference l result l' → MakesTable rules ty (typed_as ty reference) l result l'

  -- a table on a region grows as one that owns its elements
  abbrev pub GrowthsAreTables : Type 0
  GrowthsAreTables =
      (room n reference : ℕ) (s : MeteredValue TableValue S) (result : Result ℕ TableError)
      (s' : MeteredValue TableValue S) → GrowsTableIn rules room n reference s result s'
      → GrowsTableRaw rules n reference s result s'
