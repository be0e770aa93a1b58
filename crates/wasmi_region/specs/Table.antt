-- Tables whose elements are the first of a region that lies with their caller: what is asked and paid where one is made
-- or grows, and references and items that get the type of its elements.
use Rattle.std.specs.Prelude.{◌≡◌, ◌+◌, ◌<◌, ℕ, List, take, Result, Ok, Err}
use Rattle.wasmi_typed.specs.declared.typed_ref.TypedRawRef.{TypedRawRef}
use Rattle.wasmi_meter.specs.Attempt.{MeteredValue, Request}
use Rattle.wasmi_meter.specs.Limiter.{Rules}
use Rattle.wasmi_meter.specs.declared.error.TableError.{TableError}
use Rattle.wasmi_meter.specs.declared.error.TableError.TheVariants.{OutOfSystemMemory}
use Rattle.wasmi_store.specs.Growth.{WithCharge, Makes, Growth, Grows}
use Rattle.wasmi_store.specs.Segment.{SegmentValue}
use Rattle.wasmi_store.specs.Table.{TableValue, table_of, size_of, new_table, creation_of, growth_of, TableTypeValue}

-- the table of a type that has so many elements at the front of a region
abbrev pub table_in : TableTypeValue → List ℕ → ℕ → TableValue
table_in ty region size = table_of ty (take size region)

-- the table that a call makes in a region, by the size that it returns
abbrev pub made_in : TableTypeValue → List ℕ → Result ℕ TableError → Result TableValue TableError
made_in ty region (Ok size) = Ok (table_in ty region size)
made_in ty region (Err error) = Err error

-- a reference of the type of a table's elements
abbrev pub typed_as : TableTypeValue → ℕ → TypedRawRef
typed_as ty reference = record { raw = reference; ty = ty.element }

-- items of the type of a table's elements
abbrev pub items_of : TableTypeValue → List ℕ → SegmentValue
items_of ty items = record { ty = ty.element; items = items }

-- what is asked where a table of a type is made on a region of so many references, and the causes of a refusal: it is
-- out of memory if the region is shorter than the minimum
abbrev pub creation_in : TableTypeValue → ℕ → Request (Unit {0}) TableError
creation_in ty room =
    record (creation_of ty ty.element) { refuses = λ cause. (cause ≡ OutOfSystemMemory) × (room < ty.minimum) }

-- what is asked and paid where a table on a region of so many references grows by n elements, and the causes of a
-- refusal: those of any table, and only if the region is shorter than the new size
abbrev pub growth_in : ℕ → TableValue → ℕ → ℕ → Request TableValue TableError
growth_in room x n reference = record (growth_of x n reference) {
  refuses = λ cause. (growth_of x n reference).refuses cause × (room < size_of x + n);
}

-- the growth of a table on a region of so many references, by n elements
abbrev pub region_growth : ℕ → ℕ → ℕ → TableValue → Growth TableValue TableError
region_growth room n reference x = record { amount = n; size = size_of x; request = growth_in room x n reference }

-- a table of a type is made of one reference on a region of so many
abbrev pub MakesTableIn : {S : Type 0} → Rules S → TableTypeValue → ℕ → ℕ → S → Result TableValue TableError → S
    → Type 0
MakesTableIn rules ty room reference = Makes rules (creation_in ty room) (new_table ty reference)

-- a table on a region of so many references grows by n elements; it returns the old size
abbrev pub GrowsTableIn : {S : Type 0} → Rules S → ℕ → ℕ → ℕ → MeteredValue TableValue S → Result ℕ TableError
    → MeteredValue TableValue S → Type 0
GrowsTableIn rules room n reference s = WithCharge (Grows rules (region_growth room n reference s.value)) s
