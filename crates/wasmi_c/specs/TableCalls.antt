-- What the calls on a table do to what lies with C.
use Rattle.std.specs.Prelude.{◌≡◌, ◌+◌, ℕ, List, take, length, MatchOption, Option, Some, Result, slice_get}
use Rattle.wasmi_meter.specs.declared.{error.TableError.TableError, quota.Quota.Quota}
use Rattle.wasmi_meter.specs.declared.error.TableError.TheVariants as error
use Rattle.wasmi_meter.specs.Limiter.{optional_rules}
use Rattle.wasmi_meter.specs.Capped.{quota_rules}
use Rattle.wasmi_store.specs.Growth.{Growth, metered}
use Rattle.wasmi_store.specs.Table.{TableValue, TableWrite, SetsTableRaw, WritesTable, growth_of, size_of, copy_of, table_of, TableTypeValue, is_indexable}
use Rattle.wasmi_region.specs.Table.{table_in, made_in, region_growth, MakesTableIn}
use Rattle.wasmi_c.specs.Numbers.{MeteredRegion, Placed, placed, SameRest, table_type_of, IsTable}
use Rattle.wasmi_c.specs.Placement.{Placement, AsksAs, ByType, ByTypes, EndsBy, status_of, MakesAs, WritesAs}
use Rattle.wasmi_meter.specs.declared.limiter.Kind.TheVariants.{Elements}
use Rattle.wasmi_c.specs.Status.{table_status}
use Rattle.wasmi_c.specs.declared.status.TheConstants.{DONE, NO_ELEMENT, TABLE_GROWTH, INVALID_STATE}
use Rattle.wasmi_c.specs.declared.{host.Question.Question, numbers.TableNumbers.TableNumbers, numbers.Range.Range}

-- the fuel that a call on a table needs, after an error; else the number stays
abbrev pub table_fuel_needed : TableError → ℕ → ℕ
table_fuel_needed (error.OutOfFuel required) before = required
table_fuel_needed other before = before

-- a table as the calls on it have it: its numbers stand for it
abbrev pub of_table : Placement TableNumbers TableTypeValue TableValue TableError
of_table = record {
  IsAt = IsTable;
  value = table_in;
  made = made_in;
  size = λ h. h.size;
  resized = λ h size. record h { size = size };
  status = table_status;
  fuel_needed = table_fuel_needed;
}

-- a growth by so many elements of one reference
abbrev pub by_elements : ℕ → ℕ → List ℕ → TableValue → Growth TableValue TableError
by_elements delta reference region x = region_growth (length region) delta reference x

-- what a growth of a table asks, by a call
abbrev pub AsksTableEmbedded : TableNumbers → List ℕ → ℕ → ℕ → Question → Question → Type 0
AsksTableEmbedded h region delta status q q' = ByType of_table h region status (q' ≡ q) (λ ty.
    let x = table_in ty region h.size in
    AsksAs delta (is_indexable ty (size_of x + delta)) TABLE_GROWTH (growth_of x delta 0).question status q q')

-- an element by a call
abbrev pub GetsElement : Placed TableNumbers → ℕ → ℕ → ℕ → ℕ → Type 0
GetsElement a index old status new = ByType of_table a.numbers a.region status (new ≡ old) (λ ty.
    MatchOption (slice_get (take a.numbers.size a.region) index)
    ((status ≡ NO_ELEMENT) × (new ≡ old))
    (λ reference. (status ≡ DONE) × (new ≡ reference)))

-- a table is made by a call of one reference, or the numbers have no type, and then nothing is written
abbrev pub MakesTableEmbedded : ℕ → Placed TableNumbers → Option Quota → ℕ → Placed TableNumbers → Option Quota → Type 0
MakesTableEmbedded reference a l status a' l' = MatchOption (table_type_of a.numbers)
    ((status ≡ INVALID_STATE) × (a' ≡ a) × (l' ≡ l))
    (λ ty. MakesAs of_table
    (λ made. MakesTableIn (optional_rules quota_rules) ty (length a.region) reference l made l') ty a status a')

-- numbers that stand for no table on any region: no type of references has the number 0, and there are no elements
abbrev pub ended_table : TableNumbers → TableNumbers
ended_table h = record h { size = 0; ty = 0 }

-- a table ends by a call, and a quota gives up its elements
abbrev pub EndsTable : Placed TableNumbers → Option Quota → ℕ → TableNumbers → Option Quota → Type 0
EndsTable = EndsBy of_table Elements ended_table

-- an element is set by a call
abbrev pub SetsElement : Placed TableNumbers → ℕ → ℕ → ℕ → List ℕ → Type 0
SetsElement a index reference status region' =
    ByType of_table a.numbers a.region status (region' ≡ a.region) (λ ty. SameRest a.numbers.size a.region region'
    × ((result : Result (Unit {0}) TableError) × SetsTableRaw index reference
    (table_in ty a.region a.numbers.size) result (table_in ty region' a.numbers.size)
    × (status ≡ status_of of_table result)))

-- a part of a table is written over, as of a table of the library
abbrev pub WritesTableAs : (TableValue → TableWrite) → TableTypeValue → ℕ → MeteredRegion → ℕ → MeteredRegion → Type 0
WritesTableAs write ty = WritesAs of_table (λ elements m result elements' m'.
    WritesTable write (metered (table_of ty elements) (Some m)) result (metered (table_of ty elements') (Some m')))

-- a part of a table is written over by a call
abbrev pub WritesTableEmbedded : (TableTypeValue → TableValue → TableWrite) → TableNumbers → MeteredRegion → ℕ
    → MeteredRegion → Type 0
WritesTableEmbedded write h s status s' =
    ByType of_table h s.region status (s' ≡ s) (λ ty. WritesTableAs (write ty) ty h.size s status s')

-- a copy from another table by a call
abbrev pub CopiesEmbedded : Placed TableNumbers → Range → TableNumbers → MeteredRegion → ℕ → MeteredRegion → Type 0
CopiesEmbedded source range h s status s' =
    ByTypes of_table source (placed h s.region) status (s' ≡ s) (λ ty source_ty. WritesTableAs
    (copy_of range.to range.from range.count (table_in source_ty source.region source.numbers.size))
    ty h.size s status s')

-- the size of a table in elements, by a call
abbrev pub CountsElements : TableNumbers → List ℕ → ℕ → ℕ → ℕ → Type 0
CountsElements h region number status number' = ByType of_table h region status (number' ≡ number) (λ ty.
    (status ≡ DONE) × (number' ≡ h.size))
