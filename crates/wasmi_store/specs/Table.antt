-- Tables: their types, subtypes, validity, making one, growing it, reading and writing its elements, and what a bulk
-- instruction writes over a range of them (core specification, table types and table instances).
use Rattle.std.specs.Prelude.{◌≡◌, ◌^◌, ◌≤◌, ◌<◌, ℕ, Bool, true, false, nat_le, nat_lt, Option, ◌+◌, List, [], ◌∷◌, ◌++◌, length, replicate, max, nat_eq, if◌then◌else◌, MatchBool, MatchOption, Some, None, Result, Ok, Err, slice_get}
use Rattle.std.specs.Option.{option_map_or, ForSome, option_map}
use Rattle.wasmi_types.specs.declared.{value.RefType.RefType, index_ty.IndexType.IndexType}
use Rattle.wasmi_types.specs.declared.value.RefType.TheVariants.{Func, Extern}
use Rattle.wasmi_types.specs.Value.{address_bits}
use Rattle.wasmi_store.specs.Memory.{IsNoLooser}
use Rattle.wasmi_types.specs.Access.{overwrite}
use Rattle.wasmi_typed.specs.declared.typed_ref.TypedRawRef.{TypedRawRef}
use Rattle.wasmi_meter.specs.declared.{fuel.CustomFuelCosts.CustomFuelCosts, error.TableError.TableError}
use Rattle.wasmi_meter.specs.declared.error.TableError.TheVariants.{OutOfSystemMemory, ResourceLimiterDeniedAllocation, GrowOutOfBounds, InitOutOfBounds, FillOutOfBounds, SetOutOfBounds, CopyOutOfBounds, ElementTypeMismatch, OutOfFuel}
use Rattle.wasmi_meter.specs.declared.limiter.Kind.TheVariants.{Elements}
use Rattle.wasmi_meter.specs.Limiter.{TableFailure, Rules}
use Rattle.wasmi_meter.specs.Meter.{copy_cost}
use Rattle.wasmi_meter.specs.Attempt.{MeteredValue, Request}
use Rattle.wasmi_store.specs.Growth.{WithCharge, Makes, Growth, Grows}
use Rattle.wasmi_store.specs.Write.{filled, copied, MeteredWrite, WritesCharging}
use Rattle.wasmi_store.specs.Segment.{SegmentValue}

-- a table type: its index type, the type of its elements, and its limits in elements
pub record TableTypeValue : Type 0 where
  pub index : IndexType
  pub element : RefType
  pub minimum : ℕ
  pub maximum : Option ℕ

-- whether a table of the type may have so many elements: fewer than there are indices
abbrev pub is_indexable : TableTypeValue → ℕ → Bool
is_indexable ty size = nat_lt size (2 ^ address_bits ty.index)

-- whether so many elements are no more than the maximum, if there is one
abbrev pub is_within_maximum : TableTypeValue → ℕ → Bool
is_within_maximum ty size = option_map_or (λ maximum. nat_le size maximum) ty.maximum true

-- the limits are below the number of indices, the minimum not above the maximum
pub record IsValid (ty : TableTypeValue) : Type 0 where
  pub minimum : ty.minimum < 2 ^ address_bits ty.index
  pub maximum : ForSome ty.maximum (λ maximum. (ty.minimum ≤ maximum) × (maximum < 2 ^ address_bits ty.index))

-- whether two reference types are the same, that of a table's elements and another
abbrev pub same_type : RefType → RefType → Bool
same_type Func Func = true
same_type Extern Extern = true
same_type Func Extern = false
same_type Extern Func = false

-- a table of type a may be given where one of type b is asked for (core specification, import matching)
pub record IsSubtype (a b : TableTypeValue) : Type 0 where
  pub index : a.index ≡ b.index
  pub element : a.element ≡ b.element
  pub minimum : b.minimum ≤ a.minimum
  pub maximum : IsNoLooser a.maximum b.maximum

-- a table: its type, its elements, each a reference or 0 for null, and how many elements in all memory was reserved for
pub record TableValue : Type 0 where
  pub ty : TableTypeValue
  pub elements : List ℕ
  pub reserved : ℕ

-- the table of a type with these elements, for which nothing was reserved
abbrev pub table_of : TableTypeValue → List ℕ → TableValue
table_of ty elements = record { ty = ty; elements = elements; reserved = 0 }

-- the table with these elements
abbrev pub with_elements : TableValue → List ℕ → TableValue
with_elements x elements = record x { elements = elements }

-- the table for whose first n elements memory is reserved, unless that was so for more
abbrev pub with_elements_reserved : TableValue → ℕ → TableValue
with_elements_reserved x n = record x { reserved = max x.reserved n }

-- how many elements a table has
abbrev pub size_of : TableValue → ℕ
size_of x = length x.elements

-- a size in elements is one that the type allows
pub record IsSized (ty : TableTypeValue) (size : ℕ) : Type 0 where
  pub minimum : ty.minimum ≤ size
  pub indexable : is_indexable ty size ≡ true
  pub within : is_within_maximum ty size ≡ true

-- a table of a valid type has as many elements as that allows (core specification, validity of table instances)
pub record IsValidTable (x : TableValue) : Type 0 where
  pub type : IsValid x.ty
  pub sized : IsSized x.ty (size_of x)

-- a table's type with the present size as the minimum
abbrev pub dynamic_type : TableValue → TableTypeValue
dynamic_type x = record x.ty { minimum = size_of x }

-- a new table at the minimum of its type, with one reference in each place
abbrev pub new_table : TableTypeValue → ℕ → TableValue
new_table ty reference = table_of ty (replicate ty.minimum reference)

-- the table with n more elements
abbrev pub with_added : TableValue → ℕ → ℕ → TableValue
with_added x n reference = with_elements x (x.elements ++ replicate n reference)

-- the fuel for so many elements of a table, of 4 bytes each
abbrev pub element_price : ℕ → CustomFuelCosts → ℕ
element_price n costs = copy_cost costs n 4

-- what is asked where a table of a type is made of a reference, and the causes of a refusal; it costs no fuel
abbrev pub creation_of : TableTypeValue → RefType → Request (Unit {0}) TableError
creation_of ty init = record {
  early = if same_type ty.element init then None else Some ElementTypeMismatch;
  question = record { kind = Elements; current = 0; desired = ty.minimum; maximum = ty.maximum };
  denial = ResourceLimiterDeniedAllocation;
  refusal = ResourceLimiterDeniedAllocation;
  notice = TableFailure;
  late = None;
  price = None;
  unpaid = OutOfFuel;
  refuses = λ cause. cause ≡ OutOfSystemMemory;
  grown = tt;
}

-- what is asked and paid where a table grows by n elements, and the causes of a refusal: the maximum is tested after
-- the permission, and memory is refused only for more elements than it was reserved for
abbrev pub growth_of : TableValue → ℕ → ℕ → Request TableValue TableError
growth_of x n reference = record {
  early = if is_indexable x.ty (size_of x + n) then None else Some GrowOutOfBounds;
  question = record { kind = Elements; current = size_of x; desired = size_of x + n; maximum = x.ty.maximum };
  denial = GrowOutOfBounds;
  refusal = ResourceLimiterDeniedAllocation;
  notice = TableFailure;
  late = if is_within_maximum x.ty (size_of x + n) then None else Some GrowOutOfBounds;
  price = Some (element_price n);
  unpaid = OutOfFuel;
  refuses = λ cause. (cause ≡ OutOfSystemMemory) × (x.reserved < size_of x + n);
  grown = with_added x n reference;
}

-- a table of a type is made of a reference
abbrev pub MakesTable : {S : Type 0} → Rules S → TableTypeValue → TypedRawRef → S → Result TableValue TableError → S
    → Type 0
MakesTable rules ty init l result l' = Makes rules (creation_of ty init.ty) (new_table ty init.raw) l result l'

-- the growth of a table by n elements
abbrev pub table_growth : ℕ → ℕ → TableValue → Growth TableValue TableError
table_growth n reference x = record { amount = n; size = size_of x; request = growth_of x n reference }

-- a table grows by n elements, with this charge; it returns the old size
abbrev pub GrowsTableRawCharging : {S : Type 0} → Rules S → ℕ → ℕ → MeteredValue TableValue S → Result ℕ TableError → ℕ
    → MeteredValue TableValue S → Type 0
GrowsTableRawCharging rules n reference s result charge s' =
    Grows rules (table_growth n reference s.value) s result charge s'

-- a growth by a reference that has a type, with this charge: the type is tested first, also for no element, and where
-- it is another, nothing is touched
abbrev pub GrowsTableCharging : {S : Type 0} → Rules S → ℕ → TypedRawRef → MeteredValue TableValue S
    → Result ℕ TableError → ℕ → MeteredValue TableValue S → Type 0
GrowsTableCharging rules n init s result charge s' = MatchBool (same_type s.value.ty.element init.ty)
    (GrowsTableRawCharging rules n init.raw s result charge s')
    ((result ≡ Err ElementTypeMismatch) × (charge ≡ 0) × (s' ≡ s))

-- a table grows by n elements; it returns the old size
abbrev pub GrowsTableRaw : {S : Type 0} → Rules S → ℕ → ℕ → MeteredValue TableValue S → Result ℕ TableError
    → MeteredValue TableValue S → Type 0
GrowsTableRaw rules n reference = WithCharge (GrowsTableRawCharging rules n reference)

-- a table grows by n elements, each a reference that has a type, which is tested first
abbrev pub GrowsTable : {S : Type 0} → Rules S → ℕ → TypedRawRef → MeteredValue TableValue S → Result ℕ TableError
    → MeteredValue TableValue S → Type 0
GrowsTable rules n init = WithCharge (GrowsTableCharging rules n init)

-- the element at an index with its type, or none past the end
abbrev pub element_at : TableValue → ℕ → Option TypedRawRef
element_at x index =
    option_map (λ reference. record { raw = reference; ty = x.ty.element }) (slice_get x.elements index)

-- the element at an index is set to a reference; past the end it is refused, and the table stays
abbrev pub SetsTableRaw : ℕ → ℕ → TableValue → Result (Unit {0}) TableError → TableValue → Type 0
SetsTableRaw index reference x result x' = MatchOption (overwrite x.elements index (reference ∷ []))
    ((result ≡ Err SetOutOfBounds) × (x' ≡ x))
    (λ elements. (result ≡ Ok tt) × (x' ≡ with_elements x elements))

-- the element at an index is set to a reference that has a type, which is tested first
abbrev pub SetsTable : ℕ → TypedRawRef → TableValue → Result (Unit {0}) TableError → TableValue → Type 0
SetsTable index value x result x' = MatchBool (same_type x.ty.element value.ty)
    (SetsTableRaw index value.raw x result x') ((result ≡ Err ElementTypeMismatch) × (x' ≡ x))

-- a write over a range of a table
abbrev pub TableWrite : Type 0
TableWrite = MeteredWrite TableValue TableError

-- the elements of a table are written over: whether the types are the same, what the elements become, or none where a
-- range ends past its list, the error there, and how many elements are paid for, if any
abbrev pub elements_write : TableValue → Bool → Option (List ℕ) → TableError → Option ℕ → TableWrite
elements_write x typed written outside paid = record {
  early = if typed then None else Some ElementTypeMismatch;
  written = option_map (with_elements x) written;
  outside = outside;
  price = option_map element_price paid;
  unpaid = OutOfFuel;
}

-- len elements of a table from dst on are filled with a reference, whose type isn't tested
abbrev pub raw_filling_of : ℕ → ℕ → ℕ → TableValue → TableWrite
raw_filling_of dst reference len x =
    elements_write x true (filled x.elements dst reference len) FillOutOfBounds (Some len)

-- len elements of a table from dst on are filled with a reference, whose type is tested
abbrev pub filling_of : ℕ → TypedRawRef → ℕ → TableValue → TableWrite
filling_of dst value len x = elements_write x (same_type x.ty.element value.ty)
    (filled x.elements dst value.raw len) FillOutOfBounds (Some len)

-- len elements from src on of a table, perhaps the same one, are copied over those from dst on
abbrev pub copy_of : ℕ → ℕ → ℕ → TableValue → TableValue → TableWrite
copy_of dst src len source x = elements_write x (same_type x.ty.element source.ty.element)
    (copied x.elements dst source.elements src len) CopyOutOfBounds (Some len)

-- len items from src on of a segment are copied over a table's elements from dst on, which is free where len is 0
abbrev pub initialization_of : ℕ → ℕ → ℕ → SegmentValue → TableValue → TableWrite
initialization_of dst src len segment x = elements_write x (same_type x.ty.element segment.ty)
    (copied x.elements dst segment.items src len) InitOutOfBounds (if nat_eq len 0 then None else Some len)

-- a range of a table is written over
abbrev pub WritesTable : (TableValue → TableWrite) → MeteredValue TableValue (Unit {0})
    → Result (Unit {0}) TableError → MeteredValue TableValue (Unit {0}) → Type 0
WritesTable write = WithCharge (WritesCharging write)
