-- The types and meters that plain numbers stand for, if their limits are in order.
use Rattle.std.specs.Prelude.{ℕ, ◌^◌, Bool, true, ◌&&◌, nat_eq, nat_le, nat_lt, if◌then◌else◌, Option, Some, None, [], ◌∷◌, slice_get}
use Rattle.std.specs.Option.{option_map_or, option_and_then}
use Rattle.wasmi_types.specs.Value.{address_bits, reference_of}
use Rattle.wasmi_types.specs.declared.{index_ty.IndexType.IndexType, value.ValType.ValType, value.RefType.RefType}
use Rattle.wasmi_types.specs.declared.index_ty.IndexType.TheVariants.{I32, I64}
use Rattle.wasmi_types.specs.declared.value.ValType.TheVariants as types
use Rattle.wasmi_meter.specs.Meter.{Meter}
use Rattle.wasmi_meter.specs.declared.fuel.CustomFuelCosts.{CustomFuelCosts}
use Rattle.wasmi_store.specs.Memory.{MemoryTypeValue, Settings, named_type, greatest_pages}
use Rattle.wasmi_store.specs.Table.{TableTypeValue}

-- a value that is there where a flag isn't 0
abbrev pub if_flag : {T : Type 0} → ℕ → T → Option T
if_flag flag x = if nat_eq flag 0 then None else Some x

-- the value, if a test is true of it
abbrev pub where_true : {T : Type 0} → (T → Bool) → T → Option T
where_true test x = if test x then Some x else None

-- the number of 32 bits that a plain number stands for, if 32 bits hold it
abbrev pub u32_of : ℕ → Option ℕ
u32_of number = where_true (λ n. nat_lt n (2 ^ 32)) number

-- the value type of a number, if there is one
abbrev pub val_type_of : ℕ → Option ValType
val_type_of =
    slice_get (types.I32 ∷ types.I64 ∷ types.F32 ∷ types.F64 ∷ types.V128 ∷ types.FuncRef ∷ types.ExternRef ∷ [])

-- the reference type of a number, if there is one
abbrev pub reference_type_of : ℕ → Option RefType
reference_type_of number = option_and_then reference_of (val_type_of number)

-- the type of addresses or indices
abbrev pub index_type_of : ℕ → IndexType
index_type_of is_64 = if nat_eq is_64 0 then I32 else I64

-- what numbers say of a memory's type
abbrev pub settings_of : ℕ → Option ℕ → ℕ → ℕ → Settings
settings_of minimum maximum is_64 page_size_log2 = record {
  index = index_type_of is_64;
  page_size_log2 = page_size_log2;
  minimum = minimum;
  maximum = maximum;
}

-- whether limits that numbers say are in order and within what the address type reaches
abbrev pub is_memory_type : MemoryTypeValue → Bool
is_memory_type ty = nat_le ty.minimum (greatest_pages ty)
    && option_map_or (λ most. nat_le ty.minimum most && nat_le most (greatest_pages ty)) ty.maximum true

-- the type of a memory by what numbers say of it, if there is such a type
abbrev pub memory_type_of : Settings → Option MemoryTypeValue
memory_type_of settings = option_and_then (where_true is_memory_type) (named_type settings)

-- whether limits that numbers say are in order and below the number of indices
abbrev pub is_table_type : TableTypeValue → Bool
is_table_type ty = nat_lt ty.minimum (2 ^ address_bits ty.index)
    && option_map_or (λ most. nat_le ty.minimum most && nat_lt most (2 ^ address_bits ty.index)) ty.maximum true

-- the type of a table, if there is such a type
abbrev pub table_type_of : ℕ → ℕ → Option ℕ → ℕ → Option TableTypeValue
table_type_of element minimum maximum is_64 = option_and_then
    (λ element. where_true is_table_type (record {
      index = index_type_of is_64;
      element = element;
      minimum = minimum;
      maximum = maximum;
    }))
    (reference_type_of element)

-- the meter with so much left, if it is on, and these costs
abbrev pub meter_of : Option ℕ → CustomFuelCosts → Meter
meter_of left costs = record { left = left; costs = costs }
