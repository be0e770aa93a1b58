-- Value types: which are number types and which are reference types. Address types: their value types and their widths.
use Rattle.std.specs.Prelude.{Bool, true, false, Option, Some, None, ℕ}
use Rattle.wasmi_types.specs.declared.{value.ValType.ValType, value.RefType.RefType, index_ty.IndexType.IndexType}
use Rattle.wasmi_types.specs.declared.value.ValType.TheVariants.{I32, I64, F32, F64, FuncRef, ExternRef}
use Rattle.wasmi_types.specs.declared.value.RefType.TheVariants.{Func, Extern}
use Rattle.wasmi_types.specs.declared.index_ty.IndexType.TheVariants as index
use Rattle.wasmi_types.specs.declared.value.ValType.TheVariants as types

-- whether a value type is a number type
abbrev pub is_number_type : ValType → Bool
is_number_type = elim [ I32 ↦ true | I64 ↦ true | F32 ↦ true | F64 ↦ true | _ ↦ false ]

-- the reference type of a value type, if it is one
abbrev pub reference_of : ValType → Option RefType
reference_of FuncRef = Some Func
reference_of ExternRef = Some Extern
reference_of _ = None

-- the value type of a reference type
abbrev pub value_of : RefType → ValType
value_of Func = FuncRef
value_of Extern = ExternRef

-- the value type of an address
abbrev pub address_type : IndexType → ValType
address_type index.I32 = types.I32
address_type index.I64 = types.I64

-- how many bits an address has
abbrev pub address_bits : IndexType → ℕ
address_bits index.I32 = 32
address_bits index.I64 = 64

-- of two address types the one with the narrower addresses
abbrev pub narrower : IndexType → IndexType → IndexType
narrower index.I64 other = other
narrower index.I32 _ = index.I32
