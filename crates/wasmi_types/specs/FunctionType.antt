-- A function type is its lists of parameters and results (core specification 2.3): when two are the same, their order,
-- what a hasher is given, how the entries are kept, and the texts of the errors.
use Rattle.std.specs.Prelude.{ℕ, ◌+◌, Bool, ◌&&◌, List, ◌∷◌, ◌++◌, length, map, nat_le, if◌then◌else◌, ◌≡◌, ◌<◌, ◌≤◌, take, drop, codes}
use Rattle.std.specs.Cmp.Lexicographic.{pointwise, slice_cmp}
use Rattle.std.specs.Hash.{slice}
use Rattle.std.specs.Ordering.{nat_cmp, on}
use Rattle.std.specs.declared.cmp.Ordering.{Ordering}
use Rattle.wasmi_types.specs.declared.{value.ValType.ValType, func_type.Kept.Kept, func_type.FuncTypeError.FuncTypeError}
use Rattle.wasmi_types.specs.declared.value.ValType.TheVariants.{I32, I64, F32, F64, V128, FuncRef, ExternRef}
use Rattle.std.specs.Rc.{rc_slice_items}
use Rattle.wasmi_types.specs.declared.func_type.Kept.TheVariants.{Inline, Big}
use Rattle.wasmi_types.specs.declared.func_type.FuncTypeError.TheVariants.{TooManyFunctionParams, TooManyFunctionResults, OutOfMemory}

-- the parameters and the results of a function
pub record FunctionType : Type 0 where
  pub params : List ValType
  pub results : List ValType

-- the parameters, then the results
abbrev pub entries : FunctionType → List ValType
entries ty = ty.params ++ ty.results

-- how many parameters and results there are together
abbrev pub entry_count : FunctionType → ℕ
entry_count ty = length ty.params + length ty.results

-- whether both lists are the same, by a test of value types
abbrev pub same_lists : (ValType → ValType → Bool) → FunctionType → FunctionType → Bool
same_lists same a b = pointwise same a.params b.params && pointwise same a.results b.results

-- the place of a value type in their order, by which entries of function types are ordered
abbrev pub type_number : ValType → ℕ
type_number = elim [ I32 ↦ 0 | I64 ↦ 1 | F32 ↦ 2 | F64 ↦ 3 | V128 ↦ 4 | FuncRef ↦ 5 | ExternRef ↦ 6 ]

-- what function types are ordered by, place by place: small ones (at most 21 entries) come first, then the number
-- of parameters counts, among small ones then that of results, then the entries
abbrev pub order_key : FunctionType → List ℕ
order_key ty =
    if nat_le (entry_count ty) 21
    then 0 ∷ length ty.params ∷ length ty.results ∷ map type_number (entries ty)
    else 1 ∷ length ty.params ∷ map type_number (entries ty)

-- the order of two function types
abbrev pub function_type_cmp : FunctionType → FunctionType → Ordering
function_type_cmp = on order_key (slice_cmp nat_cmp)

-- what a function type gives to a hasher: the parameters, then the results
abbrev pub lists_input : (ValType → List (List ℕ)) → FunctionType → List (List ℕ)
lists_input input ty = slice input ty.params ++ slice input ty.results

-- the value types that are kept, of which those after the entries mean nothing
abbrev pub kept_types : Kept → List ValType
kept_types (Inline types) = types
kept_types (Big types) = rc_slice_items types

-- the function type of so many parameters and results that are kept
abbrev pub function_type_of : ℕ → ℕ → Kept → FunctionType
function_type_of params results kept =
    let entries = take (params + results) (kept_types kept) in
    record { params = take params entries; results = drop params entries }

-- at most 21 entries stand inline, and more on the heap
abbrev pub IsStored : ℕ → Kept → Type 0
IsStored count (Inline types) = (count ≤ 21) × (length types ≡ 21)
IsStored count (Big types) = (21 < count) × (length (rc_slice_items types) ≡ count)

-- the entries of so many parameters and so many results, at most 1,000 of each, are kept
abbrev pub IsKept : ℕ → ℕ → Kept → Type 0
IsKept params results kept = (params ≤ 1000) × (results ≤ 1000) × (params + results ≤ length (kept_types kept))
    × IsStored (params + results) kept

-- these entries are kept
abbrev pub KeepsEntries : List ValType → Kept → Type 0
KeepsEntries entries kept =
    (take (length entries) (kept_types kept) ≡ entries) × (length entries ≤ length (kept_types kept))
    × IsStored (length entries) kept

-- the text of an error of a function type
abbrev pub func_type_error_text : FuncTypeError → List ℕ
func_type_error_text TooManyFunctionParams = codes "encountered a function with too many parameters"
func_type_error_text TooManyFunctionResults = codes "encountered a function with too many results"
func_type_error_text OutOfMemory = codes "out of memory"
