-- Which typed raw values are references, and the text of the error where one is none; the amounts of shifts.
use Rattle.std.specs.Prelude.{◌≡◌, Some, None, Result, Ok, Err, ℕ, List, codes, ℤ, pos, ◌==◌, Option, unsigned_abs, if◌then◌else◌}
use Rattle.std.specs.Int.{w32, int_rem_euclid}
use Rattle.wasmi_types.specs.Value.{reference_of}
use Rattle.wasmi_raw.specs.RawVal.{unsigned_in}
use Rattle.wasmi_typed.specs.declared.{typed.TypedRawVal.TypedRawVal, typed_ref.TypedRawRef.TypedRawRef, typed_ref.NotAReference.NotAReference}

-- the answer is the reference that a typed raw value is, or the error where its type is none of references
abbrev pub IsReference : TypedRawVal → Result TypedRawRef NotAReference → Type 0
IsReference typed (Ok reference) =
    (reference_of typed.ty ≡ Some reference.ty) × (reference.raw ≡ unsigned_in w32 typed.raw)
IsReference typed (Err error) = reference_of typed.ty ≡ None

-- the text of the error where a value is no reference
abbrev pub not_a_reference_text : List ℕ
not_a_reference_text = codes "not a reference type"

-- the remainder of a number by a width in bits, 0 or more; none where that is 0
abbrev pub shift_amount : ℕ → ℤ → Option ℕ
shift_amount width z =
    let amount = unsigned_abs (int_rem_euclid z (pos width))
    in if amount == 0 then None else Some amount
