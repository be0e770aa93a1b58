-- The numbers of an integer type of w bits, which is signed or not.
use Rattle.std.specs.Prelude.{◌≡◌, ℕ, ℤ, pos, Bool, true, false, FitsSigned}
use Rattle.std.specs.Int.{Width, cast_signed, FitsUnsignedBits}
use mir.Val.{bits}

-- z is a number of the type
abbrev pub IsInRange : Bool → Width → ℤ → Type 0
IsInRange true w z = FitsSigned w z
IsInRange false w z = FitsUnsignedBits (bits w) z

-- the number of the type whose bits are those of n, which is below 2 ^ w
abbrev pub number_of_bits : Bool → Width → ℕ → ℤ
number_of_bits true w n = cast_signed w n
number_of_bits false w n = pos n

-- a type's values and their numbers: `number` gives that of a value, `of_number` the value of a number of the type
pub record AreNumbers {Value : Type 0} (is_signed : Bool) (width : Width) (number : Value → ℤ)
    (of_number : ℤ → Value) : Type 0 where
  pub of_its_number : (value : Value) → of_number (number value) ≡ value
  pub of_its_value : (z : ℤ) → IsInRange is_signed width z → number (of_number z) ≡ z

-- an integer type: its sign, its width, and the numbers of its values
pub record NumberType (Value : Type 0) : Type 0 where
  pub is_signed : Bool
  pub width : Width
  pub number : Value → ℤ
  pub of_number : ℤ → Value
  pub laws : AreNumbers is_signed width number of_number
