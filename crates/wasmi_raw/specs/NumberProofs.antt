-- The signed and the unsigned integer type of each width, whose values are those of their numbers.
use Rattle.std.specs.Prelude.{◌≡◌, ℕ, ℤ, pos, negsuc, true, false, unsigned_abs, refl}
use Rattle.std.specs.Int.{Width}
use Rattle.wasmi_raw.specs.Number.{IsInRange, NumberType}

-- the signed type of a width, each of whose numbers is its own value
abbrev pub signed_type : Width → NumberType ℤ
signed_type w = record {
  is_signed = true;
  width = w;
  number = λ value. value;
  of_number = λ number. number;
  laws = record { of_its_number = λ _. refl; of_its_value = λ _ _. refl };
}

-- a number of an unsigned type is not negative
pub unsigned_abs-is : (w : Width) (z : ℤ) → IsInRange false w z → pos (unsigned_abs z) ≡ z
unsigned_abs-is w (pos n) h = refl
unsigned_abs-is w (negsuc n) h = absurd h

-- the unsigned type of a width, each of whose values is its number's distance from 0
abbrev pub unsigned_type : Width → NumberType ℕ
unsigned_type w = record {
  is_signed = false;
  width = w;
  number = pos;
  of_number = unsigned_abs;
  laws = record { of_its_number = λ _. refl; of_its_value = unsigned_abs-is w };
}
