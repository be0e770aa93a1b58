-- Numbers cut to a width of w bits, and numbers in bytes, the lowest byte first.
use Rattle.std.specs.Prelude.{ℕ, ◌^◌, ℤ, pos, unsigned_abs, ◌+◌, ◌*◌, List, [], ◌∷◌}
use Rattle.std.specs.Int.{int_rem_euclid, bytes_low_first}
pub use mir.Val.{bits}
-- the widths of 8 to 64 bits; a number below 2 ^ w, less 2 ^ w where it is 2 ^ (w - 1) or more; the nearest number of a
-- signed or unsigned width
pub use Rattle.std.specs.Int.{Width, w8, w16, w32, w64, cast_signed as signed, saturate_signed as clamp_signed, saturate_unsigned as clamp_unsigned}

-- the number below 2 ^ w that differs from z by a multiple of 2 ^ w
abbrev pub wrap : Width → ℤ → ℕ
wrap w z = unsigned_abs (int_rem_euclid z (pos (2 ^ bits w)))

-- the number of a list of bytes: the sum of byte i times 256 to the power i
unfoldable pub number_of : List ℕ → ℕ
number_of [] = 0
number_of (b ∷ bs) = b + 256 * number_of bs

-- the k bytes of a number below 256 to the power k
abbrev pub le_bytes : ℕ → ℕ → List ℕ
le_bytes k n = bytes_low_first 0 k n
