-- What the two words of a raw value and of a vector mean, by type.
use Rattle.std.specs.Prelude.{ℕ, ◌+◌, ◌*◌, ◌^◌, ◌%◌, ◌/◌, ◌==◌, Bool, not, ℤ}
use Rattle.std.specs.Int.{Width, cast_signed}
use mir.Val.{bits}
use Rattle.wasmi_raw.specs.declared.raw.RawVal.{RawVal}

-- the vector whose words are low and high
abbrev pub vector_of : ℕ → ℕ → ℕ
vector_of low high = high * 2 ^ 64 + low

-- the low word cut to a width
abbrev pub unsigned_in : Width → RawVal → ℕ
unsigned_in w raw = raw.lo % 2 ^ bits w

-- the low bits of a raw value, as many as a width has, read signed
abbrev pub signed_in : Width → RawVal → ℤ
signed_in w raw = cast_signed w (raw.lo % 2 ^ bits w)

-- whether the low word is not 0
abbrev pub bool_in : RawVal → Bool
bool_in raw = not (raw.lo == 0)

-- the vector of both words
abbrev pub vector_in : RawVal → ℕ
vector_in raw = vector_of raw.lo raw.hi

-- the low word becomes n, and the high word is kept
abbrev pub with_low : RawVal → ℕ → RawVal
with_low raw n = record raw { lo = n }

-- the low word is n, and the high word is 0
abbrev pub raw_of : ℕ → RawVal
raw_of n = record { lo = n; hi = 0 }

-- the words of a vector
abbrev pub raw_of_vector : ℕ → RawVal
raw_of_vector v = record { lo = v % 2 ^ 64; hi = v / 2 ^ 64 }
