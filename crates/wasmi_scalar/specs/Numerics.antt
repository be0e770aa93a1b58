-- The integer operations of the WebAssembly core specification (section "Numerics"), over whole numbers. A number of a
-- signed type is read signed, one of an unsigned type unsigned, and `w` is the width of the type, of `bits w` bits.
-- std's words for the two readings: `int_wrap w z` is the number of the signed type that differs from z by a multiple
-- of 2 to the power `bits w` (the standard's `wrap` and `extend_s`), `cast_unsigned w z` the unsigned number with the
-- bits of z, `cast_signed w n` the signed number with the bits of n.
use Rattle.std.specs.Prelude.{ℕ, ◌+◌, ◌-◌, ◌*◌, ◌/◌, ◌%◌, ◌^◌, ℤ, pos, ◌+ℤ◌, ◌-ℤ◌, ◌*ℤ◌, int_div, int_rem, int_lt, int_le, nat_lt, nat_le, ◌==◌, not, Bool, bit_and, bit_or, bit_xor, count_ones, Result, Ok, Err, if◌then◌else◌}
use Rattle.std.specs.Int.{Width, cast_signed, cast_unsigned, int_wrap, int_shr, leading_zeros, trailing_zeros, w64}
use Rattle.std.specs.Ordering.{int_eq}
use mir.Val.{bits}
use Rattle.wasmi_types.specs.declared.trap.TrapCode.{TrapCode}
use Rattle.wasmi_types.specs.declared.trap.TrapCode.TheVariants.{IntegerDivisionByZero, IntegerOverflow}
-- an instruction gives this, where a function reads the number of its value
pub use Rattle.wasmi_access.specs.LoadStore.{GivesNumber}

-- ---- sums and products

-- the sum, wrapped to the signed range
abbrev pub iadd : Width → ℤ → ℤ → ℤ
iadd w x y = int_wrap w (x +ℤ y)

-- the difference, wrapped to the signed range
abbrev pub isub : Width → ℤ → ℤ → ℤ
isub w x y = int_wrap w (x -ℤ y)

-- the product, wrapped to the signed range
abbrev pub imul : Width → ℤ → ℤ → ℤ
imul w x y = int_wrap w (x *ℤ y)

-- ---- quotients towards zero, and their remainders

-- the quotient of two signed numbers, rounded towards zero, or a trap where the divisor is 0 or no signed number of the
-- width is the quotient: that of the least number by -1 is 2 to the power `bits w - 1`
abbrev pub idiv_s : Width → ℤ → ℤ → Result ℤ TrapCode
idiv_s w x y =
    if int_eq y (pos 0) then Err IntegerDivisionByZero
    else if int_eq (int_div x y) (pos (2 ^ (bits w - 1))) then Err IntegerOverflow
    else Ok (int_div x y)

-- the quotient rounded down, or a trap where the divisor is 0
abbrev pub idiv_u : ℕ → ℕ → Result ℕ TrapCode
idiv_u n d = if d == 0 then Err IntegerDivisionByZero else Ok (n / d)

-- the remainder of the quotient rounded towards zero, which has the sign of x, or a trap where the divisor is 0
abbrev pub irem_s : ℤ → ℤ → Result ℤ TrapCode
irem_s x y = if int_eq y (pos 0) then Err IntegerDivisionByZero else Ok (int_rem x y)

-- the remainder of the quotient rounded down, or a trap where the divisor is 0
abbrev pub irem_u : ℕ → ℕ → Result ℕ TrapCode
irem_u n d = if d == 0 then Err IntegerDivisionByZero else Ok (n % d)

-- ---- bits

-- the bits that are set in both
abbrev pub iand : Width → ℤ → ℤ → ℤ
iand w x y = cast_signed w (bit_and (cast_unsigned w x) (cast_unsigned w y))

-- the bits that are set in one or both
abbrev pub ior : Width → ℤ → ℤ → ℤ
ior w x y = cast_signed w (bit_or (cast_unsigned w x) (cast_unsigned w y))

-- the bits that are set in exactly one
abbrev pub ixor : Width → ℤ → ℤ → ℤ
ixor w x y = cast_signed w (bit_xor (cast_unsigned w x) (cast_unsigned w y))

-- the amount of a shift or a rotation, modulo the width
abbrev pub amount_modulo : Width → ℤ → ℕ
amount_modulo w y = cast_unsigned w y % bits w

-- the number shifted to the left by an amount modulo the width, wrapped
abbrev pub ishl : Width → ℤ → ℤ → ℤ
ishl w x y = int_wrap w (x *ℤ pos (2 ^ amount_modulo w y))

-- the quotient by 2 to the power of the amount, rounded down
abbrev pub ishr_s : Width → ℤ → ℤ → ℤ
ishr_s w x y = int_shr x (amount_modulo w y)

-- the number shifted to the right by an amount modulo the width, with zeros from above
abbrev pub ishr_u : Width → ℕ → ℕ → ℕ
ishr_u w n k = n / 2 ^ (k % bits w)

-- n of b bits, rotated left by k of them: the low bits go up, the k highest come in below
abbrev pub rotated_left : ℕ → ℕ → ℕ → ℕ
rotated_left b n k = n * 2 ^ k % 2 ^ b + n / 2 ^ (b - k)

-- the bits rotated to the left by an amount modulo the width
abbrev pub irotl : Width → ℤ → ℤ → ℤ
irotl w x y = cast_signed w (rotated_left (bits w) (cast_unsigned w x) (amount_modulo w y))

-- the bits rotated to the right by an amount modulo the width: to the left by the rest of the bits
abbrev pub irotr : Width → ℤ → ℤ → ℤ
irotr w x y = cast_signed w (rotated_left (bits w) (cast_unsigned w x) (bits w - amount_modulo w y))

-- ---- counts

-- how many zeros stand above the highest bit that is set; all bits for 0
abbrev pub iclz : Width → ℤ → ℤ
iclz w x = pos (leading_zeros w (cast_unsigned w x))

-- how many zeros stand below the lowest bit that is set; all bits for 0
abbrev pub ictz : Width → ℤ → ℤ
ictz w x = pos (trailing_zeros w (cast_unsigned w x))

-- how many bits are set
abbrev pub ipopcnt : Width → ℤ → ℤ
ipopcnt w x = pos (count_ones (cast_unsigned w x))

-- ---- comparisons

-- whether the number is 0
abbrev pub ieqz : ℤ → Bool
ieqz x = int_eq x (pos 0)

-- whether the numbers are equal
abbrev pub ieq : ℤ → ℤ → Bool
ieq x y = int_eq x y

-- whether the numbers differ
abbrev pub ine : ℤ → ℤ → Bool
ine x y = not (int_eq x y)

-- whether the first is less, both read signed
abbrev pub ilt_s : ℤ → ℤ → Bool
ilt_s = int_lt

-- whether the first is less, both read unsigned
abbrev pub ilt_u : ℕ → ℕ → Bool
ilt_u = nat_lt

-- whether the first is at most the second, both read signed
abbrev pub ile_s : ℤ → ℤ → Bool
ile_s = int_le

-- whether the first is at most the second, both read unsigned
abbrev pub ile_u : ℕ → ℕ → Bool
ile_u = nat_le

-- greater is less, and at least is at most, of the numbers exchanged
abbrev pub igt_s : ℤ → ℤ → Bool
igt_s x y = ilt_s y x

-- whether the first is greater, both read unsigned
abbrev pub igt_u : ℕ → ℕ → Bool
igt_u m n = ilt_u n m

-- whether the first is at least the second, both read signed
abbrev pub ige_s : ℤ → ℤ → Bool
ige_s x y = ile_s y x

-- whether the first is at least the second, both read unsigned
abbrev pub ige_u : ℕ → ℕ → Bool
ige_u m n = ile_u n m

-- ---- numbers of 128 bits, in two words (the wide-arithmetic proposal)

-- the number of a low and a high word, read unsigned
abbrev pub unsigned_of : ℤ → ℤ → ℕ
unsigned_of lo hi = cast_unsigned w64 hi * 2 ^ 64 + cast_unsigned w64 lo

-- the number of two words of 64 bits, of which the high one is read signed
abbrev pub signed_of : ℤ → ℤ → ℤ
signed_of lo hi = (hi *ℤ pos (2 ^ 64)) +ℤ pos (cast_unsigned w64 lo)

-- the sum modulo 2 to the power 128
abbrev pub add128 : ℕ → ℕ → ℕ
add128 m n = (m + n) % 2 ^ 128

-- the difference modulo 2 to the power 128
abbrev pub sub128 : ℕ → ℕ → ℕ
sub128 m n = (m + 2 ^ 128 - n) % 2 ^ 128
