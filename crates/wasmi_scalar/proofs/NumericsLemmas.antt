-- Shifts and rotations by an amount modulo the width, numbers in two words, and results that may be traps.
use Rattle.std.proofs.Common.{◌≡◌, sym, arith, ℕ, zero, suc, ◌+◌, ◌-◌, ◌*◌, ◌/◌, ◌%◌, ◌^◌, ◌<◌, refl, ap, mul-one, add-zero, zero-add, div-one, mod-eq_of_lt, Result, Ok, Err, ℤ, pos, negsuc, ◌+ℤ◌, ◌*ℤ◌, bit_or, unsigned_abs}
use Rattle.wasmi_types.specs.declared.trap.TrapCode.{TrapCode}
use Rattle.wasmi_types.proofs.NumbersLemmas.{half_below}
use Rattle.wasmi_scalar.specs.Numerics.{GivesNumber, amount_modulo, ishl, rotated_left, irotl, irotr, unsigned_of, signed_of}
use Rattle.std.specs.Int.{w64, w128, cast_unsigned, Width, cast_signed, int_wrap, int_shl, int_rem_euclid, rotate_left, rotate_right}
use Rattle.std.proofs.lemmas.Int.{ints, to_z-of_z, int_rem_euclid_is, wrapping_add_is, wrapping_sub_is}
use mir.Val.{SFits, bits}
use mir.ValLaws.{of_z_fits}
use Rattle.std.proofs.lemmas.Nat.{mod_below, or_shifted, or_comm, mod-pow-add, shl-shr, shr_below, pow_pos}
use Rattle.std.proofs.Math.Nat.{mul-mod_left, sub-zero, sub_self, mod_self, div-eq_of_lt}
use lib.Bits.{or_self}

-- a result whose value is its own number is the expected one
pub given : {N : Type 0} (result expected : Result N TrapCode) → GivesNumber (λ (n : N). n) result expected
    → result ≡ expected
given (Ok n) expected e = sym e
given (Err trap) expected e = sym e

-- two words that are read unsigned as the image of a 128-bit number are read signed as that number
pub signed_of-is : (lo hi z : ℤ) → SFits w64 lo → SFits w64 hi → SFits w128 z → unsigned_of lo hi ≡ cast_unsigned w128 z
    → signed_of lo hi ≡ z
signed_of-is lo hi z fl fh fz e = omega (arith, ints)

-- ---- `x << k` is the product by 2 to the power k

-- p times n, less p times a + 1, is p times b, where n is b + a + 1
product_moved : (a p n b : ℕ) → b + suc a ≡ n → (negsuc a *ℤ pos p) +ℤ pos (p * n) ≡ pos (b * p)
product_moved a p n b e = omega (arith, ints, ap (λ m. m * p) e)

-- the product by p of the unsigned image, cut to the width and read signed, is that of the number, wrapped
shl_is : (w : Width) (z : ℤ) (p : ℕ) → SFits w z
    → cast_signed w (cast_unsigned w z * p % 2 ^ bits w) ≡ int_wrap w (z *ℤ pos p)
unfolding int_wrap
shl_is w (pos n) p f = refl
shl_is w (negsuc n) p f =
    let rest : int_rem_euclid (negsuc n *ℤ pos p) (pos (2 ^ bits w)) ≡ pos ((2 ^ bits w - suc n) * p % 2 ^ bits w) =
    int_rem_euclid_is (negsuc n *ℤ pos p) (pos (2 ^ bits w)) (2 ^ bits w) p ((2 ^ bits w - suc n) * p)
    (pow_pos (bits w)) refl
    (product_moved n p (2 ^ bits w) (2 ^ bits w - suc n) (omega (arith, half_below w, f.sfits))) in
    sym (ap (λ z. cast_signed w (unsigned_abs z)) rest)

-- ---- rotations: the two parts share no bit

-- the bits that go up k places and those that come in below, put together, are their sum
parts_apart : (b n k j : ℕ) → n < 2 ^ b → j + k ≡ b
    → bit_or (n * 2 ^ k % 2 ^ b) (n / 2 ^ j) ≡ n * 2 ^ k % 2 ^ b + n / 2 ^ j
parts_apart b n k j h e =
    let high : n * 2 ^ k % 2 ^ b ≡ n % 2 ^ j * 2 ^ k =
    rw (← e, mod-pow-add (n * 2 ^ k) j k, shl-shr n k, mul-mod_left n (2 ^ k)) (add-zero _) in
    let turned : k + j ≡ b = omega (arith, e) in
    rw high (or_shifted (n % 2 ^ j) k (n / 2 ^ j) (shr_below n k j (rw turned h)))

-- std's two parts of a rotation to the left by k, put together, are it: its words write the amount that is left modulo
-- the width, so that none of the bits is also all of them
left_by : (b n k : ℕ) → n < 2 ^ b → k < b → bit_or (n * 2 ^ k % 2 ^ b) (n / 2 ^ ((b - k) % b)) ≡ rotated_left b n k
left_by b n zero h l =
    rw (sub-zero b, mod_self b, mul-one n, mod-eq_of_lt h, div-eq_of_lt h, div-one n, or_self n) (sym (add-zero n))
left_by b n (suc j) h l =
    let rest : (b - suc j) % b ≡ b - suc j = mod-eq_of_lt (omega (arith, l)) in
    rw rest (parts_apart b n (suc j) (b - suc j) h (omega (arith, l)))

-- std's two parts of a rotation to the right by k, put together, are one to the left by the rest of the bits
right_by : (b n k : ℕ) → n < 2 ^ b → k < b
    → bit_or (n / 2 ^ k) (n * 2 ^ ((b - k) % b) % 2 ^ b) ≡ rotated_left b n (b - k)
right_by b n zero h l =
    rw (sub-zero b, mod_self b, sub_self b, mul-mod_left n (2 ^ b), mul-one n, mod-eq_of_lt h, div-one n, or_self n)
    (sym (zero-add n))
right_by b n (suc j) h l =
    let rest : (b - suc j) % b ≡ b - suc j = mod-eq_of_lt (omega (arith, l)) in
    let back : b - (b - suc j) ≡ suc j = omega (arith, l) in
    rw (or_comm (n / 2 ^ suc j) (n * 2 ^ ((b - suc j) % b) % 2 ^ b), rest, back)
    (parts_apart b n (b - suc j) (suc j) h (omega (arith, l)))

-- ---- as the code's calls say it, where a signed number is read from its bits

-- the amount modulo the width is the one of the table
pub amount_is : (w : Width) (y : ℤ) (k : ℕ) → SFits w y → k ≡ cast_unsigned w (cast_signed w (cast_unsigned w y))
    → k % bits w ≡ amount_modulo w y
amount_is w y k f e = rw (e, to_z-of_z w y f)

-- an amount that was taken modulo the width before is the one of the table too
pub cut_amount_is : (w : Width) (y : ℤ) (k : ℕ) → 0 < bits w → SFits w y
    → k ≡ amount_modulo w (cast_signed w (cast_unsigned w y)) → k % bits w ≡ amount_modulo w y
cut_amount_is w y k p f e = rw (e, to_z-of_z w y f) (mod-eq_of_lt (mod_below (cast_unsigned w y) (bits w) p))

-- a shift to the left by the amount is the one of the table
pub shifted : (w : Width) (z y r : ℤ) (k : ℕ) → SFits w z → SFits w r → k % bits w ≡ amount_modulo w y
    → r ≡ int_shl w (cast_signed w (cast_unsigned w z)) (k % bits w) → cast_signed w (cast_unsigned w r) ≡ ishl w z y
shifted w z y r k fz fr amount e =
    rw (to_z-of_z w r fr, e, to_z-of_z w z fz, amount) (shl_is w z (2 ^ amount_modulo w y) fz)

-- std's rotation by k, where it is one to the left by `places` of k modulo the width, is that of the amount
rotated : (w : Width) (z y r : ℤ) (k : ℕ) → SFits w z → SFits w r → k % bits w ≡ amount_modulo w y
    → (rotate : ℕ → ℕ → ℕ)
    (places : ℕ → ℕ) → r ≡ cast_signed w (rotate (cast_unsigned w (cast_signed w (cast_unsigned w z))) k)
    → rotate (cast_unsigned w z) k ≡ rotated_left (bits w) (cast_unsigned w z) (places (k % bits w))
    → cast_signed w (cast_unsigned w r)
    ≡ cast_signed w (rotated_left (bits w) (cast_unsigned w z) (places (amount_modulo w y)))
rotated w z y r k fz fr amount rotate places e same = rw (to_z-of_z w r fr, e, to_z-of_z w z fz, same, amount)

module _ (w : Width) (z y r : ℤ) (k : ℕ) (p : 0 < bits w) (fz : SFits w z)
    (fr : SFits w r) (amount : k % bits w ≡ amount_modulo w y) where
  -- a rotation to the left by the amount is the one of the table
  pub rotated_to_left : r ≡ cast_signed w (rotate_left w (cast_unsigned w (cast_signed w (cast_unsigned w z))) k)
      → cast_signed w (cast_unsigned w r) ≡ irotl w z y
  rotated_to_left e = rotated w z y r k fz fr amount (rotate_left w) (λ j. j) e
      (left_by (bits w) (cast_unsigned w z) (k % bits w) (of_z_fits w z fz).fits (mod_below k (bits w) p))

  -- a rotation to the right by the amount is the one of the table
  pub rotated_to_right : r ≡ cast_signed w (rotate_right w (cast_unsigned w (cast_signed w (cast_unsigned w z))) k)
      → cast_signed w (cast_unsigned w r) ≡ irotr w z y
  rotated_to_right e = rotated w z y r k fz fr amount (rotate_right w) (λ j. bits w - j) e
      (right_by (bits w) (cast_unsigned w z) (k % bits w) (of_z_fits w z fz).fits (mod_below k (bits w) p))

-- for the instructions of `wasm`
pub ruleset numerics = (given, wrapping_add_is, wrapping_sub_is)
