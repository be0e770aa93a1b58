-- Numbers cut to a width (`wrap`): unsigned and signed ones in its range, and those with the bits of one in its range.
use Rattle.std.proofs.Common.{◌≡◌, ℕ, ◌-◌, ◌^◌, ◌<◌, ◌≤◌, ◌∙◌, ap, arith, lit≤, mod-eq_of_lt}
use Rattle.std.specs.Prelude.{ℤ, pos, negsuc}
use Rattle.std.specs.Int.{Width, w8, w16, w32, w64, w128, cast_signed, cast_unsigned}
use Rattle.wasmi_types.specs.Numbers.{wrap}
use Rattle.std.proofs.lemmas.Int.{of_z-to_z}
use Rattle.std.proofs.lemmas.Nat.{mod_below, pow_pos}
use Rattle.std.proofs.Math.Facts.{sfits_to_z}
use mir.Val.{SFits, bits, hbits}

-- a width has at most as many signed numbers from 0 on as unsigned ones
pub half_below : (w : Width) → 2 ^ hbits w ≤ 2 ^ bits w
half_below = elim [ w8 ↦ lit≤ tt | w16 ↦ lit≤ tt | w32 ↦ lit≤ tt | w64 ↦ lit≤ tt | w128 ↦ lit≤ tt ]

-- a number cut to a width is below 2 to the power of it
pub wrap_below : (w : Width) (z : ℤ) → wrap w z < 2 ^ bits w
wrap_below w (pos n) = mod_below n (2 ^ bits w) (pow_pos (bits w))
wrap_below w (negsuc n) = omega (arith, pow_pos (bits w))

-- a number below 2 to the power of a width is cut to itself
pub wrap_unsigned : (w : Width) (n : ℕ) → n < 2 ^ bits w → wrap w (pos n) ≡ n
wrap_unsigned w n h = mod-eq_of_lt h

-- a signed number of a width is cut to the unsigned number with its bits
pub wrap_signed : (w : Width) (z : ℤ) → SFits w z → wrap w z ≡ cast_unsigned w z
wrap_signed w (pos n) f = mod-eq_of_lt (omega (arith, half_below w, f.sfits))
wrap_signed w (negsuc n) f =
    ap (λ k. 2 ^ bits w - 1 - k) (mod-eq_of_lt (omega (arith, half_below w, f.sfits))) ∙ omega arith

-- the number below 2 to the power of a width is cut to it from the signed number with its bits
pub wrap_of_bits : (w : Width) (n : ℕ) → n < 2 ^ bits w → wrap w (cast_signed w n) ≡ n
wrap_of_bits w n below = wrap_signed w (cast_signed w n) (sfits_to_z (record { fits = below })) ∙ of_z-to_z w n below

-- the unsigned number with the bits of a signed one is cut to the same number
pub wrap_of_image : (w : Width) (z : ℤ) → SFits w z → wrap w (pos (cast_unsigned w z)) ≡ wrap w z
wrap_of_image w z f = rw (← wrap_signed w z f) (wrap_unsigned w (wrap w z) (wrap_below w z))
