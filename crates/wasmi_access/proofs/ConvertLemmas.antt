-- A number wrapped to a narrower width, as conversions and stores take it: the low bits of a signed number.
use Rattle.std.proofs.Common.{◌≡◌, ℕ, ◌+◌, ◌-◌, ◌*◌, ◌/◌, ◌%◌, ◌^◌, ◌<◌, ◌≤◌, ◌∙◌, suc, sym, refl, ap, arith, ℤ, pos, negsuc}
use Rattle.std.specs.Int.{Width, cast_signed, cast_unsigned, int_wrap}
use Rattle.wasmi_types.specs.Numbers.{wrap}
use Rattle.wasmi_types.proofs.NumbersLemmas.{half_below, wrap_below, wrap_unsigned, wrap_signed}
use Rattle.std.proofs.lemmas.Int.{to_z-of_z, of_z-to_z, SFits-int_wrap}
use Rattle.std.proofs.lemmas.Nat.{mod_below, div-add-mod', div_below, mod-mul-add, pow_pos, pow-add}
use mir.Val.{SFits, bits}

-- the low bits of a negative number: -(n + 1) modulo m, read off the complement of n in a multiple of m
complement-mod : (q m n : ℕ) → 0 < m → n < q * m → m - 1 - n % m ≡ (q * m - suc n) % m
complement-mod q m n h l =
    let small : n % m < m = mod_below n m h in
    let whole : q * m ≡ ((q - suc (n / m)) + suc (n / m)) * m = ap (λ k. k * m) (omega (arith, div_below n m q h l)) in
    let left : q * m - suc n ≡ (q - suc (n / m)) * m + (m - 1 - n % m) = omega (arith, whole, div-add-mod' n m, small) in
    rw left (sym (mod-mul-add (q - suc (n / m)) m (m - 1 - n % m) (omega (arith, small))))

-- the narrow width is a part of the wide one
part_of : (v w : Width) → bits v ≤ bits w → 2 ^ bits w ≡ 2 ^ (bits w - bits v) * 2 ^ bits v
part_of v w le = rw (← pow-add 2 (bits w - bits v) (bits v)) (ap (λ k. 2 ^ k) (omega arith))

-- a number of the width w wrapped to v is the lowest bits of its unsigned image, read signed
wrap_low : (v w : Width) (z : ℤ) → bits v ≤ bits w → SFits w z
    → int_wrap v z ≡ cast_signed v (cast_unsigned w z % 2 ^ bits v)
unfolding int_wrap
wrap_low v w (pos n) le f = refl
wrap_low v w (negsuc n) le f = rw (part_of v w le)
    (ap (cast_signed v) (complement-mod (2 ^ (bits w - bits v)) (2 ^ bits v) n (pow_pos (bits v))
    (omega (arith, half_below w, part_of v w le, f.sfits))))

-- the number below 2 to the power w of the signed number with the same low bits
wrap_wrapped : (w : Width) (z r : ℤ) → r ≡ int_wrap w z → wrap w r ≡ wrap w z
unfolding int_wrap
wrap_wrapped w z r e =
    ap (wrap w) e ∙ wrap_signed w (int_wrap w z) (SFits-int_wrap w z) ∙ of_z-to_z w (wrap w z) (wrap_below w z)

-- a number of a width that is at least as great, cut to a width, is the low bits of its unsigned image
pub image_low : (v w : Width) (z : ℤ) → bits v ≤ bits w → SFits w z → wrap v z ≡ cast_unsigned w z % 2 ^ bits v
image_low v w z le f = sym (wrap_wrapped v z (int_wrap v z) refl) ∙ wrap_signed v (int_wrap v z) (SFits-int_wrap v z)
    ∙ ap (cast_unsigned v) (wrap_low v w z le f)
    ∙ of_z-to_z v (cast_unsigned w z % 2 ^ bits v) (mod_below (cast_unsigned w z) (2 ^ bits v) (pow_pos (bits v)))

-- r is the lowest bits of a number z of the width w, read signed
module _ (v w : Width) {z r : ℤ} {n : ℕ} (le : bits v ≤ bits w) (fits : SFits w z)
    (image : n ≡ cast_unsigned w (cast_signed w (cast_unsigned w z))) (is : r ≡ cast_signed v (n % 2 ^ bits v)) where
  -- r is z, wrapped, as a conversion says it
  pub low_value : cast_signed v (cast_unsigned v r) ≡ int_wrap v z
  low_value = rw (is, image, to_z-of_z w z fits, ← wrap_low v w z le fits)
      (to_z-of_z v (int_wrap v z) (SFits-int_wrap v z))

  -- r and z, cut to the width v, are one number
  pub low_wrap : wrap v (cast_signed v (cast_unsigned v r)) ≡ wrap v z
  low_wrap = wrap_wrapped v z _ low_value

-- for the stores of low bits
pub ruleset low_bits = (image_low, wrap_unsigned)
