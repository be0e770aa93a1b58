-- Lanes of vectors that are made of narrower lanes or of wider ones, and signed numbers at twice their width: their
-- wrapped sums and products, and what fits.
use Rattle.std.proofs.Common.{ℕ, suc, ◌+◌, ◌-◌, ◌*◌, ◌%◌, ◌^◌, ◌<◌, ◌≤◌, ◌≡◌, sym, ◌∙◌, ap, arith, inl, inr, ℤ, leb, nat_lt, if◌then◌else◌, refl, le_refl, pow-suc, ◌+ℤ◌, ◌*ℤ◌, FitsSigned, Bool, mod-eq_of_lt, mod-lt, T, unsigned_abs, zero-add}
use Rattle.wasmi_simd.proofs.Common.{pow_pos, mul-le, shl_below, cast_unsigned, int_wrap, pow_mono, cases_lt, lt-ltb, le-ltb, le-leb, Width, w8, w16, w32, w64, bits, wrap, signed, lane, lane_count, signed_fits, unsigned, lane_below, lane_of_from, some_bits, IsWidening, hbits, half_unary, half_binary, pairwise_unary, pairwise_binary, from_low_high}
use Rattle.std.proofs.lemmas.Int.{of_z-to_z, wrapping_add_is, wrapping_mul_is, fits_signed_mul, to_z-of_z}
use Rattle.std.proofs.Math.Facts.{sfits_widen}
use Rattle.wasmi_types.proofs.NumbersLemmas.{wrap_below, wrap_signed}
use Rattle.std.proofs.lemmas.Float.{T_from_true}
use Rattle.wasmi_lanewise.proofs.SaturationLemmas.{abs_at_most}
use mir.Syntax.{w128}
use Rattle.wasmi_simd.proofs.ReductionLemmas.{bits_below, bit_of_first, test_of_numbers}

-- lanes made of the wide lanes of two vectors: numbers that are `low` below n and `high` from n on
pub by_halves : (n i : ℕ) (f low high : ℕ → ℕ) → ((k : ℕ) → k < n → f k ≡ low k)
    → ((k : ℕ) → k < n → f (n + k) ≡ high k) → i < 2 * n
    → f i ≡ (if nat_lt i n then low i else high (i - n))
by_halves n i f low high is_low is_high inside =
    elim (cases_lt i n) [
      | inl below ↦ rw (lt-ltb i n below) (is_low i below)
      | inr above ↦
          let at : i ≡ n + (i - n) = omega arith in
          rw (le-ltb i n above) (ap f at ∙ is_high (i - n) (omega arith))
    ]

-- for wrapped sums and products: a number wrapped to w bits and read signed has the wrapped number for its bits
pub bits_of_wrapped : (w : Width) (z : ℤ) → cast_unsigned w (int_wrap w z) ≡ wrap w z
unfolding int_wrap
bits_of_wrapped w z = of_z-to_z w (wrap w z) (wrap_below w z)

-- the bits of signed numbers, added modulo 2 ^ w, are their sum, wrapped
pub sum_of_bits : (w : Width) (x y : ℤ) → FitsSigned w x → FitsSigned w y
    → (cast_unsigned w x + cast_unsigned w y) % 2 ^ bits w ≡ wrap w (x +ℤ y)
sum_of_bits w x y fits_x fits_y =
    sym (of_z-to_z w _ (mod-lt _ (pow_pos (bits w)))) ∙ ap (cast_unsigned w) (wrapping_add_is w x y fits_x fits_y)
    ∙ bits_of_wrapped w (x +ℤ y)

-- the bits of signed numbers, multiplied modulo 2 ^ w, are their product, wrapped
pub product_of_bits : (w : Width) (x y : ℤ) → FitsSigned w x → FitsSigned w y
    → cast_unsigned w x * cast_unsigned w y % 2 ^ bits w ≡ wrap w (x *ℤ y)
product_of_bits w x y fits_x fits_y =
    sym (of_z-to_z w _ (mod-lt _ (pow_pos (bits w)))) ∙ ap (cast_unsigned w) (wrapping_mul_is w x y fits_x fits_y)
    ∙ bits_of_wrapped w (x *ℤ y)

-- a lane that is read signed is in the range of a wider signed type too
pub extended_fits : (narrow wide : Width) (v i : ℕ) → T (leb (hbits narrow) (hbits wide))
    → FitsSigned wide (signed narrow (lane narrow v i))
extended_fits narrow wide v i wider = sfits_widen wider (signed_fits narrow (lane narrow v i) (lane_below narrow v i))

-- the product of two lanes that are read signed is in the range of a wider signed type
pub product_fits : (narrow wide : Width) (a i b j : ℕ) → 2 ^ hbits narrow * 2 ^ hbits narrow < 2 ^ hbits wide
    → FitsSigned wide (signed narrow (lane narrow a i) *ℤ signed narrow (lane narrow b j))
product_fits narrow wide a i b j room =
    fits_signed_mul wide (signed narrow (lane narrow a i)) (signed narrow (lane narrow b j)) (2 ^ hbits narrow)
    (2 ^ hbits narrow) (at_most a i) (at_most b j) room
  where
    at_most : (v k : ℕ) → unsigned_abs (signed narrow (lane narrow v k)) ≤ 2 ^ hbits narrow
    at_most v k = abs_at_most _ (signed_fits narrow (lane narrow v k) (lane_below narrow v k))

module _ {narrow wide : Width} {n : ℕ} (widens : IsWidening narrow wide n) {x y : ℕ} where
  -- the product of two numbers of the narrow width is below 2 to the power of the wide one
  pub product_below : x < 2 ^ bits narrow → y < 2 ^ bits narrow → x * y < 2 ^ bits wide
  product_below fits_x fits_y =
      let b = bits narrow in
      let whole : x * 2 ^ b < 2 ^ bits wide = rw widens.twice (shl_below x b b fits_x) in
      omega (arith, mul-le x y x (2 ^ b) (le_refl x) (omega arith))

  -- and so is their sum
  pub sum_below : x < 2 ^ bits narrow → y < 2 ^ bits narrow → x + y < 2 ^ bits wide
  sum_below fits_x fits_y =
      let b = bits narrow in
      let more : suc b ≤ bits wide = omega (arith, widens.twice, some_bits narrow) in
      omega (arith, pow-suc 2 b, pow_mono {i = suc b} {j = bits wide} more)

-- ---- lanes made of narrower ones

module _ {A : Type 0} (narrow wide : Width) (read : ℕ → A) (i : ℕ) (inside : i < lane_count wide) where
  -- lane i of a row of half a vector is the row of the narrow lane first + i, at the wide width
  pub lane_of_half : (first : ℕ) (row : A → ℕ) (v : ℕ)
      → lane wide (half_unary narrow wide first read row v) i ≡ row (read (lane narrow v (first + i))) % 2 ^ bits wide
  unfolding half_unary
  lane_of_half first row v = lane_of_from wide i inside _

  -- lane i of a row of half of each operand is the row of their narrow lanes first + i, at the wide width
  pub lane_of_halves : (first : ℕ) (row : A → A → ℕ) (a b : ℕ)
      → lane wide (half_binary narrow wide first read row a b) i
      ≡ row (read (lane narrow a (first + i))) (read (lane narrow b (first + i))) % 2 ^ bits wide
  unfolding half_binary
  lane_of_halves first row a b = lane_of_from wide i inside _

  -- lane i of a row of pairs is the row of the narrow lanes 2 * i and 2 * i + 1, at the wide width
  pub lane_of_pair : (row : A → A → ℕ) (v : ℕ)
      → lane wide (pairwise_unary narrow wide read row v) i
      ≡ row (read (lane narrow v (2 * i))) (read (lane narrow v (2 * i + 1))) % 2 ^ bits wide
  unfolding pairwise_unary
  lane_of_pair row v = lane_of_from wide i inside _

  -- lane i of a row of two operands' pairs is the row of their narrow lanes 2 * i and 2 * i + 1, at the wide width
  pub lane_of_pairs : (row : A → A → A → A → ℕ) (a b : ℕ)
      → lane wide (pairwise_binary narrow wide read row a b) i
      ≡ row (read (lane narrow a (2 * i))) (read (lane narrow a (2 * i + 1))) (read (lane narrow b (2 * i)))
      (read (lane narrow b (2 * i + 1))) % 2 ^ bits wide
  unfolding pairwise_binary
  lane_of_pairs row a b = lane_of_from wide i inside _

-- ---- extended lanes

-- a number in the signed range, wrapped to a lane, is read of it as itself
pub signed_of_wrapped : (w : Width) (z : ℤ) → FitsSigned w z → signed w (wrap w z) ≡ z
signed_of_wrapped w z fits = ap (signed w) (wrap_signed w z fits) ∙ to_z-of_z w z fits

-- a wider signed type has at least as many bits below its sign
wider_half : (narrow wide : Width) → bits narrow ≤ bits wide → T (leb (hbits narrow) (hbits wide))
wider_half narrow wide wider = T_from_true (leb (hbits narrow) (hbits wide))
    (le-leb (hbits narrow) (hbits wide) (omega (arith, one_less narrow, one_less wide)))
  where
    one_less : (w : Width) → bits w ≡ hbits w + 1
    one_less = elim [ w8 ↦ refl | w16 ↦ refl | w32 ↦ refl | w64 ↦ refl | w128 ↦ refl ]

module _ (narrow wide : Width) (first v i : ℕ) (wider : bits narrow ≤ bits wide) (inside : i < lane_count wide) where
  -- lane i of a half that is extended with its signs is, read signed, the narrow lane read signed
  pub signed_of_extended : signed wide (lane wide (half_unary narrow wide first (signed narrow) (wrap wide) v) i)
      ≡ signed narrow (lane narrow v (first + i))
  signed_of_extended =
      let z : ℤ = signed narrow (lane narrow v (first + i)) in
      rw (lane_of_half narrow wide (signed narrow) i inside first (wrap wide) v, mod-eq_of_lt (wrap_below wide z))
      (signed_of_wrapped wide z (extended_fits narrow wide v (first + i) (wider_half narrow wide wider)))

  -- lane i of a half that is extended without signs is the narrow lane
  pub lane_of_extended : lane wide (half_unary narrow wide first unsigned (λ x. x) v) i ≡ lane narrow v (first + i)
  lane_of_extended =
      let more : 2 ^ bits narrow ≤ 2 ^ bits wide = pow_mono wider in
      let below : lane narrow v (first + i) < 2 ^ bits narrow = lane_below narrow v (first + i) in
      lane_of_half narrow wide unsigned i inside first (λ x. x) v ∙ mod-eq_of_lt (omega arith)

-- ---- lanes made of wider ones

module _ {A : Type 0} (wide narrow : Width) (read : ℕ → A) (row : A → ℕ) (low high i : ℕ) where
  -- the row of a lane of either operand, wrapped
  chosen : ℕ → Bool → ℕ
  chosen k t = (if t then row (read (lane wide low k)) else row (read (lane wide high (k - lane_count wide)))) % 2 ^
      bits narrow

  -- lane k of two operands' wide lanes made narrow is that of `low`, where k is one of its lanes, else of `high`
  lane_chosen : (k : ℕ) → k < lane_count narrow
      → lane narrow (from_low_high wide narrow read row low high) k ≡ chosen k (nat_lt k (lane_count wide))
  unfolding from_low_high chosen
  lane_chosen k inside = lane_of_from narrow k inside _

  -- lane i is the row of the wide lane i of `low`, where that is one of its lanes
  pub lane_of_low : i < lane_count wide → i < lane_count narrow
      → lane narrow (from_low_high wide narrow read row low high) i ≡ row (read (lane wide low i)) % 2 ^ bits narrow
  unfolding chosen
  lane_of_low first inside = lane_chosen i inside ∙ ap (chosen i) (lt-ltb i (lane_count wide) first)

  -- lane i of those after `low` is the row of the wide lane i of `high`
  pub lane_of_high : lane_count wide + i < lane_count narrow
      → lane narrow (from_low_high wide narrow read row low high) (lane_count wide + i)
      ≡ row (read (lane wide high i)) % 2 ^ bits narrow
  unfolding chosen
  lane_of_high inside =
      let n : ℕ = lane_count wide in
      let back : n + i - n ≡ i = omega arith in
      rw (lane_chosen (n + i) inside, le-ltb (n + i) n (omega arith), back)

-- for the laws on lanes
pub ruleset laws = (
  lane_of_half,
  lane_of_halves,
  lane_of_pair,
  lane_of_pairs,
  signed_of_extended,
  lane_of_extended,
  zero-add,
  signed_of_wrapped,
  wrap_below,
  lane_of_low,
  lane_of_high,
  bit_of_first,
  bits_below,
  test_of_numbers,
)
