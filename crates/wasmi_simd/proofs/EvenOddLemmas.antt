-- The even and the odd lanes of a vector, as std::simd takes each out of a lane of twice the width, their sums, and the
-- sums of their products.
use Rattle.std.proofs.Common.{ℕ, ℤ, pos, negsuc, suc, ◌+◌, ◌-◌, ◌*◌, ◌/◌, ◌%◌, ◌^◌, ◌<◌, ◌≡◌, List, length, get_or, map, replicate, ◌∙◌, ap, ap₂, arith, suc-mul, add-mul, mul_assoc, le_refl, inl, inr, Bool, true, false, ltb, bit_and, ◌+ℤ◌, ◌*ℤ◌, mod-eq_of_lt, sym, mul_comm}
use Rattle.wasmi_simd.proofs.Common.{cases_lt, pow_pos, and_mask, div-mul-add, mod-mul-add, pow-add, mul-le, shr_below, shl_below, cast_unsigned, cast_signed, zip2, Width, bits, signed, wrap, lane, unsigned, lane_below, lanes_make_vector, IsWidening, hbits, sel, pairwise_unary, pairwise_binary}
use Rattle.std.specs.Int.Signed.{shr_z}
use Rattle.wasmi_lanewise.proofs.OrderLemmas.{same_less}
use Rattle.wasmi_lanes.proofs.ItemLemmas.{AreItems, repeated, zipped}
use Rattle.wasmi_simd.proofs.HalfLemmas.{lane_bits_are, reread, rewritten}
use Rattle.wasmi_simd.proofs.WideningLemmas.{extended_fits, product_fits, sum_below, sum_of_bits, product_of_bits}
use Rattle.wasmi_types.proofs.NumbersLemmas.{wrap_signed}
use Rattle.std.proofs.lemmas.Nat.{shr-shr, mod-pow-add}

-- a lane of twice the width is made of its two halves, an even and an odd one
joined_halves : (b v k : ℕ)
    → v / 2 ^ (b * (2 * k)) % 2 ^ b + 2 ^ b * (v / 2 ^ (b * (2 * k + 1)) % 2 ^ b) ≡ v / 2 ^ ((b + b) * k) % 2 ^ (b + b)
joined_halves b v k =
    let first : b * (2 * k) ≡ (b + b) * k = omega arith in
    let second : b * (2 * k + 1) ≡ (b + b) * k + b = omega arith in
    rw (first, second, ← shr-shr v ((b + b) * k) b, mod-pow-add (v / 2 ^ ((b + b) * k)) b b) (omega arith)

-- ---- a width that is twice another

-- a signed number of two narrow lanes, shifted to the right by the width of one, is the odd one, read signed
shifted_is : (narrow wide : Width) (v high : ℕ) → ltb v (2 ^ hbits wide) ≡ ltb high (2 ^ hbits narrow)
    → v / 2 ^ bits narrow ≡ high
    → (2 ^ bits wide - suc v) / 2 ^ bits narrow ≡ 2 ^ bits narrow - suc high
    → shr_z (cast_signed wide v) (2 ^ bits narrow) ≡ cast_signed narrow high
shifted_is narrow wide v high sign up down = rw sign (by_sign (ltb high (2 ^ hbits narrow)))
  where
    by_sign : (t : Bool)
        → shr_z (sel t (pos v) (negsuc (2 ^ bits wide - suc v))) (2 ^ bits narrow)
        ≡ sel t (pos high) (negsuc (2 ^ bits narrow - suc high))
    by_sign true = ap pos up
    by_sign false = ap negsuc down

module _ {narrow wide : Width} {n : ℕ} (widens : IsWidening narrow wide n) (high low : ℕ)
    (fits_high : high < 2 ^ bits narrow) (fits_low : low < 2 ^ bits narrow) where
  -- a number of two halves, shifted to the right as a signed number, is its upper half, read signed
  upper_signed : shr_z (cast_signed wide (high * 2 ^ bits narrow + low)) (2 ^ bits narrow) ≡ cast_signed narrow high
  upper_signed =
      let p : ℕ = 2 ^ bits narrow in
      let h : ℕ = 2 ^ hbits narrow in
      let v : ℕ = high * p + low in
      let whole : 2 ^ bits wide ≡ p * p = rw widens.twice (pow-add 2 (bits narrow) (bits narrow)) in
      let half : 2 ^ hbits wide ≡ h * p = rw widens.half (pow-add 2 (hbits narrow) (bits narrow)) in
      let quotient : v / p ≡ high = div-mul-add high p low fits_low in
      let next : suc high * p ≡ high * p + p = suc-mul high p in
      let rest : p * p ≡ (p - suc high) * p + suc high * p =
      ap (λ k. k * p) (let e : p ≡ (p - suc high) + suc high = omega arith in e)
      ∙ add-mul (p - suc high) (suc high) p in
      let left : 2 ^ bits wide - suc v ≡ (p - suc high) * p + (p - suc low) = omega (arith, whole, rest, next) in
      shifted_is narrow wide v high
      (same_less v (2 ^ hbits wide) high h
      (λ below. rw quotient at (shr_below v (hbits narrow) (bits narrow) (rw widens.half at below)))
      (λ above. elim (cases_lt high h) [
        | inl under ↦ absurd (omega (arith, half, next, mul-le (suc high) p h p (omega arith) (le_refl p)))
        | inr over ↦ over
      ])) quotient
      (ap (λ k. k / p) left ∙ div-mul-add (p - suc high) p (p - suc low) (omega arith))

  -- shifted to the left, it is its lower half in the place of the upper one
  lower_shifted : (high * 2 ^ bits narrow + low) * 2 ^ bits narrow % 2 ^ bits wide ≡ low * 2 ^ bits narrow + 0
  lower_shifted =
      let p : ℕ = 2 ^ bits narrow in
      let whole : 2 ^ bits wide ≡ p * p = rw widens.twice (pow-add 2 (bits narrow) (bits narrow)) in
      let small = rw (pow-add 2 (bits narrow) (bits narrow)) at (shl_below low (bits narrow) (bits narrow) fits_low) in
      rw (whole, add-mul (high * p) low p, mul_assoc high p p, mod-mul-add high (p * p) (low * p) small) (omega arith)

-- ---- the even and the odd lanes of a vector

module _ {narrow wide : Width} {n : ℕ} (widens : IsWidening narrow wide n) (v : ℕ) where
  abbrev even : ℕ → ℕ
  even i = lane narrow v (2 * i)

  abbrev odd : ℕ → ℕ
  odd i = lane narrow v (2 * i + 1)

  -- a lane of twice the width is an even lane and, above it, the odd one
  pub pair_is : (i : ℕ) → lane wide v i ≡ odd i * 2 ^ bits narrow + even i
  pair_is i = ap (λ k. v / 2 ^ (k * i) % 2 ^ k) widens.twice ∙ sym (joined_halves (bits narrow) v i)
      ∙ omega (arith, mul_comm (odd i) (2 ^ bits narrow))

  module _ (xs : List ℕ) (long : length xs ≡ n) (is : (i : ℕ) → i < n → get_or xs i 0 ≡ lane wide v i) where
    -- xs is the wide lanes
    of_v : AreItems n 0 (lane wide v) xs
    of_v = record { long = long; are = is }

    -- lane i of the wide lanes, masked to the narrow width, is the even narrow lane
    pub even_at : (i : ℕ) → i < n → get_or (zip2 bit_and xs (replicate n (2 ^ bits narrow - 1))) i 0 ≡ even i
    even_at i inside =
        let masked = zipped bit_and of_v (repeated n (2 ^ bits narrow - 1)) in
        masked.are i inside ∙ and_mask (lane wide v i) (bits narrow) ∙ ap (λ m. m % 2 ^ bits narrow) (pair_is i)
        ∙ mod-mul-add (odd i) (2 ^ bits narrow) (even i) (lane_below narrow v (2 * i))

    -- lane i of the wide lanes, shifted to the right by the narrow width, is the odd narrow lane
    pub odd_at : (i : ℕ) → i < n → get_or (zip2 (λ a b. a / 2 ^ b) xs (replicate n (bits narrow))) i 0 ≡ odd i
    odd_at i inside =
        let shifted = zipped (λ a b. a / 2 ^ b) of_v (repeated n (bits narrow)) in
        shifted.are i inside ∙ ap (λ m. m / 2 ^ bits narrow) (pair_is i)
        ∙ div-mul-add (odd i) (2 ^ bits narrow) (even i) (lane_below narrow v (2 * i))

  module _ (xs : List ℤ) (long : length xs ≡ n)
      (is : (i : ℕ) → i < n → get_or xs i (pos 0) ≡ cast_signed wide (lane wide v i)) where
    abbrev words : List ℕ
    words = map (cast_unsigned wide) xs

    abbrev shifted_right : ℕ → ℕ → ℕ
    shifted_right a b = cast_unsigned wide (shr_z (cast_signed wide a) (2 ^ b))

    abbrev shifted_left : ℕ → ℕ → ℕ
    shifted_left a b = a * 2 ^ b % 2 ^ bits wide

    -- the bits of the wide lanes are those of their two narrow lanes, the odd one the upper
    words_are : AreItems n 0 (λ i. odd i * 2 ^ bits narrow + even i) words
    words_are =
        let of_lanes = lane_bits_are wide n v xs (record { long = long; are = is }) in
        record { long = of_lanes.long; are = λ i inside. of_lanes.are i inside ∙ pair_is i }

    -- lane i, shifted to the right by the narrow width, is the odd narrow lane, extended with its sign
    pub odd_signed_at : (i : ℕ) → i < n → rewritten wide n (zip2 shifted_right words (replicate n (bits narrow))) i
        ≡ cast_unsigned wide (cast_signed narrow (odd i))
    odd_signed_at i inside =
        let rights = zipped shifted_right words_are (repeated n (bits narrow)) in
        reread wide n _ (λ k. cast_signed narrow (odd k)) i widens.filled
        (record {
          long = rights.long;
          are = λ k below. rights.are k below ∙ ap (cast_unsigned wide)
              (upper_signed widens (odd k) (even k) (lane_below narrow v (2 * k + 1)) (lane_below narrow v (2 * k)));
        }) (λ k. extended_fits narrow wide v (2 * k + 1) widens.wider) inside

    -- lane i, shifted to the left before, is the even narrow lane, extended with its sign
    pub even_signed_at : (i : ℕ) → i < n
        → rewritten wide n (zip2 shifted_right (zip2 shifted_left words (replicate n (bits narrow)))
        (replicate n (bits narrow))) i ≡ cast_unsigned wide (cast_signed narrow (even i))
    even_signed_at i inside =
        let lefts = zipped shifted_left words_are (repeated n (bits narrow)) in
        let rights = zipped shifted_right lefts (repeated n (bits narrow)) in
        reread wide n _ (λ k. cast_signed narrow (even k)) i widens.filled
        (record {
          long = rights.long;
          are = λ k below. rights.are k below ∙ ap (λ m. shifted_right m (bits narrow))
              (lower_shifted widens (odd k) (even k) (lane_below narrow v (2 * k + 1)) (lane_below narrow v (2 * k)))
              ∙ ap (cast_unsigned wide)
              (upper_signed widens (even k) 0 (lane_below narrow v (2 * k)) (pow_pos (bits narrow)));
        }) (λ k. extended_fits narrow wide v (2 * k) widens.wider) inside

-- the bits of the even or the odd narrow lanes of v, those at these places, read signed
abbrev pub AreExtended : (narrow wide : Width) (n v : ℕ) → (ℕ → ℕ) → (ℕ → ℕ) → Type 0
AreExtended narrow wide n v at x = (i : ℕ) → i < n → x i ≡ cast_unsigned wide (signed narrow (lane narrow v (at i)))

module _ {narrow wide : Width} {n r : ℕ} (widens : IsWidening narrow wide n) (below : r < 2 ^ 128) {z : ℕ → ℕ}
    (made : (i : ℕ) → i < n → lane wide r i ≡ z i) where
  module _ (v : ℕ) {x y : ℕ → ℕ} (is : (i : ℕ) → i < n → z i ≡ (x i + y i) % 2 ^ bits wide) where
    -- the sums of neighbouring lanes make the vector of these sums
    pub sums_make_vector : ((i : ℕ) → i < n → x i ≡ lane narrow v (2 * i))
        → ((i : ℕ) → i < n → y i ≡ lane narrow v (2 * i + 1))
        → r ≡ pairwise_unary narrow wide unsigned (λ p q. p + q) v
    unfolding pairwise_unary
    sums_make_vector is_x is_y = lanes_make_vector wide n r _ widens.filled below
        (λ i inside. rw (made i inside, is i inside, is_x i inside, is_y i inside)
        (mod-eq_of_lt (sum_below widens (lane_below narrow v (2 * i)) (lane_below narrow v (2 * i + 1)))))

    -- and so where the lanes were read signed
    pub signed_sums_make_vector : AreExtended narrow wide n v (λ i. 2 * i) x
        → AreExtended narrow wide n v (λ i. 2 * i + 1) y
        → r ≡ pairwise_unary narrow wide (signed narrow) (λ p q. wrap wide (p +ℤ q)) v
    unfolding pairwise_unary
    signed_sums_make_vector is_x is_y = lanes_make_vector wide n r _ widens.filled below
        (λ i inside. rw (made i inside, is i inside, is_x i inside, is_y i inside)
        (sum_of_bits wide _ _ (extended_fits narrow wide v (2 * i) widens.wider)
        (extended_fits narrow wide v (2 * i + 1) widens.wider)))

  -- the sums of the products of two operands' neighbouring lanes, read signed, make the vector of these sums
  pub dots_make_vector : (a b : ℕ) {x x' y y' p q : ℕ → ℕ}
      → ((i : ℕ) → i < n → z i ≡ (p i + q i) % 2 ^ bits wide)
      → ((i : ℕ) → i < n → p i ≡ x i * y i % 2 ^ bits wide)
      → ((i : ℕ) → i < n → q i ≡ x' i * y' i % 2 ^ bits wide)
      → AreExtended narrow wide n a (λ i. 2 * i) x → AreExtended narrow wide n a (λ i. 2 * i + 1) x'
      → AreExtended narrow wide n b (λ i. 2 * i) y → AreExtended narrow wide n b (λ i. 2 * i + 1) y'
      → r ≡ pairwise_binary narrow wide (signed narrow) (λ x x' y y'. wrap wide ((x *ℤ y) +ℤ (x' *ℤ y'))) a b
  unfolding pairwise_binary
  dots_make_vector a b is is_p is_q is_x is_x' is_y is_y' =
      let fits = λ (v k : ℕ). extended_fits narrow wide v k widens.wider in
      let room = λ (k : ℕ). product_fits narrow wide a k b k widens.room in
      let product = λ (k : ℕ). product_of_bits wide _ _ (fits a k) (fits b k) ∙ wrap_signed wide _ (room k) in
      lanes_make_vector wide n r _ widens.filled below
      (λ i inside. rw (made i inside, is i inside, is_p i inside, is_q i inside)
      (rw (is_x i inside, is_y i inside, is_x' i inside, is_y' i inside)
      (ap₂ (λ x y. (x + y) % 2 ^ bits wide) (product (2 * i)) (product (2 * i + 1))
      ∙ sum_of_bits wide _ _ (room (2 * i)) (room (2 * i + 1)))))
