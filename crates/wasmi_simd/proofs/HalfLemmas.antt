-- The lanes of half a vector, as std::simd takes, extends and multiplies them, and lanes as the bits of signed numbers,
-- which it writes to bytes and reads again.
use Rattle.std.proofs.Common.{ℕ, suc, ℤ, pos, negsuc, ◌*ℤ◌, Bool, true, false, ltb, bit_xor, replicate, ◌+◌, ◌-◌, ◌*◌, ◌%◌, ◌^◌, ◌<◌, ◌≤◌, ◌≡◌, ◌⊎◌, inl, inr, List, ◌++◌, length, get_or, map, refl, sym, ◌∙◌, ap, arith, FitsSigned, mod-eq_of_lt, T}
use Rattle.wasmi_simd.proofs.Common.{pick_l_left, pick_l-range_with_len, get_or-chunk, cases_lt, ltb-true, ltb-false, get_or_past, length-map, pow_pos, cast_unsigned, cast_signed, digits_l, number_l, zip2, Width, w8, w16, bits, signed, wrap, lane, unsigned, digit_at, written_at, lane_below, lanes_make_vector, IsWidening, half_unary, half_binary, sel}
use Rattle.std.specs.List.{range_with_len}
use Rattle.std.proofs.lemmas.Int.{of_z-to_z}
use Rattle.std.proofs.lemmas.List.FromFn.{length-range_with_len}
use Rattle.wasmi_lanes.proofs.ItemLemmas.{AreItems, items, repeated, mapped, zipped}
use Rattle.wasmi_lanes.proofs.TopLemmas.{xor_top}
use Rattle.wasmi_types.proofs.NumbersLemmas.{wrap_signed}
use Rattle.wasmi_simd.proofs.WideningLemmas.{extended_fits, product_of_bits, product_below}
use lib.Lanes.{pick_l, all_below}
use mir.ValLaws.{of_z_fits}

-- neighbouring items, as those of half a vector, picked from a list and a copy of it
extracted : {n : ℕ} {f : ℕ → ℕ} {xs : List ℕ} (first count : ℕ) → AreItems n 0 f xs
    → T (all_below n (range_with_len first count)) → first + count ≤ n
    → AreItems count 0 (λ i. f (first + i)) (pick_l 0 (xs ++ xs) (range_with_len first count))
extracted {n} {xs} first count of_x inside room = record {
  long = length-map (range_with_len first count) (λ k. get_or (xs ++ xs) k 0) ∙ length-range_with_len first count;
  are = λ i below.
      rw (
        pick_l_left 0 xs xs n (range_with_len first count) of_x.long inside,
        pick_l-range_with_len 0 xs first count (omega (arith, of_x.long)),
        get_or-chunk first count xs i 0 below,
      )
      (of_x.are (first + i) (omega arith));
}

-- neighbouring lanes, as those of half a vector, picked from the list of all lanes
pub extracted_lane : (w : Width) (v : ℕ) (xs : List ℕ) (n first count : ℕ) → length xs ≡ n
    → T (all_below n (range_with_len first count)) → first + count ≤ n
    → ((k : ℕ) → k < n → get_or xs k 0 ≡ lane w v k)
    → (i : ℕ) → i < count → get_or (pick_l 0 (xs ++ xs) (range_with_len first count)) i 0 ≡ lane w v (first + i)
extracted_lane w v xs n first count long inside room are =
    (extracted first count (record { long = long; are = are }) inside room).are

-- the bits of lanes that were read signed
pub lane_bits_are : (w : Width) (n v : ℕ) (xs : List ℤ) → AreItems n (pos 0) (λ i. cast_signed w (lane w v i)) xs
    → AreItems n 0 (lane w v) (map (cast_unsigned w) xs)
lane_bits_are w n v xs of_v =
    let words = mapped of_v (cast_unsigned w) in
    record { long = words.long; are = λ i inside. words.are i inside ∙ of_z-to_z w (lane w v i) (lane_below w v i) }

-- lane i of lanes that are written to bytes and read of them again
abbrev pub rewritten : Width → ℕ → List ℕ → ℕ → ℕ
rewritten w n xs i = get_or (digits_l (2 ^ bits w) n (number_l 256 (digits_l 256 16 (number_l (2 ^ bits w) xs)))) i 0

-- lanes that are the bits of signed numbers, read from the bytes to which they were written
pub reread : (w : Width) (n : ℕ) (xs : List ℕ) (f : ℕ → ℤ) (i : ℕ) → n * bits w ≡ 128
    → AreItems n 0 (λ k. cast_unsigned w (f k)) xs → ((k : ℕ) → FitsSigned w (f k)) → i < n
    → rewritten w n xs i ≡ cast_unsigned w (f i)
reread w n xs f i filled of_f fits below =
    let r = number_l 256 (digits_l 256 16 (number_l (2 ^ bits w) xs)) in
    digit_at (bits w) n r i 0 below
    ∙ sym (written_at w n xs r i filled of_f.long (λ k. small k (cases_lt k n)) below refl)
    ∙ of_f.are i below
  where
    small : (k : ℕ) → (k < n) ⊎ (n ≤ k) → get_or xs k 0 < 2 ^ bits w
    small k (inl inside) = rw (of_f.are k inside) (of_z_fits w (f k) (fits k)).fits
    small k (inr past) = rw (get_or_past xs k 0 (omega (arith, of_f.long))) (pow_pos (bits w))

-- lane i of the half that begins with lane `first` is lane `at i`, where each half has n lanes
pub record IsHalf (n first : ℕ) (at : ℕ → ℕ) : Type 0 where
  pub place : (i : ℕ) → at i ≡ first + i
  pub room : first + n ≤ n + n

-- the lower half begins with lane 0
pub lower : {n : ℕ} → IsHalf n 0 (λ i. i)
lower = record { place = λ i. omega arith; room = omega arith }

-- the upper half begins with lane n
pub upper : {n : ℕ} → IsHalf n n (λ i. n + i)
upper = record { place = λ i. refl; room = omega arith }

module _ {narrow wide : Width} {n first : ℕ} {at : ℕ → ℕ} (widens : IsWidening narrow wide n)
    (half : IsHalf n first at) where
  -- the lanes of half a vector, read signed and extended
  pub extended_at : T (all_below (n + n) (range_with_len first n)) → (v : ℕ) (xs : List ℤ) → length xs ≡ n + n
      → ((i : ℕ) → i < n + n → get_or xs i (pos 0) ≡ cast_signed narrow (lane narrow v i)) → (i : ℕ) → i < n
      → rewritten wide n (map (λ m. cast_unsigned wide (cast_signed narrow m))
      (pick_l 0 (map (cast_unsigned narrow) xs ++ map (cast_unsigned narrow) xs) (range_with_len first n))) i
      ≡ cast_unsigned wide (cast_signed narrow (lane narrow v (at i)))
  extended_at inside v xs long are i below =
      let extend = λ (m : ℕ). cast_unsigned wide (cast_signed narrow m) in
      let bits_are = lane_bits_are narrow (n + n) v xs (record { long = long; are = are }) in
      reread wide n _ (λ k. cast_signed narrow (lane narrow v (first + k))) i widens.filled
      (mapped (extracted first n bits_are inside half.room) extend)
      (λ k. extended_fits narrow wide v (first + k) widens.wider) below
      ∙ ap (λ k. extend (lane narrow v k)) (sym (half.place i))

  module _ {r : ℕ} (below : r < 2 ^ 128) {z : ℕ → ℕ} (made : (i : ℕ) → i < n → lane wide r i ≡ z i) where
    -- the narrow lanes of half a vector make the vector of these lanes
    pub half_makes_vector : (v : ℕ) → ((i : ℕ) → i < n → z i ≡ lane narrow v (at i))
        → r ≡ half_unary narrow wide first unsigned (λ m. m) v
    unfolding half_unary
    half_makes_vector v is = lanes_make_vector wide n r _ widens.filled below
        (λ i inside. made i inside ∙ is i inside ∙ ap (lane narrow v) (half.place i))

    -- the bits of narrow lanes that were read signed make the vector of these lanes, extended
    pub extended_make_vector : (v : ℕ)
        → ((i : ℕ) → i < n → z i ≡ cast_unsigned wide (signed narrow (lane narrow v (at i))))
        → r ≡ half_unary narrow wide first (signed narrow) (wrap wide) v
    unfolding half_unary
    extended_make_vector v is = lanes_make_vector wide n r _ widens.filled below
        (λ i inside. rw (made i inside, is i inside, ← half.place i)
        (sym (wrap_signed wide _ (extended_fits narrow wide v (at i) widens.wider))))

    module _ (a b : ℕ) {x y : ℕ → ℕ} (is : (i : ℕ) → i < n → z i ≡ x i * y i % 2 ^ bits wide) where
      -- the products of two operands' narrow lanes make the vector of these products
      pub products_make_vector : ((i : ℕ) → i < n → x i ≡ lane narrow a (at i))
          → ((i : ℕ) → i < n → y i ≡ lane narrow b (at i))
          → r ≡ half_binary narrow wide first unsigned (λ p q. p * q) a b
      unfolding half_binary
      products_make_vector is_x is_y = lanes_make_vector wide n r _ widens.filled below
          (λ i inside. rw (made i inside, is i inside, is_x i inside, is_y i inside, ← half.place i)
          (mod-eq_of_lt (product_below widens (lane_below narrow a (at i)) (lane_below narrow b (at i)))))

      -- and so where the lanes were read signed
      pub signed_products_make_vector :
          ((i : ℕ) → i < n → x i ≡ cast_unsigned wide (signed narrow (lane narrow a (at i))))
          → ((i : ℕ) → i < n → y i ≡ cast_unsigned wide (signed narrow (lane narrow b (at i))))
          → r ≡ half_binary narrow wide first (signed narrow) (λ p q. wrap wide (p *ℤ q)) a b
      unfolding half_binary
      signed_products_make_vector is_x is_y = lanes_make_vector wide n r _ widens.filled below
          (λ i inside. rw (made i inside, is i inside, is_x i inside, is_y i inside, ← half.place i)
          (product_of_bits wide _ _ (extended_fits narrow wide a (at i) widens.wider)
          (extended_fits narrow wide b (at i) widens.wider)))

-- a number of 8 bits extended to 16: its highest bit is flipped and taken off again
flipped_is : (x : ℕ) → x < 256 → (bit_xor x 128 + (65536 - 128)) % 65536 ≡ cast_unsigned w16 (signed w8 x)
flipped_is x fits = ap (λ k. (k + 65408) % 65536) (xor_top 7 x 1 fits (omega arith)) ∙ read (ltb x 128) refl
  where
    read : (low : Bool) → ltb x 128 ≡ low
        → ((x + 128) % 256 + 65408) % 65536 ≡ cast_unsigned w16 (sel low (pos x) (negsuc (256 - suc x)))
    read true is = let under = ltb-true x 128 is in omega arith
    read false is = let over = ltb-false x 128 is in omega arith

-- x of 8 bits in a lane of 16, with bit 7 flipped and 128 taken off, is x read signed, at 16 bits
pub sign_copied_at : (xs : List ℕ) (i x : ℕ) → length xs ≡ 8 → i < 8 → get_or xs i 0 ≡ x → x < 256
    → get_or (zip2 (λ a b. (a + (65536 - b)) % 65536) (zip2 bit_xor xs (replicate 8 128)) (replicate 8 128)) i 0
    ≡ cast_unsigned w16 (signed w8 x)
sign_copied_at xs i x long inside is fits =
    let tops = repeated 8 128 in
    let flips = zipped bit_xor (items 8 xs long) tops in
    let wide = zipped (λ a b. (a + (65536 - b)) % 65536) flips tops in
    wide.are i inside ∙ ap (λ k. (bit_xor k 128 + (65536 - 128)) % 65536) is ∙ flipped_is x fits
