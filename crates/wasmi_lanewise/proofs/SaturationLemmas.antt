-- Clamped sums and differences of lanes read unsigned, and rounded products of q15 numbers by the halves of a product
-- of lanes whose sign was copied to 32 bits, as std::simd computes them.
use Rattle.std.proofs.Common.{ℕ, ◌+◌, ◌-◌, ◌%◌, ◌^◌, ◌<◌, ◌≡◌, List, length, get_or, map, refl, sym, ap, ◌∙◌, arith, Bool, true, false, cond, ltb, Fits, pos, ◌+ℤ◌, ◌-ℤ◌, ℤ, negsuc, suc, ◌*◌, ◌/◌, ◌≤◌, ◌⊎◌, inl, inr, ◌*ℤ◌, nat_lt, if◌then◌else◌, ap₂, FitsSigned, unsigned_abs, replicate, bit_xor, mod-lt, mod-eq_of_lt}
use Rattle.wasmi_lanewise.proofs.Common.{zip2, sel_l, Each1, add-mod_right, mul-le-mul, mod-add-mod, ltb-true, ltb-false, cases_lt, lt-ltb, ints, fits_signed_from_abs, unsigned_abs-mul, of_z-to_z, wrapping_mul_is, int_wrap_fits, Each1-get_or, Each1-from_get_or, below_from_Fits, get_or-replicate, Width, bits, clamp_unsigned, w16, w32, signed, wrap, clamp_signed, lane, lane_count, signed_fits, binary_of_lanes, lane_below, lanes_make_vector, lane_count_fills, add_sat_u, sub_sat_u, q15mulr, cast_unsigned, int_shr, pow_pos, mul-mod, mod-mod-pow, mul-le, AreItems, items, repeated, mapped, zipped, chosen_by}
use lib.Lanes.{top}
use mir.Val.{hbits, sel}
use Rattle.std.specs.Int.Signed.{shr_z}
use Rattle.wasmi_lanes.proofs.TopLemmas.{xor_top}
use Rattle.std.proofs.Math.Facts.{sfits_widen}

-- the tests by which sums and differences are clamped: for each lane, whether that of xs is less than that of ys
abbrev tests : Width → List ℕ → List ℕ → List Bool
tests w xs ys = map (top (hbits w)) (zip2 (λ x y. cond (ltb x y) (2 ^ bits w - 1) 0) xs ys)

-- what each of the numbers leaves for a sum that is clamped: the greatest number of w bits, less the number
abbrev inverted : Width → List ℕ → List ℕ
inverted w = map (λ x. 2 ^ bits w - 1 - x)

module _ (w : Width) (x y : ℕ) (fits_x : x < 2 ^ bits w) where
  -- the difference of the greater one is none where y is greater
  difference_is : y < 2 ^ bits w → (t : Bool) → ltb x y ≡ t
      → (cond t y x + (2 ^ bits w - y)) % 2 ^ bits w ≡ clamp_unsigned w (pos x -ℤ pos y)
  difference_is fits_y t is =
      ap (λ n. n % 2 ^ bits w) (moved t is) ∙ add-mod_right (x - y) (2 ^ bits w) ∙ mod-eq_of_lt (omega arith)
      ∙ omega (arith, ints)
    where
      moved : (t : Bool) → ltb x y ≡ t → cond t y x + (2 ^ bits w - y) ≡ (x - y) + 2 ^ bits w
      moved true is = omega (arith, ltb-true x y is)
      moved false is = omega (arith, ltb-false x y is)

  -- the sum with the lesser one is the greatest number where y is greater than what is left
  sum_is : (t : Bool) → ltb y (2 ^ bits w - 1 - x) ≡ t
      → (x + cond t y (2 ^ bits w - 1 - x)) % 2 ^ bits w ≡ clamp_unsigned w (pos x +ℤ pos y)
  sum_is true is =
      let less = ltb-true y (2 ^ bits w - 1 - x) is in
      mod-eq_of_lt (omega (arith, less)) ∙ omega (arith, less)
  sum_is false is =
      let more = ltb-false y (2 ^ bits w - 1 - x) is in
      mod-eq_of_lt (omega (arith, more)) ∙ omega (arith, more)

module _ (w : Width) (xs ys : List ℕ) (long_x : length xs ≡ lane_count w) (long_y : length ys ≡ lane_count w) (a b : ℕ)
    {r : ℕ} (below : r < 2 ^ 128) (is_x : (i : ℕ) → i < lane_count w → get_or xs i 0 ≡ lane w a i)
    (is_y : (i : ℕ) → i < lane_count w → get_or ys i 0 ≡ lane w b i) where
  -- the first list of the clamped sums is the lanes of a
  of_x : AreItems (lane_count w) 0 (lane w a) xs
  of_x = record { long = long_x; are = is_x }

  -- the second list of the clamped sums is the lanes of b
  of_y : AreItems (lane_count w) 0 (lane w b) ys
  of_y = record { long = long_y; are = is_y }

  -- the vector of the sums
  pub sums_u_make_vector : ((i : ℕ) → i < lane_count w → lane w r i
      ≡ get_or (zip2 (λ x y. (x + y) % 2 ^ bits w) xs (sel_l (tests w ys (inverted w xs)) ys (inverted w xs))) i 0)
      → r ≡ add_sat_u w a b
  unfolding binary_of_lanes
  sums_u_make_vector is =
      let left = mapped of_x (λ x. 2 ^ bits w - 1 - x) in
      let sums = zipped (λ x y. (x + y) % 2 ^ bits w) of_x (chosen_by w ltb of_y left of_y left) in
      lanes_make_vector w (lane_count w) r _ (lane_count_fills w) below
      (λ i inside. is i inside ∙ sums.are i inside ∙ sum_is w (lane w a i) (lane w b i) (lane_below w a i) _ refl)

  -- the vector of the differences
  pub differences_u_make_vector : ((i : ℕ) → i < lane_count w → lane w r i
      ≡ get_or (zip2 (λ x y. (x + (2 ^ bits w - y)) % 2 ^ bits w) (sel_l (tests w xs ys) ys xs) ys) i 0)
      → r ≡ sub_sat_u w a b
  unfolding binary_of_lanes
  differences_u_make_vector is =
      let greater = chosen_by w ltb of_x of_y of_y of_x in
      let differences = zipped (λ x y. (x + (2 ^ bits w - y)) % 2 ^ bits w) greater of_y in
      lanes_make_vector w (lane_count w) r _ (lane_count_fills w) below
      (λ i inside.
      is i inside ∙ differences.are i inside
      ∙ difference_is w (lane w a i) (lane w b i) (lane_below w a i) (lane_below w b i) _ refl)

-- ---- a product of two lanes, at 32 bits

-- each factor of a rounded product, a signed number of w bits, is at most half of their range away from 0
pub abs_at_most : {w : Width} (z : ℤ) → FitsSigned w z → unsigned_abs z ≤ 2 ^ hbits w
abs_at_most (pos n) fits = let below = fits.sfits in omega arith
abs_at_most (negsuc n) fits = let below = fits.sfits in omega arith

module _ (x y : ℤ) (fits_x : FitsSigned w16 x) (fits_y : FitsSigned w16 y) where
  -- the product is at most 2 ^ 30 away from 0
  product_is_small : unsigned_abs (x *ℤ y) ≤ 2 ^ 30
  product_is_small = omega (arith, mul-le-mul (abs_at_most x fits_x) (abs_at_most y fits_y), unsigned_abs-mul x y)

  -- the largest product is far above the next one
  product_has_gap : (unsigned_abs (x *ℤ y) ≤ 2 ^ 30 - 2 ^ 15) ⊎ (2 ^ 30 ≤ unsigned_abs (x *ℤ y))
  product_has_gap = elim (cases_lt (unsigned_abs x) 32768) [
    | inl below ↦
        let bound = mul-le (unsigned_abs x) (unsigned_abs y) 32767 32768 (omega arith) (abs_at_most y fits_y) in
        inl (omega (arith, bound, unsigned_abs-mul x y))
    | inr least_x ↦ elim (cases_lt (unsigned_abs y) 32768) [
      | inl below ↦
          let bound = mul-le (unsigned_abs x) (unsigned_abs y) 32768 32767 (abs_at_most x fits_x) (omega arith) in
          inl (omega (arith, bound, unsigned_abs-mul x y))
      | inr least_y ↦ inr (omega (arith, mul-le-mul least_x least_y, unsigned_abs-mul x y))
    ]
  ]

  -- the product of the bits, modulo 2 ^ 32, has the bits of the product
  product_in_32_bits : cast_unsigned w32 x * cast_unsigned w32 y % 2 ^ 32 ≡ cast_unsigned w32 (x *ℤ y)
  product_in_32_bits = sym (of_z-to_z w32 _ (mod-lt _ (pow_pos 32)))
      ∙ ap (cast_unsigned w32)
      (wrapping_mul_is w32 x y (sfits_widen tt fits_x) (sfits_widen tt fits_y)
      ∙ int_wrap_fits w32 (x *ℤ y) (fits_signed_from_abs w32 (x *ℤ y) (let small = product_is_small in omega arith)))

-- the bits of a lane whose sign was copied to 32 bits
abbrev pub extended : ℕ → ℕ
extended x = cast_unsigned w32 (signed w16 x)

-- the lower half of an extended lane is the lane
lower_is : (x : ℕ) → x < 65536 → extended x % 65536 ≡ x
lower_is x fits = read (ltb x 32768) refl
  where
    read : (low : Bool) → ltb x 32768 ≡ low → cast_unsigned w32 (sel low (pos x) (negsuc (65536 - suc x))) % 65536 ≡ x
    read true is = omega arith
    read false is = omega arith

-- the lower half of the product of two lanes is that of the product of the extended lanes
lower_half : (x y : ℕ) → x < 65536 → y < 65536 → x * y % 65536 ≡ extended x * extended y % 2 ^ 32 % 65536
lower_half x y fits_x fits_y =
    sym (mod-mod-pow (extended x * extended y) 16 16 ∙ mul-mod (extended x) (extended y) 65536
    ∙ ap₂ (λ a b. a * b % 65536) (lower_is x fits_x) (lower_is y fits_y))

-- ---- what is made of its halves

-- twice an upper half, but for the one whose double does not fit
abbrev pub doubled : ℕ → ℕ
doubled h = (h + (if nat_lt ((h + 32768) % 65536) 49151 then h else 16383)) % 65536

-- what a lower half, rounded, adds to twice the upper half
abbrev pub rounded : ℕ → ℕ
rounded l = (l / 2 + 8192) % 65536 / 16384

-- an upper half whose double fits
abbrev HasDouble : ℕ → Type 0
HasDouble h = (h < 16384) ⊎ (32768 ≤ h)

-- an upper half whose double fits is doubled, modulo 2 ^ 16
doubled_is : (h : ℕ) → HasDouble h → h < 65536 → doubled h ≡ (h + h) % 65536
doubled_is h part fits = chosen (cases_lt ((h + 32768) % 65536) 49151) part
  where
    chosen : ((h + 32768) % 65536 < 49151) ⊎ (49151 ≤ (h + 32768) % 65536) → HasDouble h → doubled h ≡ (h + h) % 65536
    chosen (inl below) _ = rw (lt-ltb ((h + 32768) % 65536) 49151 below)
    chosen (inr above) (inl small) = let last : h ≡ 16383 = omega arith in rw last
    chosen (inr above) (inr large) = absurd (omega arith)

-- for a lane of the largest halves whose double fits
pub ruleset most_at = (get_or-replicate)

-- both halves of u together
abbrev of_halves : ℕ → ℕ
of_halves u = (doubled (u / 65536) + rounded (u % 65536)) % 65536

-- both halves of u together are u / 2 ^ 15, rounded, modulo 2 ^ 16, where the double of the upper half fits
halves_rounded : (u : ℕ) → u < 2 ^ 32 → HasDouble (u / 65536) → of_halves u ≡ (u + 16384) / 32768 % 65536
halves_rounded u fits part =
    let h : ℕ = u / 65536 in
    let sum : (h + h) + rounded (u % 65536) ≡ (u + 16384) / 32768 = omega arith in
    rw (doubled_is h part (omega arith), mod-add-mod (h + h) 65536 (rounded (u % 65536)), sum)

-- a product with its rounding added, in 17 bits
rounded_negative : (n : ℕ) (t : Bool) → ltb 16384 (suc n) ≡ t → suc n ≤ 2 ^ 30
    → (2 ^ 32 - suc n + 16384) / 32768 % 65536
    ≡ wrap w16 (clamp_signed w16 (shr_z (cond t (negsuc (suc n - suc 16384)) (pos (16384 - suc n))) 32768))
rounded_negative n true is small = let above = ltb-true 16384 (suc n) is in omega arith
rounded_negative n false is small = let below = ltb-false 16384 (suc n) is in omega arith

-- both halves of the bits of a product together are the product / 2 ^ 15, rounded, clamped and wrapped
by_product : (z : ℤ) → unsigned_abs z ≤ 2 ^ 30 → (unsigned_abs z ≤ 2 ^ 30 - 2 ^ 15) ⊎ (2 ^ 30 ≤ unsigned_abs z)
    → of_halves (cast_unsigned w32 z) ≡ wrap w16 (clamp_signed w16 (int_shr (z +ℤ pos 16384) 15))
by_product (pos n) small (inl below) = halves_rounded n (omega arith) (inl (omega arith)) ∙ omega arith
by_product (pos n) small (inr above) = let most : n ≡ 2 ^ 30 = omega arith in rw most
by_product (negsuc n) small _ =
    halves_rounded (2 ^ 32 - suc n) (omega arith) (inr (omega arith)) ∙ rounded_negative n (ltb 16384 (suc n)) refl small

-- the product of two q15 numbers, rounded and clamped, by its halves
pub rounded_product : (x y : ℕ) → x < 65536 → y < 65536
    → (doubled (extended x * extended y % 2 ^ 32 / 65536) + rounded (x * y % 65536)) % 65536
    ≡ wrap w16 (clamp_signed w16 (q15mulr (signed w16 x) (signed w16 y)))
rounded_product x y fits_x fits_y =
    let in_x = signed_fits w16 x fits_x in
    let in_y = signed_fits w16 y fits_y in
    rw (lower_half x y fits_x fits_y, product_in_32_bits (signed w16 x) (signed w16 y) in_x in_y)
    (by_product (signed w16 x *ℤ signed w16 y) (product_is_small (signed w16 x) (signed w16 y) in_x in_y)
    (product_has_gap (signed w16 x) (signed w16 y) in_x in_y))

-- ---- as std::simd has it

-- the sign copied by flipping the highest bit and taking it off again
flipped_is : (x : ℕ) → x < 65536 → (bit_xor x 32768 + (2 ^ 32 - 32768)) % 2 ^ 32 ≡ extended x
flipped_is x fits =
    ap (λ k. (k + (2 ^ 32 - 32768)) % 2 ^ 32) (xor_top 15 x 1 fits (omega arith)) ∙ read (ltb x 32768) refl
  where
    read : (low : Bool) → ltb x 32768 ≡ low
        → ((x + 32768) % 65536 + (2 ^ 32 - 32768)) % 2 ^ 32
        ≡ cast_unsigned w32 (sel low (pos x) (negsuc (65536 - suc x)))
    read true is = let under = ltb-true x 32768 is in omega arith
    read false is = let over = ltb-false x 32768 is in omega arith

-- flipping the highest bit of each lane and taking it off again extends the lane
pub extended_at : (xs : List ℕ) (i : ℕ) → length xs ≡ 8 → Each1 (Fits w16) xs → i < 8
    → get_or (zip2 (λ a b. (a + (2 ^ 32 - b)) % 2 ^ 32) (zip2 bit_xor (map (λ x. x) xs) (replicate 8 32768))
    (replicate 8 32768)) i 0 ≡ extended (get_or xs i 0)
extended_at xs i long fits inside =
    let tops = repeated 8 32768 in
    let flips = zipped bit_xor (mapped (items 8 xs long) (λ x. x)) tops in
    let wide = zipped (λ a b. (a + (2 ^ 32 - b)) % 2 ^ 32) flips tops in
    wide.are i inside
    ∙ flipped_is (get_or xs i 0) (Each1-get_or (λ x. x < 65536) xs i 0 (omega arith) (below_from_Fits w16 xs fits))

-- the upper halves of the products of xs and ys
abbrev uppers : List ℕ → List ℕ → List ℕ
uppers xs ys = zip2 (λ a b. a / 2 ^ b) (zip2 (λ a b. a * b % 2 ^ 32) xs ys) (replicate 8 16)

module _ (xs ys : List ℕ) (long_x : length xs ≡ 8) (long_y : length ys ≡ 8) where
  -- there are 8 upper halves, each that of the product in its place
  pub uppers_are : AreItems 8 0 (λ i. get_or xs i 0 * get_or ys i 0 % 2 ^ 32 / 65536) (uppers xs ys)
  uppers_are =
      let products = zipped (λ a b. a * b % 2 ^ 32) (items 8 xs long_x) (items 8 ys long_y) in
      zipped (λ a b. a / 2 ^ b) products (repeated 8 16)

  -- the upper halves fit into 16 bits
  pub uppers_fit : Each1 (Fits w16) (uppers xs ys)
  uppers_fit =
      let many = uppers_are.long in
      Each1-from_get_or (Fits w16) (uppers xs ys) 0
      (λ i inside.
      let within : i < 8 = omega arith in
      let is = uppers_are.are i within in
      record { fits = omega (arith, is, mod-lt (get_or xs i 0 * get_or ys i 0) (pow_pos 32)) })
