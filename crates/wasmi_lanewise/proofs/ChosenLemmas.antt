-- Bytes chosen by indices, as std::simd chooses them for the shuffle and the swizzle: by the low four bits of an index,
-- and 0 for an index above 15.
use Rattle.std.proofs.Common.{ℕ, ◌%◌, ◌<◌, ◌≤◌, ◌≡◌, List, length, get_or, replicate, map, ◌+◌, ◌*◌, ◌/◌, refl, ◌∙◌, arith, inl, inr, nat_lt, if◌then◌else◌, true, false, not, ◌||◌, cond, ltb, leb, bit_and, w8, Fits, T}
use Rattle.wasmi_lanewise.proofs.Common.{zip2, sel_l, Each1, cases_lt, lt-ltb, le-ltb, and_mask, swz_l, SwzOk, SwzOk-from_Each1, Each1-from_get_or, Each1-get_or, below_from_Fits, get_or-swz_l, lane, lane_below, AreItems, items, repeated, zipped, chosen_by}
use Rattle.wasmi_lanes.proofs.VariableLaneLemmas.{computed, indices_may_index, picked_inside_at}
use lib.Lanes.{top}

-- the low four bits of each index
abbrev nibbles : List ℕ → List ℕ
nibbles js = zip2 bit_and js (replicate 16 15)

module _ (js : List ℕ) (long : length js ≡ 16) where
  -- there are 16 nibbles, each the index in its place, modulo 16
  nibbles_are : AreItems 16 0 (λ i. get_or js i 0 % 16) (nibbles js)
  nibbles_are =
      let masked = zipped bit_and (items 16 js long) (repeated 16 15) in
      record { long = masked.long; are = λ i inside. masked.are i inside ∙ and_mask (get_or js i 0) 4 }

  -- a choice of std::simd among 16 bytes may be by the nibbles
  pub nibbles_may_index : SwzOk w8 16 16 0 (nibbles js)
  nibbles_may_index = indices_may_index nibbles_are (λ i inside. omega arith)

  -- the byte that a nibble chooses of a table is the one at the index modulo 16
  pub picked_at : (table : List ℕ) (i : ℕ) → i < 16
      → get_or (swz_l w8 16 table 0 (nibbles js)) i 0 ≡ get_or table (get_or js i 0 % 16) 0
  picked_at = picked_inside_at nibbles_are (λ i inside. omega arith)

  -- of two lists, an item of the first where the index in its place is below 16, else one of the second
  pub chosen_at : (low high : List ℕ) (i : ℕ) → length low ≡ 16 → length high ≡ 16 → i < 16
      → get_or (sel_l (map (top 7) (zip2 (λ a b. cond (ltb a b) 255 0) js (replicate 16 16))) low high) i 0
      ≡ (if nat_lt (get_or js i 0) 16 then get_or low i 0 else get_or high i 0)
  chosen_at low high i long_low long_high inside =
      (chosen_by w8 ltb (items 16 js long) (repeated 16 16) (items 16 low long_low) (items 16 high long_high)).are i
      inside

-- a choice among 16 bytes by the nibbles: that it may be made, and what it gives
pub ruleset choice_by_nibbles = (nibbles_may_index, picked_at)

-- ---- the table at the indices below 16, else 0

-- an index below 16 is the position, and one above becomes 128
abbrev position : ℕ → ℕ
position j = bit_and ((cond (ltb j 16) j 16 + 112) % 256) 143

-- the position of an index is 128 or more just where the index isn't below 16
zero_from_16 : (j : ℕ) → j < 256 → leb 128 (position j) ≡ not (ltb j 16)
zero_from_16 j below = computed (λ k. leb 128 (position k)) (λ k. not (ltb k 16)) 256 j false refl below

-- a position is 128 or more, or below 16
position_fits : (j : ℕ) → j < 256 → (leb 128 (position j) || ltb (position j) 16) ≡ true
position_fits j below = computed (λ k. leb 128 (position k) || ltb (position k) 16) (λ _. true) 256 j false refl below

-- the positions of indices
abbrev positions : List ℕ → List ℕ
positions js =
    let least = sel_l (map (top 7) (zip2 (λ a b. cond (ltb a b) 255 0) js (replicate 16 16))) js (replicate 16 16) in
    zip2 bit_and (zip2 (λ a b. (a + b) % 256) least (replicate 16 112)) (replicate 16 143)

module _ (js : List ℕ) (long : length js ≡ 16) (fits : Each1 (Fits w8) js) where
  -- there are 16 positions, each that of the index in its place
  positions_are : AreItems 16 0 (λ i. position (get_or js i 0)) (positions js)
  positions_are =
      let of_js = items 16 js long in
      let limits = repeated 16 16 in
      let least = chosen_by w8 ltb of_js limits of_js limits in
      let sums = zipped (λ a b. (a + b) % 256) least (repeated 16 112) in
      let masked = zipped bit_and sums (repeated 16 143) in
      masked

  -- an index is below 256
  index_below : (i : ℕ) → i < 16 → get_or js i 0 < 256
  index_below i inside = Each1-get_or (λ j. j < 256) js i 0 (omega arith) (below_from_Fits w8 js fits)

  -- a choice of std::simd among 16 bytes may be by the positions
  pub positions_may_index : SwzOk w8 16 16 0 (positions js)
  positions_may_index =
      let whole = positions_are.long in
      SwzOk-from_Each1 w8 16 1 16 0 (positions js) refl (omega arith)
      (Each1-from_get_or (λ j. T (leb 128 j || ltb j 16)) (positions js) 0
      (λ i inside.
      let within : i < 16 = omega arith in
      rw (positions_are.are i within, position_fits (get_or js i 0) (index_below i within)) tt))

  -- a position chooses the byte of a table at the index where the index is below 16, else 0
  pub picked_or_zero_at : (table : List ℕ) (i : ℕ) → i < 16
      → get_or (swz_l w8 16 table 0 (positions js)) i 0
      ≡ (if nat_lt (get_or js i 0) 16 then get_or table (get_or js i 0) 0 else 0)
  picked_or_zero_at table i inside =
      let whole = positions_are.long in
      let j : ℕ = get_or js i 0 in
      let is = positions_are.are i inside in
      let place : 16 * ((0 + i) / 16) + get_or (positions js) i 0 ≡ position j = omega (arith, is) in
      rw (get_or-swz_l w8 16 table 0 (positions js) i (omega arith), place, is, zero_from_16 j (index_below i inside))
      (elim (cases_lt j 16) [
        | inl below ↦ rw (computed position (λ k. k) 16 j 0 refl below, lt-ltb j 16 below)
        | inr above ↦ rw (le-ltb j 16 above)
      ])

-- the bytes of a vector, as indices, fit into 8 bits
pub bytes_fit : (v : ℕ) (xs : List ℕ) → length xs ≡ 16 → ((i : ℕ) → i < 16 → get_or xs i 0 ≡ lane w8 v i)
    → Each1 (Fits w8) xs
bytes_fit v xs long are = Each1-from_get_or (Fits w8) xs 0
    (λ i inside. record { fits = omega (arith, are i (omega arith), lane_below w8 v i) })

-- ---- choices by an index

-- what an index chooses by whether it is below 16 is the same, of numbers that are the same there
pub chosen_same : (k : ℕ) {low low' high high' : ℕ} → (k < 16 → low ≡ low') → (16 ≤ k → high ≡ high')
    → (if nat_lt k 16 then low else high) ≡ (if nat_lt k 16 then low' else high')
chosen_same k same_low same_high = elim (cases_lt k 16) [
  | inl below ↦ rw (lt-ltb k 16 below) (same_low below)
  | inr above ↦ rw (le-ltb k 16 above) (same_high above)
]
