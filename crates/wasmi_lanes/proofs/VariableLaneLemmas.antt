-- One lane of a vector at an index: taken out by its bytes, which tables of indices pick, and put in where the number
-- of a lane is the index.
use Rattle.std.proofs.Common.{ℕ, zero, suc, ◌+◌, ◌-◌, ◌*◌, ◌/◌, ◌%◌, ◌^◌, ◌<◌, ◌≤◌, ◌≡◌, List, [], ◌∷◌, get_or, replicate, map, refl, sym, ap, ◌∙◌, arith, true, false, cond, eqb, ltb, zero-add, w8}
use Rattle.wasmi_lanes.proofs.Common.{shr-shr, mod-pow-add, mod-one, zip2, sel_l, number_l, digits_l, ltb-true, swz_l, SwzOk, SwzOk-from_below, Each1-from_get_or, get_or-swz_l_below, Width, bits, lane, with_lane}
use Rattle.std.proofs.lemmas.List.FromFn.{get_or-range_with_len, length-range_with_len, get_or-map-range_with_len}
use Rattle.std.specs.List.{range_with_len}
use Rattle.wasmi_lanes.proofs.ItemLemmas.{AreItems, repeated, chosen_by}
use Rattle.wasmi_lanes.proofs.SimdLaneLemmas.{digit_at}
use Rattle.wasmi_lanes.proofs.VectorLemmas.{lanes_make_vector}
use mir.Val.{hbits}
use lib.Lanes.{top}

-- the numbers of n lanes, in order
numbered : (n : ℕ) → AreItems n 0 (λ i. i) (range_with_len 0 n)
numbered n = record {
  long = length-range_with_len 0 n;
  are = λ i inside. get_or-range_with_len 0 n i 0 inside ∙ zero-add i;
}

-- an item where the number of the lane is `at`, and the lanes of v elsewhere: v with the item in the lane at that place
pub lane_written : (w : Width) (n v at item : ℕ) {r : ℕ} {numbers places : List ℕ} (lanes : List ℕ)
    → n * bits w ≡ 128 → numbers ≡ range_with_len 0 n → places ≡ replicate n at → AreItems n 0 (lane w v) lanes
    → ((i : ℕ) → i < n → lane w r i
    ≡ get_or (sel_l (map (top (hbits w)) (zip2 (λ a b. cond (eqb a b) (2 ^ bits w - 1) 0) numbers places))
    (replicate n item) lanes) i 0) → r < 2 ^ 128 → r ≡ with_lane w v at item
unfolding with_lane
lane_written w n v at item {r} lanes filled counted placed of_v written below =
    let chosen = chosen_by w eqb (numbered n) (repeated n at) (repeated n item) of_v in
    lanes_make_vector w n r _ filled below
    (λ i inside. (rw (counted, placed) at (written i inside)) ∙ chosen.are i inside)

-- ---- a lane of 8 to 32 bits, by its bytes

-- a lane that is taken out by its bytes: one more byte below the lowest ones of a number
one_more : (n m x v a : ℕ) → x ≡ lane w8 v a → m % 2 ^ (8 * n) ≡ v / 2 ^ (8 * suc a) % 2 ^ (8 * n)
    → (x + 256 * m) % 2 ^ (8 * suc n) ≡ v / 2 ^ (8 * a) % 2 ^ (8 * suc n)
one_more n m x v a first rest =
    let more : 8 * suc n ≡ 8 * n + 8 = omega arith in
    let place : 8 * suc a ≡ 8 * a + 8 = omega arith in
    let upper : (x + 256 * m) / 2 ^ 8 ≡ m = omega (arith, first) in
    rw (more, mod-pow-add (x + 256 * m) (8 * n) 8, mod-pow-add (v / 2 ^ (8 * a)) (8 * n) 8, upper, rest, place)
    (rw (shr-shr v (8 * a) 8) (omega (arith, first)))

-- the n bytes of a vector from byte a on, at the front of a list, are the lowest ones of its number
taken_out : (n : ℕ) (xs : List ℕ) (v a : ℕ) → ((i j : ℕ) → i < n → j ≡ a + i → get_or xs i 0 ≡ lane w8 v j)
    → number_l 256 xs % 2 ^ (8 * n) ≡ v / 2 ^ (8 * a) % 2 ^ (8 * n)
taken_out zero xs v a are = mod-one (number_l 256 xs) ∙ sym (mod-one (v / 2 ^ (8 * a)))
taken_out (suc n) [] v a are = one_more n 0 0 v a (are 0 a (omega arith) (omega arith))
    (taken_out n [] v (suc a) (λ i j inside at. are (suc i) j (omega arith) (omega arith)))
taken_out (suc n) (x ∷ xs) v a are = one_more n (number_l 256 xs) x v a (are 0 a (omega arith) (omega arith))
    (taken_out n xs v (suc a) (λ i j inside at. are (suc i) j (omega arith) (omega arith)))

-- ---- bytes by indices below 16

-- two tables of indices, of n entries that were computed to be the same, have the same entry at each index
pub computed : {X : Type 0} (f g : ℕ → X) (n k : ℕ) (d : X) → map f (range_with_len 0 n) ≡ map g (range_with_len 0 n)
    → k < n → f k ≡ g k
computed f g n k d same below = rw (← get_or-map-range_with_len f 0 n k k d below (zero-add k), same)
    (get_or-map-range_with_len g 0 n k k d below (zero-add k))

-- a lane of n bytes, taken out by its bytes, whose indices are the bytes of a word of a table
pub lane_picked : (word : ℕ → ℕ) (n count v k : ℕ) (xs : List ℕ)
    → ((j : ℕ) → j < 16 → get_or xs j 0 ≡ lane w8 v (lane w8 (word k) j)) → k < count → n ≤ 16
    → map (λ m. map (λ j. lane w8 (word m) j) (range_with_len 0 n)) (range_with_len 0 count)
    ≡ map (λ m. map (λ j. n * m + j) (range_with_len 0 n)) (range_with_len 0 count)
    → number_l 256 xs % 2 ^ (8 * n) ≡ v / 2 ^ (8 * (n * k)) % 2 ^ (8 * n)
lane_picked word n count v k xs is_picked below few same =
    let row : map (λ j. lane w8 (word k) j) (range_with_len 0 n) ≡ map (λ j. n * k + j) (range_with_len 0 n) =
    computed (λ m. map (λ j. lane w8 (word m) j) (range_with_len 0 n)) (λ m. map (λ j. n * m + j) (range_with_len 0 n))
    count k [] same below in
    taken_out n xs v (n * k) (λ i j inside at. is_picked i (omega arith)
    ∙ ap (lane w8 v) (computed (λ j. lane w8 (word k) j) (λ j. n * k + j) n i 0 row inside ∙ sym at))

-- an index that is a byte of a word of a table is below 16, where those of all its words are
pub indices_inside : (f : ℕ → ℕ) (n k i : ℕ)
    → map (λ m. map (λ j. ltb (lane w8 (f m) j) 16) (range_with_len 0 16)) (range_with_len 0 n)
    ≡ map (λ _. map (λ _. true) (range_with_len 0 16)) (range_with_len 0 n) → k < n → i < 16 → lane w8 (f k) i < 16
indices_inside f n k i same below inside =
    let row : map (λ j. ltb (lane w8 (f k) j) 16) (range_with_len 0 16) ≡ map (λ _. true) (range_with_len 0 16) =
    computed (λ m. map (λ j. ltb (lane w8 (f m) j) 16) (range_with_len 0 16))
    (λ _. map (λ _. true) (range_with_len 0 16)) n k [] same below in
    ltb-true (lane w8 (f k) i) 16 (computed (λ j. ltb (lane w8 (f k) j) 16) (λ _. true) 16 i false row inside)

-- the bytes of a word of 32 bits and of zeros, as indices
abbrev indices_of : ℕ → List ℕ
indices_of x = digits_l 256 16 (number_l (2 ^ 32) (x ∷ 0 ∷ 0 ∷ 0 ∷ []))

-- the indices that are the bytes of a word are its lanes of 8 bits
pub indices_are : (x : ℕ) → AreItems 16 0 (lane w8 x) (indices_of x)
indices_are x =
    let word : ℕ = number_l (2 ^ 32) (x ∷ 0 ∷ 0 ∷ 0 ∷ []) in
    let whole : word ≡ x = omega arith in
    record { long = refl; are = λ i inside. digit_at 8 16 word i 0 inside ∙ ap (λ n. lane w8 n i) whole }

module _ {f : ℕ → ℕ} {js : List ℕ} (of_j : AreItems 16 0 f js) (below : (i : ℕ) → i < 16 → f i < 16) where
  -- an index is below 16
  index_below : (i : ℕ) → i < 16 → get_or js i 0 < 16
  index_below i inside = omega (arith, of_j.are i inside, below i inside)

  -- a choice of std::simd among 16 bytes may be by indices below 16
  pub indices_may_index : SwzOk w8 16 16 0 js
  indices_may_index = SwzOk-from_below w8 16 1 16 0 js refl (omega (arith, of_j.long))
      (Each1-from_get_or (λ j. j < 16) js 0 (λ i inside. index_below i (omega (arith, of_j.long))))

  -- an index below 16 chooses the byte of a table at the index
  pub picked_inside_at : (table : List ℕ) (i : ℕ) → i < 16 → get_or (swz_l w8 16 table 0 js) i 0 ≡ get_or table (f i) 0
  picked_inside_at table i inside =
      let place : 16 * ((0 + i) / 16) + get_or js i 0 ≡ f i = omega (arith, of_j.are i inside) in
      get_or-swz_l_below w8 16 table 0 js i (omega (arith, of_j.long)) (index_below i inside)
      ∙ ap (λ j. get_or table j 0) place
