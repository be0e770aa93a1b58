-- Products of a word that keep each lane within its width, as shifts to the left do; lanes of words that are shifted,
-- with the bits masked that would leave their lane; and the tables of the masks.
use Rattle.std.proofs.Common.{◌≡◌, ℕ, zero, suc, ◌+◌, ◌-◌, ◌*◌, ◌/◌, ◌%◌, ◌^◌, ◌<◌, ◌≤◌, refl, sym, ap, ◌∙◌, arith, add-mul, mul-suc, mul-zero, mul_assoc, mul_right_comm, one-mul, zero-mul, le_refl, mod-lt, mod-eq_of_lt, lit<, le_of_eq, bit_and, List, [], ◌∷◌, map, replicate, length, get_or}
use Rattle.wasmi_lanewise.proofs.Common.{length-replicate, Each1-replicate, mod-one, and_le_l, pow_pos, pow-add, mod-pow-add, and_mask, mul-mod_first, div-add-mod', div-mul-add, mod-mul-add, mul-le, shl_below, shr_le, pow_mono, Width, bits, unsigned, unary_of_lanes, field, lanes_in_word, in_each_lane, number_below, field_and, field_mod, lane_ends, lane_shr, EachLane, lane_of_each, u64x2_of, words_make_unary, some_bits, shl, shr_u, vector_of}
use Rattle.std.specs.List.{range_with_len}
use Rattle.std.proofs.lemmas.List.FromFn.{get_or-map-range_with_len}

-- ---- products

-- of the product of a word: a field of u * c is the field of u times c, wrapped, where the bits below, times c, stay
-- below
field_mul : (k w u c : ℕ) → (u % 2 ^ k) * c < 2 ^ k → field k w (u * c) ≡ (field k w u * c) % 2 ^ w
unfolding field
field_mul k w u c low =
    let p : ℕ = 2 ^ k in
    let parts : u * c ≡ (u / p * c) * p + u % p * c =
    omega (arith, ap (λ n. n * c) (div-add-mod' u p), add-mul (u / p * p) (u % p) c, mul_right_comm (u / p) p c) in
    rw (parts, div-mul-add (u / p * c) p (u % p * c) low) (sym (mul-mod_first (u / p) c (2 ^ w)))

-- the bits below lane i, times c, stay below it, where the product of each lane fits
pub scaled_low : (w c u i : ℕ) → ((j : ℕ) → j < i → field (w * j) w u * c < 2 ^ w) → (u % 2 ^ (w * i)) * c < 2 ^ (w * i)
unfolding field
scaled_low w c u zero each = rw (mul-zero w) (omega (arith, ap (λ n. n * c) (mod-one u), zero-mul c))
scaled_low w c u (suc i) each =
    let q : ℕ = 2 ^ (w * i) in
    let x : ℕ = u / q % 2 ^ w in
    let place : w * suc i ≡ w + w * i = omega (arith, mul-suc w i) in
    let parts : (u % 2 ^ (w + w * i)) * c ≡ (x * c) * q + u % q * c =
    rw (mod-pow-add u w (w * i), add-mul (x * q) (u % q) c, mul_right_comm x q c) in
    let low : u % q * c < q = scaled_low w c u i (λ j lt. each j (omega arith)) in
    let here : x * c < 2 ^ w = each i (omega arith) in
    let rows : (x * c + 1) * q ≤ 2 ^ w * q = mul-le (x * c + 1) q (2 ^ w) q (omega arith) (le_refl q) in
    let fits : (u % 2 ^ (w + w * i)) * c < 2 ^ (w + w * i) =
    omega (arith, parts, pow-add 2 w (w * i), add-mul (x * c) 1 q, one-mul q) in
    rw place fits

-- a product that keeps each lane within its width
pub lane_scaled : (w n c u : ℕ) → ((j : ℕ) → j < n → field (w * j) w u * c < 2 ^ w) → (i : ℕ) → i < n
    → field (w * i) w (u * c) ≡ field (w * i) w u * c
lane_scaled w n c u each i lt =
    field_mul (w * i) w u c (scaled_low w c u i (λ j below. each j (omega arith))) ∙ mod-eq_of_lt (each i lt)

-- ---- shifts by s, with the low w - s bits of each lane as mask

-- the lower r bits of x, shifted to the left by s, are x, shifted, at r + s bits
shl_cut : (w s r x : ℕ) → r + s ≡ w → (x % 2 ^ r) * 2 ^ s ≡ (x * 2 ^ s) % 2 ^ w
shl_cut w s r x e =
    let m : ℕ = x % 2 ^ r in
    let whole : 2 ^ r * 2 ^ s ≡ 2 ^ w = sym (pow-add 2 r s) ∙ ap (λ n. 2 ^ n) e in
    let parts : x * 2 ^ s ≡ x / 2 ^ r * 2 ^ w + m * 2 ^ s =
    ap (λ n. n * 2 ^ s) (sym (div-add-mod' x (2 ^ r))) ∙ add-mul (x / 2 ^ r * 2 ^ r) m (2 ^ s)
    ∙ ap (λ n. n + m * 2 ^ s) (mul_assoc (x / 2 ^ r) (2 ^ r) (2 ^ s) ∙ ap (λ n. x / 2 ^ r * n) whole) in
    let below = rw e at (shl_below m r s (mod-lt x (pow_pos r))) in
    rw (parts, mod-mul-add (x / 2 ^ r) (2 ^ w) (m * 2 ^ s) below)

-- a lane of v, masked to r bits a lane and shifted to the left by s, is the lane, shifted, at its width
pub lane_shl : (w n s r v mask : ℕ) → n * w ≤ 64 → r + s ≡ w → ((j : ℕ) → j < n → field (w * j) w mask ≡ 2 ^ r - 1)
    → (i : ℕ) → i < n →
    field (w * i) w ((bit_and v mask * 2 ^ s) % 2 ^ 64) ≡ (field (w * i) w v * 2 ^ s) % 2 ^ w
lane_shl w n s r v mask whole e is i lt =
    let within : w * i + w ≤ 64 = omega (arith, whole, lane_ends w n i lt) in
    let kept : (j : ℕ) → j < n → field (w * j) w (bit_and v mask) ≡ field (w * j) w v % 2 ^ r =
    λ j below. field_and (w * j) w v mask ∙ ap (bit_and (field (w * j) w v)) (is j below)
    ∙ and_mask (field (w * j) w v) r in
    let small : (j : ℕ) → j < n → field (w * j) w (bit_and v mask) * 2 ^ s < 2 ^ w =
    λ j below. rw (kept j below, shl_cut w s r (field (w * j) w v) e) (mod-lt _ (pow_pos w)) in
    field_mod (w * i) w 64 (bit_and v mask * 2 ^ s) within ∙ lane_scaled w n (2 ^ s) (bit_and v mask) small i lt
    ∙ ap (λ n. n * 2 ^ s) (kept i lt) ∙ shl_cut w s r (field (w * i) w v) e

-- ---- the tables of masks

-- the mask of a shift by d: the low bits of each lane, all but its d highest ones
abbrev pub shift_masks : Width → ℕ → ℕ
shift_masks w d = in_each_lane w (2 ^ (bits w - d) - 1)

-- the table of masks: entry d has the mask of a shift by d in both words
abbrev pub masks : Width → List ℕ
masks w = map (λ d. vector_of (shift_masks w d) (shift_masks w d)) (range_with_len 0 (bits w))

module _ (w : Width) (d : ℕ) (less : d < bits w) where
  -- the ones in all but d bits of a lane are a number of its width
  low_bits_fit : 2 ^ (bits w - d) - 1 < 2 ^ bits w
  low_bits_fit = omega (arith, pow_mono {i = bits w - d} {j = bits w} (omega arith), pow_pos (bits w - d))

  -- a lane of the mask of entry d has all but its d highest bits
  pub masked_lane : EachLane w (λ k. field k (bits w) (shift_masks w d) ≡ 2 ^ (bits w - d) - 1)
  masked_lane = lane_of_each w (2 ^ (bits w - d) - 1) (shift_masks w d) low_bits_fit refl

  -- the mask of entry d is a word
  word_below : lanes_in_word w * bits w ≡ 64 → shift_masks w d < 2 ^ 64
  word_below whole =
      let lanes : List ℕ = replicate (lanes_in_word w) (2 ^ (bits w - d) - 1) in
      let long : length lanes * bits w ≡ 64 = rw (length-replicate (lanes_in_word w) (2 ^ (bits w - d) - 1)) whole in
      rw long at
      (number_below (bits w) lanes
      (Each1-replicate (λ x. x < 2 ^ bits w) (lanes_in_word w) (2 ^ (bits w - d) - 1) low_bits_fit))

  -- the two words of entry d
  pub mask_at : (table : List ℕ) (v : ℕ) → table ≡ masks w → v ≡ get_or table d 0 → lanes_in_word w * bits w ≡ 64
      → (v % 2 ^ 64 ∷ v / 2 ^ 64 ∷ []) ≡ replicate 2 (shift_masks w d)
  mask_at table v is at whole =
      let k : ℕ = shift_masks w d in
      let fits : k < 2 ^ 64 = word_below whole in
      let entry : v ≡ k * 2 ^ 64 + k =
      at ∙ ap (λ l. get_or l d 0) is
      ∙ get_or-map-range_with_len (λ i. vector_of (shift_masks w i) (shift_masks w i)) 0 (bits w) d d 0 less
      (omega arith) in
      rw (entry, mod-mul-add k (2 ^ 64) k fits, div-mul-add k (2 ^ 64) k fits)

-- ---- vectors whose words are those of another, shifted

module _ (w : Width) (whole : lanes_in_word w * bits w ≡ 64) (v amount s : ℕ) (fits : v < 2 ^ 128)
    (is_s : s ≡ amount % bits w) where
  -- words that are f of the operand's words, and whose lanes are a row of the operand's, make the vector of this row
  pub words_shifted : {r : ℕ} (f : ℕ → ℕ) (row : ℕ → ℕ → ℕ) → ((x : ℕ) → x < 2 ^ 64 → f x < 2 ^ 64)
      → ((x : ℕ) → x < 2 ^ 64 → EachLane w (λ k. field k (bits w) (f x) ≡ row s (field k (bits w) x)))
      → r ≡ vector_of (f (v % 2 ^ 64)) (f (v / 2 ^ 64)) → r ≡ unary_of_lanes w unsigned (row (amount % bits w)) v
  unfolding unary_of_lanes
  words_shifted {r} f row fits_f each is =
      let low : ℕ = v % 2 ^ 64 in
      let high : ℕ = v / 2 ^ 64 in
      let fits_low : low < 2 ^ 64 = omega arith in
      let fits_high : high < 2 ^ 64 = omega arith in
      rw (← is_s) (words_make_unary w whole (row s) v r (u64x2_of refl refl)
      (record { low_fits = fits_f low fits_low; high_fits = fits_f high fits_high; is = is })
      (each low fits_low) (each high fits_high))

  -- the amount is below the width
  amount_below : s < bits w
  amount_below = rw is_s (mod-lt amount (some_bits w))

  -- words that are masked, then shifted to the left
  pub words_shifted_left : {r : ℕ}
      → r ≡ vector_of (bit_and (v % 2 ^ 64) (shift_masks w s) * 2 ^ s % 2 ^ 64)
      (bit_and (v / 2 ^ 64) (shift_masks w s) * 2 ^ s % 2 ^ 64) → r ≡ shl w v amount
  words_shifted_left is =
      let keep : bits w - s + s ≡ bits w = omega (arith, amount_below) in
      let kept : ℕ = shift_masks w s in
      words_shifted (λ x. bit_and x kept * 2 ^ s % 2 ^ 64) (λ n x. x * 2 ^ n % 2 ^ bits w)
      (λ x _. mod-lt (bit_and x kept * 2 ^ s) (lit< tt))
      (λ x _. lane_shl (bits w) (lanes_in_word w) s (bits w - s) x kept (le_of_eq whole) keep (masked_lane w s amount_below)) is

  -- words that are shifted to the right, then masked
  pub words_shifted_right : {r : ℕ}
      → r ≡ vector_of (bit_and (v % 2 ^ 64 / 2 ^ s) (shift_masks w s)) (bit_and (v / 2 ^ 64 / 2 ^ s) (shift_masks w s))
      → r ≡ shr_u w v amount
  words_shifted_right is =
      let keep : bits w - s + s ≡ bits w = omega (arith, amount_below) in
      let kept : ℕ = shift_masks w s in
      words_shifted (λ x. bit_and (x / 2 ^ s) kept) (λ n x. x / 2 ^ n)
      (λ x below. omega (arith, and_le_l (x / 2 ^ s) kept, shr_le x s))
      (λ x _ i inside. lane_shr (bits w) s (bits w - s) (bits w * i) x kept keep (masked_lane w s amount_below i inside)) is
