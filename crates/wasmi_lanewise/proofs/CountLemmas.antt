-- The one bits of each lane, counted in lanes of twice the width step by step: a lane has those of its two halves,
-- which masks take from the word.
use Rattle.std.proofs.Common.{◌≡◌, ℕ, zero, suc, ◌+◌, ◌-◌, ◌*◌, ◌/◌, ◌%◌, ◌^◌, ◌<◌, refl, sym, ap, ap₂, ◌∙◌, ◌⊎◌, inl, inr, arith, mul-add, mul-suc, mul-zero, add-mul, mul-one, mod-lt, mod-eq_of_lt, bit_and, pow-suc, lit<, count_ones, add_comm}
use Rattle.wasmi_lanewise.proofs.Common.{mod-one, pow_pos, shr-shr, mod-pow-add, and_mask, and_le_l, and_le_r, ones_cat, ones-le, mod-mod-pow, bit_at_and, bit_at_ones_above, bit_at, field, field_and, field_add, field_lt, field_mod, field_wrapping_sub, repeated_lane, top_of_lane, ones_le_self, zero_from_ones}
use Rattle.wasmi_lanes.proofs.TopLemmas.{clear_top}
use Rattle.wasmi_lanewise.proofs.AverageLemmas.{mean_low}

-- a lane, masked by the ones of its lower half, is that half
lower_half : (w k y mask : ℕ) → field k (w + w) mask ≡ 2 ^ w - 1 → field k (w + w) (bit_and y mask) ≡ field k w y
unfolding field
lower_half w k y mask is =
    field_and k (w + w) y mask ∙ ap (bit_and (y / 2 ^ k % 2 ^ (w + w))) is ∙ and_mask (y / 2 ^ k % 2 ^ (w + w)) w
    ∙ mod-mod-pow (y / 2 ^ k) w w

-- a lane of the word moved down by half a lane, so masked, is the upper half of the lane
upper_half : (w k y mask : ℕ) → field k (w + w) mask ≡ 2 ^ w - 1
    → field k (w + w) (bit_and (y / 2 ^ w) mask) ≡ field (k + w) w y
unfolding field
upper_half w k y mask is = rw (lower_half w k (y / 2 ^ w) mask is, shr-shr y w k, add_comm w k)

-- the one bits of a lane are those of its halves
halves : (w k v : ℕ) → count_ones (field k (w + w) v) ≡ count_ones (field (k + w) w v) + count_ones (field k w v)
unfolding field
halves w k v = rw (mod-pow-add (v / 2 ^ k) w w, ← shr-shr v k w)
    (ones_cat w (v / 2 ^ k / 2 ^ w % 2 ^ w) (v / 2 ^ k % 2 ^ w) (mod-lt (v / 2 ^ k) (pow_pos w)))

-- the highest bit of a lane whose upper half is clear
mask_off : (h n mask j : ℕ) → ((i : ℕ) → i < n → field ((suc h + suc h) * i) (suc h + suc h) mask ≡ 2 ^ suc h - 1)
    → j < n → bit_at mask ((suc h + suc h) * j + (h + suc h)) ≡ 0
mask_off h n mask j is below =
    let k : ℕ = (suc h + suc h) * j in
    let t : ℕ = h + suc h in
    let width : suc h + suc h ≡ suc t = omega arith in
    let here : field k (suc t) mask ≡ 2 ^ suc h - 1 = ap (λ n. field k n mask) (sym width) ∙ is j below in
    sym (top_of_lane k t mask) ∙ ap (λ n. bit_at n t) here ∙ bit_at_ones_above (suc h) t (omega arith)

-- what lies below a lane, masked to the lower halves of its lanes, leaves room for a carry
half_room : (w n mask v i : ℕ) → 0 < w → ((j : ℕ) → j < n → field ((w + w) * j) (w + w) mask ≡ 2 ^ w - 1) → i < n →
    2 * (bit_and v mask % 2 ^ ((w + w) * i)) < 2 ^ ((w + w) * i)
half_room w n mask v zero pos is lt = rw (mul-zero (w + w)) (omega (arith, mod-one (bit_and v mask)))
half_room zero n mask v (suc j) pos is lt = absurd (omega arith)
half_room (suc h) n mask v (suc j) pos is lt =
    let top : ℕ = (suc h + suc h) * j + (h + suc h) in
    let place : (suc h + suc h) * suc j ≡ suc top = omega (arith, mul-suc (suc h + suc h) j) in
    let clear : bit_at (bit_and v mask) top ≡ 0 =
    omega (arith, bit_at_and v mask top, mask_off h n mask j is (omega arith)) in
    rw place (omega (arith, clear_top (bit_and v mask) top clear, pow-suc 2 top))

-- one step: from the counts of lanes of w bits to those of lanes of twice as many
pub count_step : (w n v y mask : ℕ) → 0 < w → w + w < 2 ^ (w + w)
    → ((j : ℕ) → j < n → field ((w + w) * j) (w + w) mask ≡ 2 ^ w - 1) →
    ((j : ℕ) → j < n + n → field (w * j) w y ≡ count_ones (field (w * j) w v)) →
    (i : ℕ) → i < n
    → field ((w + w) * i) (w + w) (bit_and y mask + bit_and (y / 2 ^ w) mask)
    ≡ count_ones (field ((w + w) * i) (w + w) v)
count_step w n v y mask pos fits is counted i lt =
    let k : ℕ = (w + w) * i in
    let even : w * (i + i) ≡ k = omega (arith, mul-add w i i, add-mul w w i) in
    let odd : w * (i + i + 1) ≡ k + w = omega (arith, mul-add w (i + i) 1, mul-one w) in
    let low = rw even at (counted (i + i) (omega arith)) in
    let high = rw odd at (counted (i + i + 1) (omega arith)) in
    let room : bit_and y mask % 2 ^ k + bit_and (y / 2 ^ w) mask % 2 ^ k < 2 ^ k =
    omega (arith, half_room w n mask y i pos is lt, half_room w n mask (y / 2 ^ w) i pos is lt) in
    let small : count_ones (field k w v) + count_ones (field (k + w) w v) < 2 ^ (w + w) =
    omega (arith, ones-le w (field k w v) (field_lt k w v), ones-le w (field (k + w) w v) (field_lt (k + w) w v)) in
    field_add k (w + w) (bit_and y mask) (bit_and (y / 2 ^ w) mask) room
    ∙ ap₂ (λ m n. (m + n) % 2 ^ (w + w)) (lower_half w k y mask (is i lt) ∙ low)
    (upper_half w k y mask (is i lt) ∙ high)
    ∙ mod-eq_of_lt small ∙ omega (arith, halves w k v)

-- a single bit is the number of its ones
one_bit : (b : ℕ) → b < 2 → b ≡ count_ones b
one_bit b lt = grind (arith, ones_le_self b, zero_from_ones b)

-- two bits are twice the upper one and the lower one
pair_split : (k v : ℕ) → field k 2 v ≡ field (k + 1) 1 v * 2 + field k 1 v
unfolding field
pair_split k v = mod-pow-add (v / 2 ^ k) 1 1 ∙ ap (λ n. n % 2 * 2 + v / 2 ^ k % 2) (shr-shr v k 1)

-- the first step of the count: a pair less its upper bit
first_pairs : (v j : ℕ) → v < 2 ^ 64 → j < 32
    → field (2 * j) 2 ((v + (2 ^ 64 - bit_and (v / 2) 0x5555_5555_5555_5555)) % 2 ^ 64) ≡ count_ones (field (2 * j) 2 v)
first_pairs v j fits below =
    let k : ℕ = 2 * j in
    let ones : ℕ = 0x5555_5555_5555_5555 in
    let upper : ℕ = bit_and (v / 2) ones in
    let small : upper < 2 ^ 64 = omega (arith, and_le_l (v / 2) ones) in
    field_wrapping_sub k 2 64 v upper (omega arith) small (mean_low k v ones (starts j below))
    ∙ ap (λ n. (field k 2 v + (4 - n)) % 4) (upper_half 1 k v ones (masks j below))
    ∙ omega (
      arith,
      pair_split k v,
      halves 1 k v,
      one_bit (field (k + 1) 1 v) (field_lt (k + 1) 1 v),
      one_bit (field k 1 v) (field_lt k 1 v),
      field_lt (k + 1) 1 v,
      field_lt k 1 v,
    )
  where
    masks : (i : ℕ) → i < 32 → field (2 * i) 2 0x5555_5555_5555_5555 ≡ 1
    masks i inside = repeated_lane 2 32 i 1 (lit< tt) inside

    starts : (i : ℕ) → i < 32 → (2 * i ≡ 0) ⊎ (bit_at 0x5555_5555_5555_5555 (2 * i - 1) ≡ 0)
    starts zero inside = inl refl
    starts (suc i) inside =
        let place : 2 * suc i - 1 ≡ 2 * i + 1 = omega arith in
        inr (ap (bit_at 0x5555_5555_5555_5555) place ∙ mask_off 0 32 0x5555_5555_5555_5555 i masks (omega arith))

-- the last step: lanes of 4 bits hold 4 at most, so that their highest bit is clear
module _ (v z : ℕ) (counted : (j : ℕ) → j < 16 → field (4 * j) 4 z ≡ count_ones (field (4 * j) 4 v)) where
  -- the highest bit of each lane of 4 bits is clear
  off : (j : ℕ) → j < 16 → bit_at z (4 * j + 3) ≡ 0
  off j below = sym (top_of_lane (4 * j) 3 z)
      ∙ omega (arith, counted j below, ones-le 4 (field (4 * j) 4 v) (field_lt (4 * j) 4 v))

  -- what lies below a byte, in z and in z moved down by 4 bits, has a sum without a carry into the byte
  room : (i : ℕ) → i < 8 → z % 2 ^ (8 * i) + z / 16 % 2 ^ (8 * i) < 2 ^ (8 * i)
  room zero below = omega (arith, mod-one z, mod-one (z / 16))
  room (suc i) below =
      let top : ℕ = 8 * i + 7 in
      let place : 8 * suc i ≡ suc top = omega arith in
      let lower : 4 * (2 * i + 1) + 3 ≡ top = omega arith in
      let upper : 4 * (2 * i + 2) + 3 ≡ 4 + top = omega arith in
      let first : bit_at z top ≡ 0 = ap (bit_at z) (sym lower) ∙ off (2 * i + 1) (omega arith) in
      let second : bit_at (z / 16) top ≡ 0 =
      ap (λ n. n % 2) (shr-shr z 4 top) ∙ ap (bit_at z) (sym upper) ∙ off (2 * i + 2) (omega arith) in
      rw place (omega (arith, clear_top z top first, clear_top (z / 16) top second, pow-suc 2 top))

  -- 4 bits of the word moved down by 4 bits are the next 4 bits of the word
  shifted : (k : ℕ) → field k 4 (z / 16) ≡ field (k + 4) 4 z
  unfolding field
  shifted k = rw (shr-shr z 4 k, add_comm 4 k)

  -- a byte of the masked sum is the number of ones of that byte of v
  last_bytes : (i : ℕ) → i < 8
      → field (8 * i) 8 (bit_and ((z + z / 16) % 2 ^ 64) 0x0f0f_0f0f_0f0f_0f0f) ≡ count_ones (field (8 * i) 8 v)
  last_bytes i below =
      let k : ℕ = 8 * i in
      let even : 4 * (2 * i) ≡ k = omega arith in
      let odd : 4 * (2 * i + 1) ≡ k + 4 = omega arith in
      let low = rw even at (counted (2 * i) (omega arith)) in
      let high = rw odd at (counted (2 * i + 1) (omega arith)) in
      let small : count_ones (field k 4 v) + count_ones (field (k + 4) 4 v) < 16 =
      omega (arith, ones-le 4 (field k 4 v) (field_lt k 4 v), ones-le 4 (field (k + 4) 4 v) (field_lt (k + 4) 4 v))
      in
      lower_half 4 k ((z + z / 16) % 2 ^ 64) 0x0f0f_0f0f_0f0f_0f0f (repeated_lane 8 8 i 15 (lit< tt) below)
      ∙ field_mod k 4 64 (z + z / 16) (omega arith) ∙ field_add k 4 z (z / 16) (room i below)
      ∙ ap₂ (λ m n. (m + n) % 16) low (shifted k ∙ high) ∙ mod-eq_of_lt small ∙ omega (arith, halves 4 k v)

-- the counts of the ones of each byte of a word, by the three steps
abbrev pub counts : ℕ → ℕ
counts v =
    let pairs = (v + (2 ^ 64 - bit_and (v / 2) 0x5555_5555_5555_5555)) % 2 ^ 64 in
    let nibbles = (bit_and pairs 0x3333_3333_3333_3333 + bit_and (pairs / 4) 0x3333_3333_3333_3333) % 2 ^ 64 in
    bit_and ((nibbles + nibbles / 16) % 2 ^ 64) 0x0f0f_0f0f_0f0f_0f0f

-- the word of counts is below 2 ^ 64
pub counts_below : (v : ℕ) → counts v < 2 ^ 64
counts_below v = omega (arith, and_le_r)

-- a byte of the word of counts is the number of ones of that byte of the word
pub counts_at : (v : ℕ) → v < 2 ^ 64 → (i : ℕ) → i < 8 → field (8 * i) 8 (counts v) ≡ count_ones (field (8 * i) 8 v)
counts_at v fits i below =
    let pairs : ℕ = (v + (2 ^ 64 - bit_and (v / 2) 0x5555_5555_5555_5555)) % 2 ^ 64 in
    let twos : ℕ = 0x3333_3333_3333_3333 in
    let sums : ℕ = bit_and pairs twos + bit_and (pairs / 4) twos in
    last_bytes v (sums % 2 ^ 64)
    (λ j inside.
    field_mod (4 * j) 4 64 sums (omega arith)
    ∙ count_step 2 16 v pairs twos (lit< tt) (lit< tt) (λ m mb. repeated_lane 4 16 m 3 (lit< tt) mb)
    (λ m mb. first_pairs v m fits mb) j inside)
    i below
