-- Sums, differences and inequality of the lanes of a word, which may have unequal widths, also above the last top; a
-- word made of its lanes.
use Rattle.std.proofs.Common.{◌≡◌, ℕ, zero, suc, ◌+◌, ◌-◌, ◌*◌, ◌%◌, ◌^◌, ◌<◌, ◌≤◌, ◌⊎◌, ap, ap₂, ◌∙◌, arith, mod-eq_of_lt, bit_and, bit_or, bit_xor, cond, eqb, pow-suc, ◌/◌, List, [], ◌∷◌, sum, refl, sym, div-one, mul-one}
use Rattle.wasmi_lanes.proofs.Common.{and_assoc, and_le_l, and_mask, div-add-mod', shr-shr, pow-add, bit_at, field, IsLane, IsLastLane, AreLanes, word_of_lanes, div-eq_of_lt, sub-one, and_self, and_zero_r, or_zero_r, xor_zero_r, sub-zero}
use Rattle.wasmi_lanes.proofs.FieldLemmas.{field_lt, field_and, field_or, field_xor, field_add, field_mod, field_not, field_wrapping_sub}
use Rattle.wasmi_lanes.proofs.TopLemmas.{room, filled, lane_add, lane_sub, lane_differ}
use Rattle.std.proofs.lemmas.List.Sums.{sum_by-cons}

-- the bits of a word from k to k + w - 1, where those of tops are `top` and what comes from below has room
module _ (tops k w top : ℕ) (fits : tops < 2 ^ 64) (starts : (k ≡ 0) ⊎ (bit_at tops (k - 1) ≡ 1)) (within : k + w ≤ 64)
    (is : field k w tops ≡ top) where
  -- the field of the bits that aren't in tops is the complement of top
  rest_is : field k w (2 ^ 64 - 1 - tops) ≡ 2 ^ w - 1 - top
  rest_is = field_not k w 64 tops within fits ∙ ap (λ n. 2 ^ w - 1 - n) is

  -- the field of what v has beside the tops
  kept : (v : ℕ) → field k w (bit_and v (2 ^ 64 - 1 - tops)) ≡ bit_and (field k w v) (2 ^ w - 1 - top)
  kept v = field_and k w v (2 ^ 64 - 1 - tops) ∙ ap (bit_and (field k w v)) rest_is

  -- the field of what v has at the tops
  marked : (v : ℕ) → field k w (bit_and v tops) ≡ bit_and (field k w v) top
  marked v = field_and k w v tops ∙ ap (bit_and (field k w v)) is

  -- below the field, what v has beside the tops is less than half of what fits
  below : (v : ℕ) → 2 * (bit_and v (2 ^ 64 - 1 - tops) % 2 ^ k) < 2 ^ k
  below v = room tops k v fits (omega arith) starts

  -- the field of the sum of two words, made without carries over tops, is that sum of their fields
  sum_at : (a b : ℕ) →
      field k w (bit_xor ((bit_and a (2 ^ 64 - 1 - tops) + bit_and b (2 ^ 64 - 1 - tops)) % 2 ^ 64)
      (bit_and (bit_xor a b) tops))
      ≡ bit_xor ((bit_and (field k w a) (2 ^ w - 1 - top) + bit_and (field k w b) (2 ^ w - 1 - top)) % 2 ^ w)
      (bit_and (bit_xor (field k w a) (field k w b)) top)
  sum_at a b =
      let rest : ℕ = 2 ^ 64 - 1 - tops in
      rw (field_xor k w ((bit_and a rest + bit_and b rest) % 2 ^ 64) (bit_and (bit_xor a b) tops), marked (bit_xor a b))
      (rw (field_mod k w 64 (bit_and a rest + bit_and b rest) within, field_xor k w a b)
      (rw (field_add k w (bit_and a rest) (bit_and b rest) (omega (arith, below a, below b)), kept a, kept b)))

  -- the field of v with the tops set
  biased : (v : ℕ) → field k w (bit_or v tops) ≡ bit_or (field k w v) top
  biased v = field_or k w v tops ∙ ap (bit_or (field k w v)) is

  -- the field of the difference of two words, made without borrows over tops, is that difference of their fields
  difference_at : (a b : ℕ) → b < 2 ^ 64 →
      field k w (bit_xor ((bit_or a tops + (2 ^ 64 - bit_and b (2 ^ 64 - 1 - tops))) % 2 ^ 64)
      (bit_and (bit_xor a (2 ^ 64 - 1 - b)) tops))
      ≡ bit_xor ((bit_or (field k w a) top + (2 ^ w - bit_and (field k w b) (2 ^ w - 1 - top))) % 2 ^ w)
      (bit_and (bit_xor (field k w a) (2 ^ w - 1 - field k w b)) top)
  difference_at a b fits_b =
      let rest : ℕ = 2 ^ 64 - 1 - tops in
      let wrapped = field_wrapping_sub k w 64 (bit_or a tops) (bit_and b rest) within (omega (arith, and_le_l b rest))
      (omega (arith, below b, filled tops k a starts)) in
      rw (field_xor k w ((bit_or a tops + (2 ^ 64 - bit_and b rest)) % 2 ^ 64) (bit_and (bit_xor a (2 ^ 64 - 1 - b)) tops))
      (rw (marked (bit_xor a (2 ^ 64 - 1 - b)), field_xor k w a (2 ^ 64 - 1 - b), field_not k w 64 b within fits_b)
      (rw (wrapped, biased a, kept b)))

  -- the field of the marks of the lanes in which a and b differ is the mark of their fields
  differ_at : (a b : ℕ) →
      field k w (bit_and
      (bit_or ((bit_and (bit_xor a b) (2 ^ 64 - 1 - tops) + (2 ^ 64 - 1 - tops)) % 2 ^ 64) (bit_xor a b)) tops)
      ≡ bit_and (bit_or ((bit_and (bit_xor (field k w a) (field k w b)) (2 ^ w - 1 - top) + (2 ^ w - 1 - top)) % 2 ^ w)
      (bit_xor (field k w a) (field k w b))) top
  differ_at a b =
      let rest : ℕ = 2 ^ 64 - 1 - tops in
      let x : ℕ = bit_xor a b in
      let below_rest = rw (and_self rest) at (below rest) in
      rw (marked (bit_or ((bit_and x rest + rest) % 2 ^ 64) x), field_or k w ((bit_and x rest + rest) % 2 ^ 64) x)
      (rw (field_mod k w 64 (bit_and x rest + rest) within)
      (rw (field_add k w (bit_and x rest) rest (omega (arith, below x, below_rest)), kept x, rest_is, field_xor k w a b)))

-- a lane of tops has a bit, so that none is 0 bits wide
lane_has_a_bit : {A : Type 0} (tops k : ℕ) → IsLane tops k 0 → A
lane_has_a_bit tops k lane = absurd (omega (arith, lane.top, field_lt k 0 tops))

-- tops has in its lane of h + 1 bits the bit h alone
top_is : (tops k h : ℕ) → IsLane tops k (suc h) → field k (suc h) tops ≡ 2 ^ h
top_is tops k h lane = rw (sub-one (suc h)) at lane.top

-- for sums and differences of the lanes of a word: the complement of the top of h + 1 bits is all ones below it
beside_top : (h : ℕ) → 2 ^ suc h - 1 - 2 ^ h ≡ 2 ^ h - 1
beside_top h = omega (arith, pow-suc 2 h)

-- at a lane of tops, the sum of two words without carries over tops is the sum of the lanes, wrapped
pub add_lane : (tops k w a b : ℕ) → tops < 2 ^ 64 → IsLane tops k w →
    field k w (bit_xor ((bit_and a (2 ^ 64 - 1 - tops) + bit_and b (2 ^ 64 - 1 - tops)) % 2 ^ 64)
    (bit_and (bit_xor a b) tops)) ≡ (field k w a + field k w b) % 2 ^ w
add_lane tops k zero a b fits lane = lane_has_a_bit tops k lane
add_lane tops k (suc h) a b fits lane =
    rw (sum_at tops k (suc h) (2 ^ h) fits lane.starts lane.within (top_is tops k h lane) a b, beside_top h)
    (lane_add h _ _ (field_lt k (suc h) a) (field_lt k (suc h) b))

-- at a lane of tops, the difference of two words without borrows over tops is that of the lanes, wrapped
pub sub_lane : (tops k w a b : ℕ) → tops < 2 ^ 64 → b < 2 ^ 64 → IsLane tops k w →
    field k w (bit_xor ((bit_or a tops + (2 ^ 64 - bit_and b (2 ^ 64 - 1 - tops))) % 2 ^ 64)
    (bit_and (bit_xor a (2 ^ 64 - 1 - b)) tops)) ≡ (field k w a + (2 ^ w - field k w b)) % 2 ^ w
sub_lane tops k zero a b fits fits_b lane = lane_has_a_bit tops k lane
sub_lane tops k (suc h) a b fits fits_b lane =
    rw (difference_at tops k (suc h) (2 ^ h) fits lane.starts lane.within (top_is tops k h lane) a b fits_b, beside_top h)
    (lane_sub h _ _ (field_lt k (suc h) a) (field_lt k (suc h) b))

-- at a lane of tops, the inequality of two words has its top where the lanes of a and b differ, else 0
pub differ_lane : (tops k w a b : ℕ) → tops < 2 ^ 64 → IsLane tops k w →
    field k w (bit_and
    (bit_or ((bit_and (bit_xor a b) (2 ^ 64 - 1 - tops) + (2 ^ 64 - 1 - tops)) % 2 ^ 64) (bit_xor a b)) tops)
    ≡ cond (eqb (field k w a) (field k w b)) 0 (2 ^ (w - 1))
differ_lane tops k zero a b fits lane = lane_has_a_bit tops k lane
differ_lane tops k (suc h) a b fits lane =
    rw (differ_at tops k (suc h) (2 ^ h) fits lane.starts lane.within (top_is tops k h lane) a b, beside_top h)
    (rw (sub-one (suc h)) (lane_differ h _ _ (field_lt k (suc h) a) (field_lt k (suc h) b)))

-- ---- above the last top

-- above the last top of a word, all of a lane is beside the tops, of which it has none
all_kept : (w x : ℕ) → x < 2 ^ w → bit_and x (2 ^ w - 1 - 0) ≡ x
all_kept w x fits = rw (sub-zero (2 ^ w - 1), and_mask x w) (mod-eq_of_lt fits)

-- above the last top, the sum of two words without carries over tops is the sum of the lanes, wrapped
pub add_last : (tops k w a b : ℕ) → tops < 2 ^ 64 → IsLastLane tops k w →
    field k w (bit_xor ((bit_and a (2 ^ 64 - 1 - tops) + bit_and b (2 ^ 64 - 1 - tops)) % 2 ^ 64)
    (bit_and (bit_xor a b) tops)) ≡ (field k w a + field k w b) % 2 ^ w
add_last tops k w a b fits last =
    rw (sum_at tops k w 0 fits last.starts (omega (arith, last.whole)) last.free a b, and_zero_r, xor_zero_r)
    (rw (all_kept w (field k w a) (field_lt k w a), all_kept w (field k w b) (field_lt k w b)))

-- above the last top, the difference of two words without borrows over tops is that of the lanes, wrapped
pub sub_last : (tops k w a b : ℕ) → tops < 2 ^ 64 → b < 2 ^ 64 → IsLastLane tops k w →
    field k w (bit_xor ((bit_or a tops + (2 ^ 64 - bit_and b (2 ^ 64 - 1 - tops))) % 2 ^ 64)
    (bit_and (bit_xor a (2 ^ 64 - 1 - b)) tops)) ≡ (field k w a + (2 ^ w - field k w b)) % 2 ^ w
sub_last tops k w a b fits fits_b last =
    rw (difference_at tops k w 0 fits last.starts (omega (arith, last.whole)) last.free a b fits_b, and_zero_r)
    (rw (xor_zero_r, or_zero_r (field k w a), all_kept w (field k w b) (field_lt k w b)))

-- for the inequality of the lanes of a word: bits that are masked by the tops twice are those masked once
pub masked_twice : (x tops : ℕ) → bit_and (bit_and x tops) tops ≡ bit_and x tops
masked_twice x tops = and_assoc tops x tops ∙ ap (bit_and x) (and_self tops)

-- for `word_differ`: the marks of the lanes in which words differ
pub ruleset differ = (differ_lane, masked_twice)

-- the bits of v from start on, put together of their lanes
from_fields : (v start : ℕ) (widths : List ℕ) → v < 2 ^ 64 → start + sum widths ≡ 64
    → word_of_lanes (λ k w. field k w v) start widths ≡ v / 2 ^ start * 2 ^ start
unfolding field
from_fields v start [] fits whole =
    let end : start ≡ 64 = omega arith in
    rw (end, div-eq_of_lt fits)
from_fields v start (width ∷ widths) fits whole =
    let p : ℕ = 2 ^ start in
    let x : ℕ = v / p in
    let rest = from_fields v (start + width) widths fits (omega (arith, sum_by-cons (λ x. x) width widths)) in
    rw (rest, ← shr-shr v start width, pow-add 2 start width) (omega (arith, ap (λ n. n * p) (div-add-mod' x (2 ^ width))))

-- a word is the word of its own lanes, whatever their widths are, where these have the sum 64
pub word_from_lanes : (v : ℕ) (widths : List ℕ) → v < 2 ^ 64 → sum widths ≡ 64
    → v ≡ word_of_lanes (λ k w. field k w v) 0 widths
word_from_lanes v widths fits whole = sym (from_fields v 0 widths fits (omega arith) ∙ mul-one (v / 1) ∙ div-one v)

-- lanes of tops from start on up to the end of the word have widths whose sum with start is 64
widths_of_lanes : (tops start : ℕ) (widths : List ℕ) → AreLanes tops start widths → start + sum widths ≡ 64
widths_of_lanes tops start [] end = omega arith
widths_of_lanes tops start (width ∷ widths) lanes =
    omega (arith, widths_of_lanes tops (start + width) widths lanes.1, sum_by-cons (λ x. x) width widths)

-- two functions that agree on every lane of tops give the same word of these lanes
same_lanes : (tops start : ℕ) (widths : List ℕ) (f g : ℕ → ℕ → ℕ) → ((k w : ℕ) → IsLane tops k w → f k w ≡ g k w)
    → AreLanes tops start widths → word_of_lanes f start widths ≡ word_of_lanes g start widths
same_lanes tops start [] f g each end = refl
same_lanes tops start (width ∷ widths) f g each lanes =
    ap₂ (λ m n. m * 2 ^ start + n) (each start width lanes.0) (same_lanes tops (start + width) widths f g each lanes.1)

-- a word whose lanes of tops are f is the word of the lanes f
pub lanes_make_word : (tops v : ℕ) (widths : List ℕ) (f : ℕ → ℕ → ℕ) → v < 2 ^ 64 → AreLanes tops 0 widths
    → ((k w : ℕ) → IsLane tops k w → field k w v ≡ f k w) → v ≡ word_of_lanes f 0 widths
lanes_make_word tops v widths f fits lanes each =
    let whole : sum widths ≡ 64 = omega (arith, widths_of_lanes tops 0 widths lanes) in
    word_from_lanes v widths fits whole ∙ same_lanes tops 0 widths (λ k w. field k w v) f each lanes
