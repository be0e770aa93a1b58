-- Vectors by their two words, whose lanes are those of the words. Words with one number in each lane of one width: one
-- with the highest bit of each lane divides a word into these lanes, also where the word's highest bit is left out.
use Rattle.std.proofs.Common.{◌≡◌, ℕ, zero, suc, ◌+◌, ◌-◌, ◌*◌, ◌/◌, ◌%◌, ◌^◌, ◌<◌, ◌≤◌, ◌⊎◌, inl, inr, refl, sym, ap, ◌∙◌, arith, mul-zero, w8, w64, one-add, pow-suc}
use Rattle.wasmi_lanes.proofs.Common.{cases_lt, pow_pos, shr-shr, field_of, zero-mod, mod_self, bit_at, Width, w16, w32, bits, lane, from_lanes, field, IsLane, IsLastLane, lanes_in_word, in_each_lane, mod-mod-pow, sub-one, bit_at-pow_same}
use Rattle.wasmi_raw.specs.RawVal.{vector_of}
use Rattle.wasmi_lanes.proofs.FieldLemmas.{field_mod, lane_ends, top_of_lane}
use Rattle.wasmi_lanes.proofs.SimdLaneLemmas.{repeated_lane}
use Rattle.wasmi_lanes.proofs.VectorLemmas.{lanes_make_vector}
use mir.Syntax.{w128}

-- the words of the vector v
pub record AreWords (v low high : ℕ) : Type 0 where
  pub low_is : low ≡ v % 2 ^ 64
  pub high_is : high ≡ v / 2 ^ 64

-- the lower and the upper 64 bits of a vector are its words
pub u64x2_of : {v low high : ℕ} → low ≡ v % 2 ^ 64 → high ≡ v / 2 ^ 64 → AreWords v low high
u64x2_of low_is high_is = record { low_is = low_is; high_is = high_is }

-- two words of 64 bits make the vector r
pub record MakeVector (low high r : ℕ) : Type 0 where
  pub low_fits : low < 2 ^ 64
  pub high_fits : high < 2 ^ 64
  pub is : r ≡ vector_of low high

-- a fact of each lane of w bits of one of a vector's two words, by where it begins
abbrev pub EachLane : Width → (ℕ → Type 0) → Type 0
EachLane w P = (i : ℕ) → i < lanes_in_word w → P (bits w * i)

module _ (w : Width) (whole : lanes_in_word w * bits w ≡ 64) where
  -- a lane of one of a vector's two words ends within its 64 bits
  pub lane_within : (i : ℕ) → i < lanes_in_word w → bits w * i + bits w ≤ 64
  lane_within i inside = omega (arith, whole, lane_ends (bits w) (lanes_in_word w) i inside)

  -- the lanes of two words make 128 bits
  pub filled : (lanes_in_word w + lanes_in_word w) * bits w ≡ 128
  filled = omega (arith, whole)

  -- a lane of a vector, up to as many as a word has, is a lane of its low word
  pub low_lane : (v i : ℕ) → i < lanes_in_word w → lane w v i ≡ field (bits w * i) (bits w) (v % 2 ^ 64)
  unfolding field
  low_lane v i inside = sym (field_mod (bits w * i) (bits w) 64 v (lane_within i inside))

  -- a lane of a vector after those of its low word is a lane of its high word
  pub high_lane : (v i : ℕ) → lane w v (lanes_in_word w + i) ≡ field (bits w * i) (bits w) (v / 2 ^ 64)
  unfolding field
  high_lane v i =
      let place : bits w * (lanes_in_word w + i) ≡ 64 + bits w * i = omega (arith, whole) in
      rw (place, shr-shr v 64 (bits w * i))

  -- the vector of two words whose lanes are f of their numbers
  words_make_vector : (low high r : ℕ) (f : ℕ → ℕ) → MakeVector low high r
      → ((i : ℕ) → i < lanes_in_word w → field (bits w * i) (bits w) low ≡ f i)
      → ((i : ℕ) → i < lanes_in_word w → field (bits w * i) (bits w) high ≡ f (lanes_in_word w + i))
      → r ≡ from_lanes w f
  words_make_vector low high r f words low_is high_is =
      let n : ℕ = lanes_in_word w in
      let low_word : r % 2 ^ 64 ≡ low = omega arith in
      let high_word : r / 2 ^ 64 ≡ high = omega arith in
      lanes_make_vector w (n + n) r f filled (omega arith) (λ i inside. elim (cases_lt i n) as (λ _. lane w r i ≡ f i) [
        | inl lower ↦ rw (low_lane r i lower, low_word) (low_is i lower)
        | inr upper ↦
            let at : i ≡ n + (i - n) = omega arith in
            rw (at, high_lane r (i - n), high_word) (high_is (i - n) (omega arith))
      ])

  -- words whose lanes are a row of two operands' make the vector whose lanes are that row of the operands'
  pub words_make_binary : {low_a high_a low_b high_b low high : ℕ} (row : ℕ → ℕ → ℕ) (a b r : ℕ)
      → AreWords a low_a high_a → AreWords b low_b high_b → MakeVector low high r
      → EachLane w (λ k. field k (bits w) low ≡ row (field k (bits w) low_a) (field k (bits w) low_b))
      → EachLane w (λ k. field k (bits w) high ≡ row (field k (bits w) high_a) (field k (bits w) high_b))
      → r ≡ from_lanes w (λ i. row (lane w a i) (lane w b i))
  words_make_binary {low_a} {high_a} {low_b} {high_b} {low} {high} row a b r of_a of_b of_r low_is high_is =
      words_make_vector low high r (λ i. row (lane w a i) (lane w b i)) of_r
      (λ i inside. rw (low_lane a i inside, low_lane b i inside, ← of_a.low_is, ← of_b.low_is) (low_is i inside))
      (λ i inside. rw (high_lane a i, high_lane b i, ← of_a.high_is, ← of_b.high_is) (high_is i inside))

  -- words whose lanes are a row of one operand's make the vector whose lanes are that row of the operand's
  pub words_make_unary : {low_a high_a low high : ℕ} (row : ℕ → ℕ) (a r : ℕ) → AreWords a low_a high_a
      → MakeVector low high r → EachLane w (λ k. field k (bits w) low ≡ row (field k (bits w) low_a))
      → EachLane w (λ k. field k (bits w) high ≡ row (field k (bits w) high_a))
      → r ≡ from_lanes w (λ i. row (lane w a i))
  words_make_unary row a r of_a of_r = words_make_binary (λ x _. row x) a a r of_a of_a of_r

-- ---- the highest bits of lanes of one width

-- where a word has the highest bit of each lane of one width, a lane begins at the bottom, or right above such a bit
top_below : (h n tops : ℕ) → ((j : ℕ) → j < n → field (suc h * j) (suc h) tops ≡ 2 ^ h) → (i : ℕ) → i < n
    → (suc h * i ≡ 0) ⊎ (bit_at tops (suc h * i - 1) ≡ 1)
top_below h n tops each zero lt = inl (mul-zero (suc h))
top_below h n tops each (suc j) lt =
    let place : suc h * suc j - 1 ≡ suc h * j + h = omega arith in
    inr (rw (place, ← top_of_lane (suc h * j) h tops, each j (omega arith)) (bit_at-pow_same h))

-- a word that has the highest bit of each of n lanes of w bits divides its lowest bits into these lanes
pub tops_each : (w n tops : ℕ) → 0 < w → n * w ≤ 64 → ((j : ℕ) → j < n → field (w * j) w tops ≡ 2 ^ (w - 1)) → (i : ℕ)
    → i < n → IsLane tops (w * i) w
tops_each zero n tops pos fits each i lt = absurd (omega arith)
tops_each (suc h) n tops pos fits each i lt = record {
  starts = top_below h n tops (λ j below. rw (sub-one (suc h)) at (each j below)) i lt;
  top = each i lt;
  within = omega (arith, lane_ends (suc h) n i lt);
}

-- lanes of one width have a highest bit: a width is at least one bit
pub some_bits : (w : Width) → 0 < bits w
some_bits = elim [ w8 ↦ omega arith | w16 ↦ omega arith | w32 ↦ omega arith | w64 ↦ omega arith | w128 ↦ omega arith ]

-- the lane i of a word with n in each lane
pub lane_of_each : (w : Width) (n word : ℕ) → n < 2 ^ bits w → word ≡ in_each_lane w n
    → EachLane w (λ k. field k (bits w) word ≡ n)
lane_of_each w n word fits is i inside =
    ap (field (bits w * i) (bits w)) is ∙ repeated_lane (bits w) (lanes_in_word w) i n fits inside

-- the highest bit of a lane of b bits alone, which a word has in each lane, is a number of b bits
pub top_in_range : (b : ℕ) → 0 < b → 2 ^ (b - 1) < 2 ^ b
top_in_range zero pos = absurd (omega arith)
top_in_range (suc h) pos = rw (sub-one (suc h), pow-suc 2 h) (omega (arith, pow_pos h))

-- a word with the highest bit of each lane of w bits divides a word into these lanes
pub equal_lanes : (w : Width) (tops : ℕ) → lanes_in_word w * bits w ≡ 64 → tops ≡ in_each_lane w (2 ^ (bits w - 1))
    → EachLane w (λ k. IsLane tops k (bits w))
equal_lanes w tops whole is = tops_each (bits w) (lanes_in_word w) tops (some_bits w) (omega (arith, whole))
    (lane_of_each w (2 ^ (bits w - 1)) tops (top_in_range (bits w) (some_bits w)) is)

-- what begins right above a top, or at the bottom, does so without the highest bit of the word
starts_within : (tops k : ℕ) → k ≤ 63 → (k ≡ 0) ⊎ (bit_at tops (k - 1) ≡ 1)
    → (k ≡ 0) ⊎ (bit_at (tops % 2 ^ 63) (k - 1) ≡ 1)
unfolding field
starts_within tops zero le starts = inl refl
starts_within tops (suc j) le (inl e) = absurd (omega arith)
starts_within tops (suc j) le (inr e) = inr (field_mod (suc j - 1) 1 63 tops (omega arith) ∙ e)

-- without the highest bit of the word, the lane of tops that ends the word has no top
last_is_free : (tops k w : ℕ) → 0 < w → field k w tops ≡ 2 ^ (w - 1) → k + w ≡ 64 → field k w (tops % 2 ^ 63) ≡ 0
unfolding field
last_is_free tops k zero pos top whole = absurd (omega arith)
last_is_free tops k (suc h) pos top whole =
    let place : 63 ≡ h + k = omega arith in
    let low : tops / 2 ^ k % 2 ^ h ≡ 0 =
    rw (← mod-mod-pow (tops / 2 ^ k) 1 h, one-add h, top, sub-one (suc h)) (mod_self (2 ^ h)) in
    ap (λ n. tops % 2 ^ n / 2 ^ k % 2 ^ suc h) place ∙ rw (field_of tops h k, low) (zero-mod (2 ^ suc h))

-- a lane of tops, or the last one, as where the highest bit of the word is left out
abbrev pub InnerLane : ℕ → ℕ → ℕ → Type 0
InnerLane tops start width = IsLane tops start width ⊎ IsLastLane tops start width

-- without the highest bit of the word, a lane of tops is a lane still, or the last one
without_last_top : (tops k w : ℕ) → 0 < w → IsLane tops k w → InnerLane (tops % 2 ^ 63) k w
without_last_top tops k w pos lane = elim (cases_lt (k + w) 64) [
  | inl inner ↦
      inl (record {
        starts = starts_within tops k (omega arith) lane.starts;
        top = field_mod k w 63 tops (omega arith) ∙ lane.top;
        within = lane.within;
      })
  | inr last ↦
      let whole : k + w ≡ 64 = omega (arith, lane.within) in
      inr (record {
        starts = starts_within tops k (omega arith) lane.starts;
        free = last_is_free tops k w pos lane.top whole;
        whole = whole;
      })
]

-- a word with the highest bit of each lane of w bits but the last divides a word into these lanes
pub inner_lanes : (w : Width) (inner : ℕ) → lanes_in_word w * bits w ≡ 64
    → inner ≡ in_each_lane w (2 ^ (bits w - 1)) % 2 ^ 63 → EachLane w (λ k. InnerLane inner k (bits w))
inner_lanes w inner whole is i inside =
    rw is (without_last_top _ (bits w * i) (bits w) (some_bits w) (equal_lanes w _ whole refl i inside))

-- ---- words whose lanes are a row of the operands' lanes make the vector of that row, which may name the width

-- in each lane of one of a vector's two words r is the row of a and b
abbrev pub BinaryInLanes : (ℕ → ℕ → Type 0) → (ℕ → ℕ → ℕ → ℕ) → ℕ → ℕ → ℕ → Type 0
BinaryInLanes Lane row r a b =
    (start width : ℕ) → Lane start width → field start width r ≡ row width (field start width a) (field start width b)

module _ (w : Width) (Lane : ℕ → ℕ → Type 0) (whole : lanes_in_word w * bits w ≡ 64)
    (lanes : EachLane w (λ k. Lane k (bits w))) where
  -- words whose lanes are a row of two operands' make the vector whose lanes are that row of the operands'
  pub binary_by_words : {a low_a high_a b low_b high_b low high r : ℕ} (row : ℕ → ℕ → ℕ → ℕ) → AreWords a low_a high_a
      → AreWords b low_b high_b → low < 2 ^ 64 → high < 2 ^ 64
      → BinaryInLanes Lane row low low_a low_b → BinaryInLanes Lane row high high_a high_b → r ≡ vector_of low high
      → r ≡ from_lanes w (λ i. row (bits w) (lane w a i) (lane w b i))
  binary_by_words {a} {low_a} {high_a} {b} {low_b} {high_b} {low} {high}
      {r} row of_a of_b fits_low fits_high low_is high_is is_r =
      words_make_binary w whole (row (bits w)) a b r of_a of_b
      (record { low_fits = fits_low; high_fits = fits_high; is = is_r })
      (λ i inside. low_is (bits w * i) (bits w) (lanes i inside))
      (λ i inside. high_is (bits w * i) (bits w) (lanes i inside))
