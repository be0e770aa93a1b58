-- A vector by its two words: bit by bit operations, the inversion and words of all ones, by which lanes are negated,
-- and lanes of 64 bits, which are the words, and their products.
use Rattle.std.proofs.Common.{◌≡◌, ℕ, zero, suc, ◌+◌, ◌-◌, ◌*◌, ◌/◌, ◌%◌, ◌^◌, ◌<◌, ◌≤◌, inl, inr, sym, ap, ◌∙◌, arith, mod-eq_of_lt, ap₂, mul_comm, mul_assoc, zero-add}
use Rattle.wasmi_lanewise.proofs.Common.{mod_self, add-mod_right, mul-div_cancel, pow_pos, div-add-mod', field_of, field, field_lt, field_not, field_of_zero, AreWords, InnerLane, u64x2_of, v128_not, w64, lane, unsigned, first_lanes, binary_of_lanes, vector_of}

-- a lane of the word of all ones
pub ones_lane : (k w : ℕ) → k + w ≤ 64 → field k w (2 ^ 64 - 1) ≡ 2 ^ w - 1
ones_lane k w within =
    field_not k w 64 0 within (pow_pos 64) ∙ ap (λ n. 2 ^ w - 1 - n) (field_of_zero k w) ∙ omega arith

-- ---- a vector inverted, and its words

-- the words of what is inverted, inverted again
pub inverted_word_pair : {v i low high : ℕ} → v < 2 ^ 128 → i ≡ v128_not v → AreWords i low high
    → AreWords v (2 ^ 64 - 1 - low) (2 ^ 64 - 1 - high)
inverted_word_pair fits is of_i = u64x2_of (omega (arith, is, of_i.low_is)) (omega (arith, is, of_i.high_is))

-- ---- a lane and all ones, inverted: the lane negated

-- an inner lane, as one that is negated, ends within the word
within_word : (tops k w : ℕ) → InnerLane tops k w → k + w ≤ 64
within_word tops k w (inl lane) = lane.within
within_word tops k w (inr lane) = omega (arith, lane.whole)

-- modulo p, x less 1, taken from p - 1, is x negated
less_one_inverted : (p x : ℕ) → x < p → p - 1 - (x + (p - 1)) % p ≡ (p - x) % p
less_one_inverted p zero fits =
    let all : (p - 1) % p ≡ p - 1 = mod-eq_of_lt (omega arith) in
    let less : p - 0 ≡ p = omega arith in
    rw (zero-add (p - 1), all, less, mod_self p) (omega arith)
less_one_inverted p (suc y) fits =
    let sum : suc y + (p - 1) ≡ y + p = omega arith in
    let rest : (suc y + (p - 1)) % p ≡ y = ap (λ n. n % p) sum ∙ add-mod_right y p ∙ mod-eq_of_lt (omega arith) in
    let less : p - 1 - (suc y + (p - 1)) % p ≡ p - suc y = omega (arith, rest) in
    less ∙ sym (mod-eq_of_lt (omega arith))

-- a lane and all ones, inverted, is the lane negated
pub negated_lane : (tops k w v r : ℕ) → r < 2 ^ 64 → InnerLane tops k w
    → field k w r ≡ (field k w v + field k w (2 ^ 64 - 1)) % 2 ^ w
    → field k w (2 ^ 64 - 1 - r) ≡ (2 ^ w - field k w v) % 2 ^ w
negated_lane tops k w v r fits lane is =
    let within : k + w ≤ 64 = within_word tops k w lane in
    rw (field_not k w 64 r within fits, is, ones_lane k w within)
    (less_one_inverted (2 ^ w) (field k w v) (field_lt k w v))

-- the vector of an operation on the words, where it is the same on high bits and on low bits, is the operation on the
-- vectors
pub on_words : {a b low_a high_a low_b high_b r : ℕ} (op : ℕ → ℕ → ℕ)
    → ((a b k : ℕ) → op a b / 2 ^ k ≡ op (a / 2 ^ k) (b / 2 ^ k))
    → ((a b k : ℕ) → op a b % 2 ^ k ≡ op (a % 2 ^ k) (b % 2 ^ k)) → AreWords a low_a high_a → AreWords b low_b high_b
    → r ≡ vector_of (op low_a low_b) (op high_a high_b) → r ≡ op a b
on_words {a} {b} op on_high on_low of_a of_b is =
    rw (is, of_a.high_is, of_b.high_is, of_a.low_is, of_b.low_is, ← on_high a b 64, ← on_low a b 64)
    (div-add-mod' (op a b) (2 ^ 64))

-- a word that is the row of two words
pub record IsWordOf (row : ℕ → ℕ → ℕ) (a b word : ℕ) : Type 0 where
  pub fits : word < 2 ^ 64
  pub is : word ≡ row a b

-- lanes of 64 bits are the words
pub lanes_are_words : (row : ℕ → ℕ → ℕ) (a b low high r : ℕ) → a < 2 ^ 128 → b < 2 ^ 128
    → IsWordOf row (a % 2 ^ 64) (b % 2 ^ 64) low → IsWordOf row (a / 2 ^ 64) (b / 2 ^ 64) high
    → r ≡ vector_of low high → r ≡ binary_of_lanes w64 unsigned row a b
unfolding binary_of_lanes first_lanes
lanes_are_words row a b low high r fits_a fits_b of_low of_high is =
    let first : row (lane w64 a 0) (lane w64 b 0) ≡ low = ap₂ row (omega arith) (omega arith) ∙ sym of_low.is in
    let second : row (lane w64 a 1) (lane w64 b 1) ≡ high = ap₂ row (omega arith) (omega arith) ∙ sym of_high.is in
    omega (arith, is, first, second, of_low.fits, of_high.fits)

-- the product of two words, as the high word of one of 128 bits, where u and v are x and y
pub high_product : (x y u v : ℕ) → x < 2 ^ 64 → u ≡ x → v ≡ y → u * 2 ^ 64 % 2 ^ 128 * v % 2 ^ 128 / 2 ^ 64 ≡ x * y % 2 ^ 64
high_product x y u v fits is_u is_v =
    let left : u * 2 ^ 64 % 2 ^ 128 ≡ x * 2 ^ 64 = omega (arith, is_u) in
    let moved : x * 2 ^ 64 * y ≡ x * y * 2 ^ 64 =
    omega (arith, mul_assoc x (2 ^ 64) y, mul_assoc x y (2 ^ 64), ap (λ k. x * k) (mul_comm (2 ^ 64) y)) in
    rw (left, is_v, moved, field_of (x * y * 2 ^ 64) 64 64, mul-div_cancel (x * y) {n = 2 ^ 64} (omega arith))
