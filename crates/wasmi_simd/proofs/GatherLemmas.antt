-- Bitmasks: the highest bits of the lanes of a word, as digits of a number, brought together by a product or a shift.
use Rattle.std.proofs.Common.{◌≡◌, ℕ, zero, suc, ◌+◌, ◌*◌, ◌/◌, ◌%◌, ◌^◌, ◌<◌, ◌≤◌, refl, sym, ap, ap₂, ◌∙◌, arith, inl, inr, Bool, leb, zero-mul, suc-mul, mul_comm, mod-eq_of_lt, bit_and, pow-suc, if◌then◌else◌, replicate, ◌-◌}
use Rattle.wasmi_simd.proofs.Common.{div-eq_of_lt, pow_pos, and_le_l, and_mask, shr_below, div-add-mod', and_pow, cases_lt, le-leb, lt-leb, number_l, field, field_and, field_lt, first_lane, next_lane, repeated_lane, first_bits, div-mul-add}
use Rattle.wasmi_simd.proofs.ReductionLemmas.{bit_at_most}

-- the number whose n digits in base p are g 0, g 1 ..
abbrev spelled : ℕ → ℕ → (ℕ → ℕ) → ℕ
spelled p zero g = 0
spelled p (suc n) g = g 0 + p * spelled p n (λ i. g (suc i))

-- the same digits, as of a bitmask, give the same number
spelled_same : (p n : ℕ) (g h : ℕ → ℕ) → ((i : ℕ) → i < n → g i ≡ h i) → spelled p n g ≡ spelled p n h
spelled_same p zero g h each = refl
spelled_same p (suc n) g h each =
    ap₂ (λ x y. x + p * y) (each 0 (omega arith)) (spelled_same p n _ _ (λ i lt. each (suc i) (omega arith)))

-- a word is its lanes, as digits
word_spelled : (w n v : ℕ) → v < 2 ^ (n * w) → v ≡ spelled (2 ^ w) n (λ i. field (w * i) w v)
word_spelled w zero v fits = let none = rw (zero-mul w) at fits in omega arith
word_spelled w (suc n) v fits =
    let less = rw (suc-mul n w) at fits in
    let rest : spelled (2 ^ w) n (λ i. field (w * suc i) w v) ≡ v / 2 ^ w =
    spelled_same (2 ^ w) n _ _ (λ i _. next_lane w i v)
    ∙ sym (word_spelled w n (v / 2 ^ w) (shr_below v (n * w) w less)) in
    sym (ap₂ (λ a b. a + 2 ^ w * b) (first_lane w v) rest
    ∙ omega (arith, div-add-mod' v (2 ^ w), mul_comm (2 ^ w) (v / 2 ^ w)))

-- ---- the highest bits of lanes, as digits

-- a bit of a bitmask, as a digit of a number: 1 where a test of a lane holds, else 0
abbrev one_if : Bool → ℕ
one_if t = if t then 1 else 0

-- the bits that are 1 where a test holds, as digits
pub spelled_bits : (n : ℕ) (test : ℕ → Bool) → spelled 2 n (λ i. one_if (test i)) ≡ first_bits n test
unfolding first_bits
spelled_bits zero test = refl
spelled_bits (suc n) test = ap (λ k. one_if (test 0) + 2 * k) (spelled_bits n (λ i. test (suc i)))

-- the highest bit of a number of h + 1 bits, as a digit
highest_bit : (h x : ℕ) → x < 2 ^ suc h → x / 2 ^ h ≡ one_if (leb (2 ^ h) x)
highest_bit h x fits =
    elim (cases_lt x (2 ^ h)) [
      | inl below ↦ rw (lt-leb (2 ^ h) x below) (div-eq_of_lt below)
      | inr above ↦
          let parts : x ≡ 1 * 2 ^ h + (x - 2 ^ h) = omega arith in
          rw (le-leb (2 ^ h) x above)
          (ap (λ n. n / 2 ^ h) parts ∙ div-mul-add 1 (2 ^ h) (x - 2 ^ h) (omega (arith, pow-suc 2 h)))
    ]

-- the highest bit of a number of h + 1 bits, in its place
highest_alone : (h x : ℕ) → x < 2 ^ suc h → bit_and x (2 ^ h) ≡ one_if (leb (2 ^ h) x) * 2 ^ h
highest_alone h x fits = and_pow x h ∙ ap (λ n. n % 2 * 2 ^ h) (highest_bit h x fits)
    ∙ ap (λ n. n * 2 ^ h) (mod-eq_of_lt (omega (arith, bit_at_most (leb (2 ^ h) x))))

-- the highest bits of the n lanes of h + 1 bits of v, as digits
pub tops_spelled : (h n v tops : ℕ) → n * suc h ≡ 64 → v < 2 ^ 64 → tops ≡ number_l (2 ^ suc h) (replicate n (2 ^ h))
    → bit_and v tops ≡ spelled (2 ^ suc h) n (λ i. one_if (leb (2 ^ h) (field (suc h * i) (suc h) v)) * 2 ^ h)
tops_spelled h n v tops whole fits is =
    let below : bit_and v tops < 2 ^ 64 = omega (arith, and_le_l v tops) in
    let top : 2 ^ h < 2 ^ suc h = omega (arith, pow-suc 2 h, pow_pos h) in
    word_spelled (suc h) n (bit_and v tops) (rw whole below)
    ∙ spelled_same (2 ^ suc h) n (λ i. field (suc h * i) (suc h) (bit_and v tops)) _
    (λ i inside.
    rw (field_and (suc h * i) (suc h) v tops, is, repeated_lane (suc h) n i (2 ^ h) top inside)
    (highest_alone h (field (suc h * i) (suc h) v) (field_lt (suc h * i) (suc h) v)))

-- the highest bit of a word
pub one_top : (v : ℕ) → v < 2 ^ 64 → v / 2 ^ 63 ≡ first_bits 1 (λ i. leb (2 ^ 63) (field (64 * i) 64 v))
unfolding first_bits
one_top v fits =
    highest_bit 63 v fits ∙ ap (λ x. one_if (leb (2 ^ 63) x)) (sym (first_lane 64 v ∙ mod-eq_of_lt fits)) ∙ omega arith

-- ---- digits of 0 or 1, brought together

-- a product brings those of 8 lanes to the highest byte
pub gathered_8 : (d : ℕ → ℕ) → ((i : ℕ) → d i ≤ 1)
    → spelled (2 ^ 8) 8 (λ i. d i * 2 ^ 7) * 0x0002_0408_1020_4081 % 2 ^ 64 / 2 ^ 56 ≡ spelled 2 8 d
gathered_8 d small = omega (arith, small 0, small 1, small 2, small 3, small 4, small 5, small 6, small 7)

-- a product does so with those of 4 lanes of a low word, moved down by 4 bits, and of 4 lanes of a high word
pub gathered_16 : (l h : ℕ → ℕ) → ((i : ℕ) → l i ≤ 1) → ((i : ℕ) → h i ≤ 1)
    → (spelled (2 ^ 16) 4 (λ i. l i * 2 ^ 15) / 2 ^ 4 + spelled (2 ^ 16) 4 (λ i. h i * 2 ^ 15)) * 0x0000_2000_4000_8001
    % 2 ^ 64 / 2 ^ 56 ≡ spelled 2 4 l + 2 ^ 4 * spelled 2 4 h
gathered_16 l h small_l small_h =
    omega (arith, small_l 0, small_l 1, small_l 2, small_l 3, small_h 0, small_h 1, small_h 2, small_h 3)

-- a shift brings those of 2 lanes of a low word and of 2 lanes of a high word to the lowest bits
pub gathered_32 : (l h : ℕ → ℕ) → ((i : ℕ) → l i ≤ 1) → ((i : ℕ) → h i ≤ 1) → (x : ℕ)
    → x ≡ spelled (2 ^ 32) 2 (λ i. l i * 2 ^ 31) / 2 ^ 31 + spelled (2 ^ 32) 2 (λ i. h i * 2 ^ 31) / 2 ^ 29
    → bit_and (x + x / 2 ^ 31) 0xf ≡ spelled 2 2 l + 2 ^ 2 * spelled 2 2 h
gathered_32 l h small_l small_h x is =
    and_mask (x + x / 2 ^ 31) 4 ∙ omega (arith, small_l 0, small_l 1, small_h 0, small_h 1)
