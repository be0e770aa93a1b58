-- Tests of all lanes of a vector or of all numbers below n, and the bits that they give, also by the vector's two
-- words; lanes of a word that are 0, marked by a subtraction that borrows.
use Rattle.std.proofs.Common.{◌≡◌, ℕ, zero, suc, ◌+◌, ◌-◌, ◌*◌, ◌/◌, ◌%◌, ◌^◌, ◌<◌, ◌≤◌, refl, inl, inr, sym, ap, ap₂, ◌∙◌, arith, Bool, true, false, not, eqb, nat_eq, ◌&&◌, if◌then◌else◌, bit_and, bit_or, zero-mul, mul-suc, mul-zero, mul_comm, mul-add, mul_assoc, one-mul, add-mul, le_refl, lit<, mod-eq_of_lt, pow-suc, suc-add, zero-add, add-zero, add-suc, ◌↔◌}
use Rattle.wasmi_simd.proofs.Common.{div-eq_of_lt, mod-one, add-mod_right, div-mul-add, mod-pow-add, pow_pos, pow-add, mul-le, and_le_l, and_le_r, or_shifted, or_comm, and_pow, and_from, and_parts, eqb-true, eq-eqb, cases_eq, pow_mono, Width, bits, lane, unsigned, field, lanes_in_word, in_each_lane, field_lt, field_and, field_not, field_wrapping_sub, field_of_zero, lane_ends, same_words, lanes_of_width, AreWords, low_lane, high_lane, filled, some_bits, lane_of_each, top_in_range, holds_below, first_bits, every_lane, lane_bits, bit_at, bit_at_lowest, bit_at-suc}
use mathlib.Core.Bool.{and-true, and_assoc}
use Rattle.std.proofs.Math.Dec.{eqb-suc-zero}
use Rattle.std.specs.Int.Bits.{and_self}
use Rattle.std.specs.Cmp.{both_ways}
use Rattle.std.proofs.lemmas.Bool.Decides.{eqb_tells}

-- ---- tests that hold of all numbers below n

-- a test that holds of each number below n holds of all of them at once
pub holds_of_each : (n : ℕ) (test : ℕ → Bool) → ((i : ℕ) → i < n → test i ≡ true) → holds_below n test ≡ true
unfolding holds_below
holds_of_each zero test each = refl
holds_of_each (suc n) test each =
    and_from (holds_below n test) (test n) (holds_of_each n test (λ i inside. each i (omega arith)))
    (each n (omega arith))

-- a test that holds of all numbers below n at once holds of each
pub each_holds : (n : ℕ) (test : ℕ → Bool) → holds_below n test ≡ true → (i : ℕ) → i < n → test i ≡ true
unfolding holds_below
each_holds zero test all i inside = absurd (omega arith)
each_holds (suc n) test all i inside = elim (cases_eq i n) [
  | inl last ↦ ap test last ∙ (and_parts (holds_below n test) (test n) all).1
  | inr other ↦ each_holds n test (and_parts (holds_below n test) (test n) all).0 i (omega arith)
]

-- of two tests that agree on each number below n, both hold of all or neither does
holds_as : (n : ℕ) (f g : ℕ → Bool) → ((i : ℕ) → i < n → f i ≡ g i) → holds_below n f ≡ holds_below n g
unfolding holds_below
holds_as zero f g each = refl
holds_as (suc n) f g each =
    ap₂ (λ a b. a && b) (holds_as n f g (λ i inside. each i (omega arith))) (each n (omega arith))

-- the first n numbers, and then m more
holds_joined : (n m : ℕ) (test : ℕ → Bool)
    → holds_below (n + m) test ≡ (holds_below n test && holds_below m (λ i. test (n + i)))
unfolding holds_below
holds_joined n zero test = rw (add-zero n) (sym (and-true (holds_below n test)))
holds_joined n (suc m) test = rw (add-suc n m, holds_joined n m test) (and_assoc (holds_below n test) _ (test (n + m)))

-- two tests that agree on each number below n give the same n bits
bits_as : (n : ℕ) (f g : ℕ → Bool) → ((i : ℕ) → i < n → f i ≡ g i) → first_bits n f ≡ first_bits n g
unfolding first_bits
bits_as zero f g each = refl
bits_as (suc n) f g each = ap₂ (λ b m. (if b then 1 else 0) + 2 * m) (each 0 (omega arith))
    (bits_as n _ _ (λ i inside. each (suc i) (omega arith)))

-- the bit of a test is at most 1
pub bit_at_most : (t : Bool) → (if t then 1 else 0) ≤ 1
bit_at_most true = omega arith
bit_at_most false = omega arith

-- the bits of a test of the numbers below n are a number of n bits
pub bits_below : (n : ℕ) (f : ℕ → Bool) → first_bits n f < 2 ^ n
unfolding first_bits
bits_below zero f = lit< tt
bits_below (suc n) f = omega (arith, bits_below n (λ i. f (suc i)), pow-suc 2 n, bit_at_most (f 0))

-- the first n + m bits of a test are its first n bits and, above them, the m bits of the numbers from n on
bits_joined : (n m : ℕ) (f : ℕ → Bool) → first_bits (n + m) f ≡ first_bits n f + 2 ^ n * first_bits m (λ i. f (n + i))
unfolding first_bits
bits_joined zero m f = simp (zero-add, one-mul)
bits_joined (suc n) m f =
    let rest : ℕ = first_bits m (λ i. f (suc (n + i))) in
    simp suc-add (rw (bits_joined n m (λ i. f (suc i))) (omega (
      arith,
      mul-add 2 (first_bits n (λ i. f (suc i))) (2 ^ n * rest),
      mul_assoc 2 (2 ^ n) rest,
      ap (λ k. k * rest) (pow-suc 2 n),
      ap (λ k. k * rest) (mul_comm 2 (2 ^ n)),
    )))

-- a number below 2 ^ h has no bit h, which would mark a lane that is 0
low_top : (h y : ℕ) → y < 2 ^ h → bit_and y (2 ^ h) ≡ 0
low_top h y less = and_pow y h ∙ ap (λ n. n % 2 * 2 ^ h) (div-eq_of_lt less) ∙ zero-mul (2 ^ h)

-- the highest bit of x - 1 that x doesn't have: there is one where x is 0, and 1 is borrowed
top_of_borrow : (h x : ℕ) → x < 2 ^ suc h
    → bit_and (bit_and ((x + (2 ^ suc h - 1)) % 2 ^ suc h) (2 ^ suc h - 1 - x)) (2 ^ h)
    ≡ (if nat_eq x 0 then 2 ^ h else 0)
top_of_borrow h zero fits =
    let m : ℕ = 2 ^ suc h in
    let ones : ℕ = m - 1 in
    let some : 0 < 2 ^ h = pow_pos h in
    let twice : m ≡ 2 ^ h * 2 = pow-suc 2 h in
    let same : (0 + ones) % m ≡ ones = rw (zero-add ones) (mod-eq_of_lt (omega arith)) in
    let parts : ones ≡ 1 * 2 ^ h + (2 ^ h - 1) = omega arith in
    let top : ones / 2 ^ h ≡ 1 = ap (λ n. n / 2 ^ h) parts ∙ div-mul-add 1 (2 ^ h) (2 ^ h - 1) (omega arith) in
    let all : ones - 0 ≡ ones = omega arith in
    rw (same, all, and_self ones, and_pow ones h, top) (one-mul (2 ^ h))
top_of_borrow h (suc x) fits =
    let m : ℕ = 2 ^ suc h in
    let rest : ℕ = m - 1 - suc x in
    let twice : m ≡ 2 ^ h * 2 = pow-suc 2 h in
    let moved : suc x + (m - 1) ≡ x + m = omega arith in
    let less : (suc x + (m - 1)) % m ≡ x = ap (λ n. n % m) moved ∙ add-mod_right x m ∙ mod-eq_of_lt (omega arith) in
    rw (less, eqb-suc-zero x) (low_top h (bit_and x rest) (omega (arith, and_le_l x rest, and_le_r x rest)))

-- that bit of a number of b bits
top_of_lane_borrow : (b x : ℕ) → 0 < b → x < 2 ^ b
    → bit_and (bit_and ((x + (2 ^ b - 1)) % 2 ^ b) (2 ^ b - 1 - x)) (2 ^ (b - 1))
    ≡ (if nat_eq x 0 then 2 ^ (b - 1) else 0)
top_of_lane_borrow zero x some fits = absurd (omega arith)
top_of_lane_borrow (suc h) x some fits = let back : suc h - 1 ≡ h = omega arith in rw back (top_of_borrow h x fits)

-- v has n lanes of b bits, in each of which `ones` has a 1, and `tops` the highest bit alone
record IsZeroTest (b n v ones tops : ℕ) : Type 0 where
  some : 0 < b
  whole : n * b ≡ 64
  fits : v < 2 ^ 64
  fits_ones : ones < 2 ^ 64
  each_one : (i : ℕ) → i < n → field (b * i) b ones ≡ 1
  each_top : (i : ℕ) → i < n → field (b * i) b tops ≡ 2 ^ (b - 1)

-- a mark stands in the lowest lane that is 0, and none where no lane is 0: nothing is borrowed from a lane below which
-- there is no 0
module _ (b n v ones tops : ℕ) (given : IsZeroTest b n v ones tops) where
  abbrev is_some : ℕ → Bool
  is_some i = not (nat_eq (field (b * i) b v) 0)

  abbrev marks : ℕ
  marks = bit_and (bit_and ((v + (2 ^ 64 - ones)) % 2 ^ 64) (2 ^ 64 - 1 - v)) tops

  -- a lane ends within the word
  lane_inside : (i : ℕ) → i < n → b * i + b ≤ 64
  lane_inside i inside = omega (arith, given.whole, lane_ends b n i inside)

  -- a number that isn't 0 is at least 1
  some_there : (t : ℕ) → not (nat_eq t 0) ≡ true → 1 ≤ t
  some_there t is = grind (arith, eqb_tells)

  -- below a lane under which no lane is 0, v is at least the ones, so nothing is borrowed
  enough_below : (i : ℕ) → i < n → ((j : ℕ) → j < i → is_some j ≡ true) → ones % 2 ^ (b * i) ≤ v % 2 ^ (b * i)
  unfolding field
  enough_below zero inside some = rw (mul-zero b) (omega (arith, mod-one ones))
  enough_below (suc i) inside some =
      let k : ℕ = b * i in
      let p : ℕ = 2 ^ k in
      let x : ℕ = v / p % 2 ^ b in
      let next : b * suc i ≡ b + k = omega (arith, mul-suc b i) in
      let low : ones % p ≤ v % p = enough_below i (omega arith) (λ j below. some j (omega arith)) in
      let here : 1 ≤ x = some_there x (some i (omega arith)) in
      let rows : 1 * p ≤ x * p = mul-le 1 p x p here (le_refl p) in
      rw (next, mod-pow-add ones b k, given.each_one i (omega arith)) (omega (arith, mod-pow-add v b k))

  -- a lane under which no lane is 0 has a mark where it is 0 itself
  mark_is : (i : ℕ) → i < n → ((j : ℕ) → j < i → is_some j ≡ true)
      → field (b * i) b marks ≡ (if nat_eq (field (b * i) b v) 0 then 2 ^ (b - 1) else 0)
  mark_is i inside some =
      let k : ℕ = b * i in
      let less : ℕ = (v + (2 ^ 64 - ones)) % 2 ^ 64 in
      let rest : ℕ = 2 ^ 64 - 1 - v in
      let borrowed : field k b less ≡ (field k b v + (2 ^ b - 1)) % 2 ^ b =
      field_wrapping_sub k b 64 v ones (lane_inside i inside) given.fits_ones (enough_below i inside some)
      ∙ ap (λ m. (field k b v + (2 ^ b - m)) % 2 ^ b) (given.each_one i inside) in
      rw (
        field_and k b (bit_and less rest) tops,
        field_and k b less rest,
        borrowed,
        field_not k b 64 v (lane_inside i inside) given.fits,
        given.each_top i inside,
      )
      (top_of_lane_borrow b (field k b v) given.some (field_lt k b v))

  -- a lane without mark isn't 0
  no_mark : (t : ℕ) → (if nat_eq t 0 then 2 ^ (b - 1) else 0) ≡ 0 → not (nat_eq t 0) ≡ true
  no_mark t is = grind (arith, eqb_tells, pow_pos (b - 1))

  -- where there is no mark, no lane is 0
  some_below : marks ≡ 0 → (i : ℕ) → i ≤ n → (j : ℕ) → j < i → is_some j ≡ true
  some_below none zero le j below = absurd (omega arith)
  some_below none (suc i) le j below = elim (cases_eq j i) [
    | inl last ↦
        let clear : field (b * i) b marks ≡ 0 = ap (field (b * i) b) none ∙ field_of_zero (b * i) b in
        ap is_some last
        ∙ no_mark (field (b * i) b v)
        (sym (mark_is i (omega arith) (some_below none i (omega arith))) ∙ clear)
    | inr other ↦ some_below none i (omega arith) j (omega arith)
  ]

  -- a lane that isn't 0 has no mark
  no_zero_marked : (t : ℕ) → not (nat_eq t 0) ≡ true → (if nat_eq t 0 then 2 ^ (b - 1) else 0) ≡ 0
  no_zero_marked t is = grind (arith, eqb_tells)

  -- there is no mark where no lane is 0, and only there
  no_mark_is : tops < 2 ^ 64 → eqb marks 0 ≡ holds_below n is_some
  no_mark_is fits_tops =
      let below : marks < 2 ^ 64 =
      omega (arith, and_le_r (bit_and ((v + (2 ^ 64 - ones)) % 2 ^ 64) (2 ^ 64 - 1 - v)) tops) in
      both_ways (eqb marks 0) (holds_below n is_some)
      (λ e. holds_of_each n is_some (λ i inside. some_below (eqb-true marks 0 e) n (le_refl n) i inside))
      (λ all. eq-eqb marks 0
      (same_words b n marks 0 (rw given.whole below) (pow_pos (n * b))
      (λ i inside.
      mark_is i inside (λ j less. each_holds n is_some all j (omega arith))
      ∙ no_zero_marked (field (b * i) b v) (each_holds n is_some all i inside)
      ∙ sym (field_of_zero (b * i) b))))

-- no lane of w bits of v is 0
pub no_mark_in_word : (w : Width) (v ones tops : ℕ) → lanes_in_word w * bits w ≡ 64 → v < 2 ^ 64 → ones < 2 ^ 64
    → tops < 2 ^ 64
    → ones ≡ in_each_lane w 1 → tops ≡ in_each_lane w (2 ^ (bits w - 1))
    → eqb (bit_and (bit_and ((v + (2 ^ 64 - ones)) % 2 ^ 64) (2 ^ 64 - 1 - v)) tops) 0
    ≡ holds_below (lanes_in_word w) (λ i. not (nat_eq (field (bits w * i) (bits w) v) 0))
no_mark_in_word w v ones tops whole fits fits_ones fits_tops is_ones is_tops =
    no_mark_is (bits w) (lanes_in_word w) v ones tops
    (record {
      some = some_bits w;
      whole = whole;
      fits = fits;
      fits_ones = fits_ones;
      each_one = lane_of_each w 1 ones (pow_mono {i = 1} {j = bits w} (some_bits w)) is_ones;
      each_top = lane_of_each w (2 ^ (bits w - 1)) tops (top_in_range (bits w) (some_bits w)) is_tops;
    })
    fits_tops

module _ (w : Width) (whole : lanes_in_word w * bits w ≡ 64) (v low high : ℕ) (words : AreWords v low high) where
  -- a test of a lane of the low word is that of the same lane of the vector
  low_test : (test : ℕ → Bool) (i : ℕ) → i < lanes_in_word w
      → test (field (bits w * i) (bits w) low) ≡ test (lane w v i)
  low_test test i inside = ap test (ap (field (bits w * i) (bits w)) words.low_is ∙ sym (low_lane w whole v i inside))

  -- a test of a lane of the high word is that of a lane of the vector, after those of the low word
  high_test : (test : ℕ → Bool) (i : ℕ) → i < lanes_in_word w
      → test (field (bits w * i) (bits w) high) ≡ test (lane w v (lanes_in_word w + i))
  high_test test i _ = ap test (ap (field (bits w * i) (bits w)) words.high_is ∙ sym (high_lane w whole v i))

  -- a test of all lanes
  pub every_lane_of_words : (test : ℕ → Bool)
      → (holds_below (lanes_in_word w) (λ i. test (field (bits w * i) (bits w) low)) && holds_below (lanes_in_word w)
      (λ i. test (field (bits w * i) (bits w) high)))
      ≡ every_lane w unsigned test v
  unfolding every_lane
  every_lane_of_words test =
      let n : ℕ = lanes_in_word w in
      rw (lanes_of_width w (n + n) (filled w whole), holds_joined n n (λ i. test (lane w v i)))
      (ap₂ (λ a b. a && b) (holds_as n _ _ (low_test test)) (holds_as n _ _ (high_test test)))

  -- the bits of all lanes
  pub bits_of_words : (test : ℕ → Bool)
      → first_bits (lanes_in_word w) (λ i. test (field (bits w * i) (bits w) low)) + 2 ^ lanes_in_word w * first_bits
      (lanes_in_word w) (λ i. test (field (bits w * i) (bits w) high))
      ≡ lane_bits w unsigned test v
  unfolding lane_bits
  bits_of_words test =
      let n : ℕ = lanes_in_word w in
      rw (lanes_of_width w (n + n) (filled w whole), bits_joined n n (λ i. test (lane w v i)))
      (ap₂ (λ a b. a + 2 ^ n * b) (bits_as n _ _ (low_test test)) (bits_as n _ _ (high_test test)))

  -- those of the low word, and above them those of the high word
  pub bitmask_by_words : (test : ℕ → Bool) (a b : ℕ) → lanes_in_word w + lanes_in_word w ≤ 32
      → a ≡ first_bits (lanes_in_word w) (λ i. test (field (bits w * i) (bits w) low))
      → b ≡ first_bits (lanes_in_word w) (λ i. test (field (bits w * i) (bits w) high))
      → bit_or a (b * 2 ^ lanes_in_word w % 2 ^ 32) ≡ lane_bits w unsigned test v
  bitmask_by_words test a b few is_a is_b =
      let n : ℕ = lanes_in_word w in
      let p : ℕ = 2 ^ n in
      let below_a : a < p = rw is_a (bits_below n (λ i. test (field (bits w * i) (bits w) low))) in
      let below_b : b < p = rw is_b (bits_below n (λ i. test (field (bits w * i) (bits w) high))) in
      let room : p * p ≤ 2 ^ 32 = omega (arith, pow-add 2 n n, pow_mono {i = n + n} {j = 32} few) in
      let rows : (b + 1) * p ≤ p * p = mul-le (b + 1) p p p (omega arith) (le_refl p) in
      let whole : b * p % 2 ^ 32 ≡ b * p = mod-eq_of_lt (omega (arith, add-mul b 1 p, one-mul p)) in
      rw (whole, or_comm a (b * p), or_shifted b n a below_a, is_a, is_b)
      (omega (arith, mul_comm (first_bits n (λ i. test (field (bits w * i) (bits w) high))) p, bits_of_words test))

-- ---- bits of tests

-- bit i of the bits of a test of the numbers below n is 1 where the test holds of i, else 0
pub bit_of_first : (n : ℕ) (test : ℕ → Bool) (i : ℕ) → i < n → bit_at (first_bits n test) i ≡ (if test i then 1 else 0)
unfolding first_bits
bit_of_first zero test i inside = absurd (omega arith)
bit_of_first (suc n) test zero inside =
    let low : ℕ = if test 0 then 1 else 0 in
    bit_at_lowest (low + 2 * first_bits n (λ i. test (suc i))) ∙ omega (arith, bit_at_most (test 0))
bit_of_first (suc n) test (suc i) inside =
    let low : ℕ = if test 0 then 1 else 0 in
    let rest : ℕ = first_bits n (λ i. test (suc i)) in
    let half : (low + 2 * rest) / 2 ≡ rest = omega (arith, bit_at_most (test 0)) in
    bit_at-suc (low + 2 * rest) i ∙ ap (λ k. bit_at k i) half ∙ bit_of_first n (λ i. test (suc i)) i (omega arith)

-- a test of the numbers below n at once holds exactly where it holds of each
pub test_of_numbers : (n : ℕ) (test : ℕ → Bool)
    → (holds_below n test ≡ true) ↔ ((i : ℕ) → i < n → test i ≡ true)
test_of_numbers n test = (each_holds n test, holds_of_each n test)
