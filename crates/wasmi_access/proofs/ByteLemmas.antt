-- Bytes of numbers: the bytes of a number, the number of a list of bytes, and each of the other, for any number of bytes
-- and for the widths of integers.
use Rattle.std.proofs.Common.{◌≡◌, ℕ, ◌+◌, ◌-◌, ◌*◌, ◌/◌, ◌%◌, ◌^◌, ◌<◌, ◌∙◌, suc, sym, refl, ap, arith, mod-eq_of_lt, zero, List, [], ◌∷◌, ◌++◌, length, take, get_or, div-one, lit<, mul_comm, pos, length-take-le, take_all, take-suc}
use Rattle.std.specs.Int.{Width, w8, w16, w32, w64, w128, bytes_low_first, byte_at, byte_worth, sum_through, from_le_bytes, to_le_bytes, byte_len}
use Rattle.wasmi_types.specs.Numbers.{wrap, number_of, le_bytes}
use Rattle.wasmi_types.proofs.NumbersLemmas.{wrap_unsigned, wrap_signed, wrap_of_bits, wrap_of_image}
use Rattle.std.proofs.lemmas.Int.{to_z-of_z}
use Rattle.std.proofs.lemmas.Nat.{pow_pos, pow-add}
use mir.Val.{bits}
use Rattle.std.proofs.Math.Nat.{div-div-eq-div-mul, pow-suc, mod-one}
use lib.Arith.{mod-mul}

-- ---- the bytes of a number

-- 256 to the power k is 2 to the power 8 * k
pub bytes_power : (k : ℕ) → 256 ^ k ≡ 2 ^ (8 * k)
bytes_power zero = refl
bytes_power (suc k) =
    let more : 8 * suc k ≡ 8 * k + 8 = omega arith in
    rw (pow-suc 256 k, bytes_power k, more, pow-add 2 (8 * k) 8)

-- the k bytes of a number from byte i on are k
pub length-low_first : (i k n : ℕ) → length (bytes_low_first i k n) ≡ k
length-low_first i zero n = refl
length-low_first i (suc k) n = ap suc (length-low_first (suc i) k n)

-- byte i of a number is its quotient by 256 to the power i, modulo 256
byte_at-is : (i n : ℕ) → byte_at i n ≡ n / 256 ^ i % 256
byte_at-is zero n = ap (λ m. m % 256) (sym (div-one n))
byte_at-is (suc i) n = refl

-- the number of the k bytes of n from byte i on is the quotient of n by 256 ^ i, modulo 256 ^ k
pub number_of-low_first : (i k n : ℕ) → number_of (bytes_low_first i k n) ≡ n / 256 ^ i % 256 ^ k
unfolding number_of
number_of-low_first i zero n = sym (mod-one (n / 256 ^ i))
number_of-low_first i (suc k) n =
    let next : n / 256 ^ suc i ≡ n / 256 ^ i / 256 = rw (pow-suc 256 i) (sym (div-div-eq-div-mul n (256 ^ i) 256)) in
    rw (byte_at-is i n, number_of-low_first (suc i) k n, next, pow-suc 256 k)
    (omega (arith, mod-mul (n / 256 ^ i) {m = 256 ^ k} {c = 256} (rw (bytes_power k) (pow_pos (8 * k))) (lit< tt)))

-- ---- the number of some bytes

-- one more byte at the end adds its product by 256 to the power of the length so far
number_of-push : (bs : List ℕ) (b : ℕ) → number_of (bs ++ b ∷ []) ≡ number_of bs + b * 256 ^ length bs
unfolding number_of
number_of-push [] b = omega arith
number_of-push (c ∷ bs) b = rw (pow-suc 256 (length bs)) (omega (arith, number_of-push bs b))

-- what the bytes 0 to k are worth together is the number of the first k + 1 bytes
pub sum_through-number_of : (bs : List ℕ) (k : ℕ) → k < length bs
    → sum_through (λ i. byte_worth i (get_or bs i 0)) k ≡ number_of (take (suc k) bs)
unfolding number_of
sum_through-number_of [] zero h = absurd (omega arith)
sum_through-number_of (b ∷ bs) zero h = omega arith
sum_through-number_of bs (suc k) h =
    rw (take-suc bs (suc k) 0 h, number_of-push, length-take-le (suc k) bs (omega arith))
    (ap (λ n. n + get_or bs (suc k) 0 * 256 ^ suc k) (sum_through-number_of bs k (omega arith)))

-- ---- the bytes of the number of some bytes

-- the bytes of n from byte i + 1 on are those of n / 256 from byte i on
low_first-next : (i k n : ℕ) → bytes_low_first (suc i) k n ≡ bytes_low_first i k (n / 256)
low_first-next i zero n = refl
low_first-next i (suc k) n =
    let quotient : n / 256 ^ suc i ≡ n / 256 / 256 ^ i =
    rw (pow-suc 256 i, mul_comm (256 ^ i) 256) (sym (div-div-eq-div-mul n 256 (256 ^ i))) in
    rw (low_first-next (suc i) k n, byte_at-is i (n / 256), quotient)

-- the bytes of the number of a list are the list, where each byte is below 256
low_first-number_of : (bs : List ℕ) → ((i : ℕ) → get_or bs i 0 < 256) → le_bytes (length bs) (number_of bs) ≡ bs
unfolding number_of
low_first-number_of [] h = refl
low_first-number_of (b ∷ bs) h =
    let small : b < 256 = h 0 in
    let first : (b + 256 * number_of bs) % 256 ≡ b = omega (arith, small) in
    let quotient : (b + 256 * number_of bs) / 256 ≡ number_of bs = omega (arith, small) in
    rw (first, low_first-next 0 (length bs), quotient, low_first-number_of bs (λ i. h (suc i)))

-- ---- at the widths of the numbers

-- the number of the k bytes of n is n, where n is below 256 to the power k
pub number_of-bytes : (k n : ℕ) → n < 256 ^ k → number_of (le_bytes k n) ≡ n
number_of-bytes k n h = number_of-low_first 0 k n ∙ ap (λ m. m % 256 ^ k) (div-one n) ∙ mod-eq_of_lt h

-- what all bytes of a list are worth together is the number of the list
pub number_of-whole : (bs : List ℕ) (k : ℕ) → length bs ≡ suc k
    → sum_through (λ i. byte_worth i (get_or bs i 0)) k ≡ number_of bs
number_of-whole bs k e = sum_through-number_of bs k (omega arith) ∙ ap number_of (take_all (suc k) bs (omega arith))

-- the bytes of what the bytes of a list are worth together are the list
pub le_bytes-whole : (bs : List ℕ) (k n : ℕ) → length bs ≡ suc k → ((i : ℕ) → get_or bs i 0 < 256)
    → n ≡ sum_through (λ i. byte_worth i (get_or bs i 0)) k → le_bytes (suc k) n ≡ bs
le_bytes-whole bs k n e h is =
    ap (le_bytes (suc k)) (is ∙ number_of-whole bs k e) ∙ ap (λ j. le_bytes j (number_of bs)) (sym e)
    ∙ low_first-number_of bs h

-- the same of a number of an unsigned type, cut to its width
pub le_bytes-unsigned : (w : Width) (bs : List ℕ) (k n : ℕ) → n < 2 ^ bits w → length bs ≡ suc k
    → ((i : ℕ) → get_or bs i 0 < 256)
    → n ≡ sum_through (λ i. byte_worth i (get_or bs i 0)) k → le_bytes (suc k) (wrap w (pos n)) ≡ bs
le_bytes-unsigned w bs k n below e h is = ap (le_bytes (suc k)) (wrap_unsigned w n below) ∙ le_bytes-whole bs k n e h is

-- what holds at each width of a number
pub record AtEachWidth (P : Width → Type 0) : Type 0 where
  pub at_8 : P w8
  pub at_16 : P w16
  pub at_32 : P w32
  pub at_64 : P w64
  pub at_128 : P w128

-- the number that std reads of as many bytes as a width has is that of the list
pub number_of_whole : AtEachWidth
    (λ w. (bs : List ℕ) → length bs ≡ suc (byte_len w - 1) → from_le_bytes w bs ≡ number_of bs)
number_of_whole = record {
  at_8 = λ bs. number_of-whole bs 0;
  at_16 = λ bs. number_of-whole bs 1;
  at_32 = λ bs. number_of-whole bs 3;
  at_64 = λ bs. number_of-whole bs 7;
  at_128 = λ bs. number_of-whole bs 15;
}

-- the number of the 2 bytes of a number of 16 bits is that number
pub number_of_bytes_2 : (n : ℕ) → n < 2 ^ 16 → number_of (to_le_bytes w16 n) ≡ n
number_of_bytes_2 n h = number_of-bytes 2 n h

-- the number of the 4 bytes of a number of 32 bits is that number
pub number_of_bytes_4 : (n : ℕ) → n < 2 ^ 32 → number_of (to_le_bytes w32 n) ≡ n
number_of_bytes_4 n h = number_of-bytes 4 n h

-- the number of the 8 bytes of a number of 64 bits is that number
pub number_of_bytes_8 : (n : ℕ) → n < 2 ^ 64 → number_of (to_le_bytes w64 n) ≡ n
number_of_bytes_8 n h = number_of-bytes 8 n h

-- the number of one byte is the byte
pub number_of_single : (b : ℕ) → number_of (b ∷ []) ≡ b
unfolding number_of
number_of_single b = omega arith

-- for the bytes of numbers, and of signed ones, which are those of their unsigned images
pub ruleset byte_numbers = (
  number_of_whole,
  number_of_bytes_2,
  number_of_bytes_4,
  number_of_bytes_8,
  number_of_single,
  wrap_of_bits,
  wrap_of_image,
  wrap_signed,
  to_z-of_z,
)
