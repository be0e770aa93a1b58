-- Lanes as std::simd has them, which are the digits of a number: how they are read from the bytes of a vector, and how
-- a vector is written by its bytes; lanes moved by half of their range.
use Rattle.std.proofs.Common.{ℕ, ◌+◌, ◌%◌, ◌<◌, ◌≡◌, List, [], ◌∷◌, length, get_or, map, replicate, refl, sym, ap, ◌∙◌, arith, zero, suc, pos, ◌*◌, ◌/◌, ◌^◌, ◌≤◌, zero-mul, suc-mul, mod-eq_of_lt, w8, w64, le_refl}
use Rattle.wasmi_lanes.proofs.Common.{zip2, digits_l, number_l, Each1, Each1-from_get_or, mod-one, mod-pow-add, div-mul-add, mod-mul-add, pow-add, mul-le, get_or-map, Width, w16, w32, bits, signed, lane, field, Each1-replicate}
use Rattle.wasmi_raw.specs.RawVal.{vector_of}
use Rattle.wasmi_lanes.proofs.FieldLemmas.{first_lane, next_lane}
use Rattle.wasmi_lanes.proofs.ItemLemmas.{items, repeated, zipped}

-- a lane of 8 bits moved by half of its range
pub biased_8 : (xs : List ℕ) (i : ℕ) → length xs ≡ 16 → i < 16
    → get_or (zip2 (λ a b. (a + b) % 256) xs (replicate 16 128)) i 0 ≡ (get_or xs i 0 + 128) % 256
biased_8 xs i long inside = (zipped (λ a b. (a + b) % 256) (items 16 xs long) (repeated 16 128)).are i inside

-- the list of digits has them in their places
pub digit_at : (b n v i d : ℕ) → i < n → get_or (digits_l (2 ^ b) n v) i d ≡ v / 2 ^ (b * i) % 2 ^ b
unfolding field
digit_at b zero v i d below = absurd (omega arith)
digit_at b (suc n) v zero d below = sym (first_lane b v)
digit_at b (suc n) v (suc i) d below = digit_at b n (v / 2 ^ b) i d (omega arith) ∙ sym (next_lane b i v)

-- a lane of 8 bits as std::simd has it, which is a digit of the number of a vector's two words
pub byte_of_words : (v low high : ℕ) → v ≡ vector_of low high → (i : ℕ) → i < 16
    → get_or (digits_l 256 16 (low + 2 ^ 64 * (high + 0))) i 0 ≡ lane w8 v i
byte_of_words v low high whole i inside =
    let number : low + 2 ^ 64 * (high + 0) ≡ v = omega (arith, whole) in
    digit_at 8 16 (low + 2 ^ 64 * (high + 0)) i 0 inside ∙ ap (λ k. lane w8 k i) number

-- x + p * n, with its factors and its summands swapped
turned : (p x n : ℕ) → x + p * n ≡ n * p + x
turned p x n = omega arith

-- the number of a list of digits has them in their places
pub number_at : (b : ℕ) (xs : List ℕ) (i d : ℕ) → Each1 (λ x. x < 2 ^ b) xs → i < length xs
    → number_l (2 ^ b) xs / 2 ^ (b * i) % 2 ^ b ≡ get_or xs i d
unfolding field
number_at b [] i d fits below = absurd (omega arith)
number_at b (x ∷ xs) zero d fits below =
    let n = number_l (2 ^ b) xs in
    rw (first_lane b (x + 2 ^ b * n), turned (2 ^ b) x n) (mod-mul-add n (2 ^ b) x fits.0)
number_at b (x ∷ xs) (suc i) d fits below =
    let n = number_l (2 ^ b) xs in
    rw (next_lane b i (x + 2 ^ b * n), turned (2 ^ b) x n, div-mul-add n (2 ^ b) x fits.0)
    (number_at b xs i d fits.1 (omega arith))

-- a lane of the number whose digits are n times x is x
pub repeated_lane : (w n i x : ℕ) → x < 2 ^ w → i < n → field (w * i) w (number_l (2 ^ w) (replicate n x)) ≡ x
unfolding field
repeated_lane w n i x fits inside =
    let of_x = repeated n x in
    number_at w (replicate n x) i 0 (Each1-replicate (λ y. y < 2 ^ w) n x fits) (omega (arith, of_x.long))
    ∙ of_x.are i inside

-- the number of a list of digits is below the power of the base that has one digit more
pub number_below : (b : ℕ) (xs : List ℕ) → Each1 (λ x. x < 2 ^ b) xs → number_l (2 ^ b) xs < 2 ^ (length xs * b)
number_below b [] fits = rw (zero-mul b) (omega arith)
number_below b (x ∷ xs) fits =
    let n = number_l (2 ^ b) xs in
    let q = 2 ^ (length xs * b) in
    let first : x < 2 ^ b = fits.0 in
    let rows : 2 ^ b * (n + 1) ≤ 2 ^ b * q =
    mul-le (2 ^ b) (n + 1) (2 ^ b) q (le_refl (2 ^ b)) (omega (arith, number_below b xs fits.1)) in
    let whole : 2 ^ (suc (length xs) * b) ≡ q * 2 ^ b = rw (suc-mul (length xs) b) (pow-add 2 (length xs * b) b) in
    omega (arith, rows, whole)

-- the number of the digits of v
pub number_of_digits : (b n v : ℕ) → number_l (2 ^ b) (digits_l (2 ^ b) n v) ≡ v % 2 ^ (n * b)
number_of_digits b zero v = rw (zero-mul b) (sym (mod-one v))
number_of_digits b (suc n) v = rw (suc-mul n b, mod-pow-add v (n * b) b, number_of_digits b n (v / 2 ^ b)) (omega arith)

-- a lane of a vector, as it is read from its bytes
pub read_at : (b n v : ℕ) (bytes : List ℕ) (i d : ℕ) → i < n → number_l 256 bytes ≡ v
    → get_or (digits_l (2 ^ b) n (number_l 256 bytes)) i d ≡ v / 2 ^ (b * i) % 2 ^ b
read_at b n v bytes i d below is = rw is (digit_at b n v i d below)

-- lanes, read signed from the bytes of a vector
pub signed_read_at : (w : Width) (n v : ℕ) (bytes : List ℕ) → length (digits_l (2 ^ bits w) n (number_l 256 bytes)) ≡ n
    → number_l 256 bytes ≡ v → (i : ℕ) → i < n
    → get_or (map (signed w) (digits_l (2 ^ bits w) n (number_l 256 bytes))) i (pos 0) ≡ signed w (lane w v i)
signed_read_at w n v bytes long is i inside =
    get_or-map (signed w) (digits_l (2 ^ bits w) n (number_l 256 bytes)) i 0 (pos 0) (omega arith)
    ∙ ap (signed w) (read_at (bits w) n v bytes i 0 inside is)

-- a lane of a vector, as it is written by its bytes
pub written_at : (w : Width) (n : ℕ) (xs : List ℕ) (r i : ℕ) → n * bits w ≡ 128 → length xs ≡ n
    → ((k : ℕ) → get_or xs k 0 < 2 ^ bits w) → i < n
    → r ≡ number_l 256 (digits_l 256 16 (number_l (2 ^ bits w) xs)) → get_or xs i 0 ≡ lane w r i
written_at w n xs r i filled long fits below is =
    let number = number_l (2 ^ bits w) xs in
    let each = Each1-from_get_or (λ x. x < 2 ^ bits w) xs 0 (λ k inside. fits k) in
    let small = rw (long, filled) at (number_below (bits w) xs each) in
    rw (is ∙ number_of_digits 8 16 number ∙ mod-eq_of_lt small) (sym (number_at (bits w) xs i 0 each (rw long below)))

-- a lane of 16 bits of a vector, as it is written by its bytes
pub written_16 : (xs : List ℕ) (i : ℕ) → i < 8 → length xs ≡ 8 → ((k : ℕ) → get_or xs k 0 < 65536)
    → get_or xs i 0 ≡ number_l 256 (digits_l 256 16 (number_l 65536 xs)) / 2 ^ (16 * i) % 65536
written_16 xs i below long fits = written_at w16 8 xs _ i refl long fits below refl

-- a lane of 32 bits, as it is written by its bytes
pub written_32 : (xs : List ℕ) (i : ℕ) → i < 4 → length xs ≡ 4 → ((k : ℕ) → get_or xs k 0 < 2 ^ 32)
    → get_or xs i 0 ≡ number_l 256 (digits_l 256 16 (number_l (2 ^ 32) xs)) / 2 ^ (32 * i) % 2 ^ 32
written_32 xs i below long fits = written_at w32 4 xs _ i refl long fits below refl

-- a lane of 64 bits, as it is written by its bytes
pub written_64 : (xs : List ℕ) (i : ℕ) → i < 2 → length xs ≡ 2 → ((k : ℕ) → get_or xs k 0 < 2 ^ 64)
    → get_or xs i 0 ≡ number_l 256 (digits_l 256 16 (number_l (2 ^ 64) xs)) / 2 ^ (64 * i) % 2 ^ 64
written_64 xs i below long fits = written_at w64 2 xs _ i refl long fits below refl

-- for lanes of each width that are written by their bytes
pub ruleset written = (written_16, written_32, written_64)
