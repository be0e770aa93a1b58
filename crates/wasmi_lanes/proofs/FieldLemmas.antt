-- The bits of a word that belong to one lane (`field`), as those of the operands give them, also where nothing is
-- carried or borrowed from below; where lanes of one width begin and end in a word, from its lowest bits on, and words
-- that have the same lanes.
use Rattle.std.proofs.Common.{◌≡◌, ℕ, zero, suc, ◌+◌, ◌-◌, ◌*◌, ◌/◌, ◌%◌, ◌^◌, ◌<◌, ◌≤◌, sym, ap, ◌∙◌, arith, zero-mul, suc-mul, mul-zero, add_comm, le_refl, div-one, mod-lt, bit_and, bit_or, bit_xor, one-add}
use Rattle.wasmi_lanes.proofs.Common.{bit_at, zero-div, zero-mod, add-mod, add-mod_right, add-mul-mod_self_right, mod-add-mod, mod-mod, pow_pos, pow-add, mul-le, shr-shr, and_mask, div-add-mod', div-mul-add, mod-mul-add, and_shr, and_mod, or_shr, or_mod, xor_shr, xor_mod, field_of, shr_below, field, ones_split, shr_mono, mod-mod-pow}

-- a field of w bits is below 2 ^ w
pub field_lt : (k w a : ℕ) → field k w a < 2 ^ w
unfolding field
field_lt k w a = mod-lt (a / 2 ^ k) (pow_pos w)

-- a field of what op gives is what op gives of the operands' fields, where op goes through division and remainders
field_of_both : (op : ℕ → ℕ → ℕ) → ((a b k : ℕ) → op a b / 2 ^ k ≡ op (a / 2 ^ k) (b / 2 ^ k))
    → ((a b w : ℕ) → op a b % 2 ^ w ≡ op (a % 2 ^ w) (b % 2 ^ w)) → (k w a b : ℕ)
    → field k w (op a b) ≡ op (field k w a) (field k w b)
unfolding field
field_of_both op shr low k w a b = rw (shr a b k) (low (a / 2 ^ k) (b / 2 ^ k) w)

-- a field of the bits that a and b share is the bits that their fields share
pub field_and : (k w a b : ℕ) → field k w (bit_and a b) ≡ bit_and (field k w a) (field k w b)
field_and = field_of_both bit_and and_shr and_mod

-- a field of the bits that a or b has is the bits that either's field has
pub field_or : (k w a b : ℕ) → field k w (bit_or a b) ≡ bit_or (field k w a) (field k w b)
field_or = field_of_both bit_or or_shr or_mod

-- a field of the bits in which a and b differ is the bits in which their fields differ
pub field_xor : (k w a b : ℕ) → field k w (bit_xor a b) ≡ bit_xor (field k w a) (field k w b)
field_xor = field_of_both bit_xor xor_shr xor_mod

-- the bits of a sum from k on are the sum of those of a and b, where the bits below k give no carry
shr_add : (k a b : ℕ) → a % 2 ^ k + b % 2 ^ k < 2 ^ k → (a + b) / 2 ^ k ≡ a / 2 ^ k + b / 2 ^ k
shr_add k a b h =
    let parts : a + b ≡ (a / 2 ^ k + b / 2 ^ k) * 2 ^ k + (a % 2 ^ k + b % 2 ^ k) =
    omega (arith, div-add-mod' a (2 ^ k), div-add-mod' b (2 ^ k)) in
    rw parts (div-mul-add (a / 2 ^ k + b / 2 ^ k) (2 ^ k) (a % 2 ^ k + b % 2 ^ k) h)

-- a field of 0 is 0
pub field_of_zero : (k w : ℕ) → field k w 0 ≡ 0
unfolding field
field_of_zero k w = rw (zero-div (2 ^ k)) (zero-mod (2 ^ w))

-- a field of a sum is the sum of the fields, wrapped, where no carry comes from below
pub field_add : (k w a b : ℕ) → a % 2 ^ k + b % 2 ^ k < 2 ^ k → field k w (a + b) ≡ (field k w a + field k w b) % 2 ^ w
unfolding field
field_add k w a b h = rw (shr_add k a b h) (add-mod (a / 2 ^ k) (b / 2 ^ k) (2 ^ w))

-- the bits of a difference from k on, where nothing is borrowed from below, are the difference of those of a and b
shr_sub : (k a b : ℕ) → b ≤ a → b % 2 ^ k ≤ a % 2 ^ k → (a - b) / 2 ^ k + b / 2 ^ k ≡ a / 2 ^ k
shr_sub k a b le low =
    let p : ℕ = 2 ^ k in
    let high : b / p ≤ a / p = shr_mono k le in
    let c : ℕ = a / p - b / p in
    let rows : a / p * p ≡ (c + b / p) * p = ap (λ n. n * p) (omega arith) in
    let parts : a - b ≡ c * p + (a % p - b % p) = omega (arith, div-add-mod' a p, div-add-mod' b p) in
    rw (parts, div-mul-add c p (a % p - b % p) (omega (arith, mod-lt a (pow_pos k)))) (omega (arith, high))

-- for a field of a difference: where c + b is a, c modulo q is the difference of a modulo q and b modulo q, wrapped
wrap_sub : (q a b c : ℕ) → 0 < q → c + b ≡ a → c % q ≡ (a % q + (q - b % q)) % q
wrap_sub q a b c pos e =
    let whole : a + (q - b % q) ≡ c + (b / q + 1) * q = omega (arith, mod-lt b pos, div-add-mod' b q) in
    sym (add-mul-mod_self_right c (b / q + 1) q) ∙ ap (λ n. n % q) (sym whole) ∙ sym (mod-add-mod a q (q - b % q))

-- a field of a difference is the difference of the fields, wrapped, where nothing is borrowed from below
pub field_sub : (k w a b : ℕ) → b ≤ a → b % 2 ^ k ≤ a % 2 ^ k
    → field k w (a - b) ≡ (field k w a + (2 ^ w - field k w b)) % 2 ^ w
unfolding field
field_sub k w a b le low = wrap_sub (2 ^ w) (a / 2 ^ k) (b / 2 ^ k) ((a - b) / 2 ^ k) (pow_pos w) (shr_sub k a b le low)

-- a field is that of the bits below n, where it ends within them
pub field_mod : (k w n a : ℕ) → k + w ≤ n → field k w (a % 2 ^ n) ≡ field k w a
unfolding field
field_mod k w n a within =
    let i : ℕ = n - (k + w) in
    let e : n ≡ (i + w) + k = omega arith in
    ap (λ m. a % 2 ^ m / 2 ^ k % 2 ^ w) e ∙ ap (λ m. m % 2 ^ w) (field_of a (i + w) k) ∙ mod-mod-pow (a / 2 ^ k) i w

-- for a field of a complement: that of j + k bits consists of those of the upper j bits and of the lower k bits
complement : (j k v : ℕ) → v < 2 ^ (j + k)
    → 2 ^ (j + k) - 1 - v ≡ (2 ^ j - 1 - v / 2 ^ k) * 2 ^ k + (2 ^ k - 1 - v % 2 ^ k)
complement j k v fits =
    let rows : (2 ^ j - 1 - v / 2 ^ k + v / 2 ^ k) * 2 ^ k ≡ (2 ^ j - 1) * 2 ^ k =
    ap (λ n. n * 2 ^ k) (omega (arith, shr_below v j k fits)) in
    omega (arith, ones_split j k, rows, div-add-mod' v (2 ^ k), mod-lt v (pow_pos k))

-- for a field of a complement: the upper j bits of the complement of j + k bits are the complement of the upper j bits
complement_shr : (j k v : ℕ) → v < 2 ^ (j + k) → (2 ^ (j + k) - 1 - v) / 2 ^ k ≡ 2 ^ j - 1 - v / 2 ^ k
complement_shr j k v fits = rw (complement j k v fits) (div-mul-add _ (2 ^ k) _ (omega (arith, pow_pos k)))

-- the lower k bits of the complement of j + k bits are the complement of the lower k bits
complement_mod : (j k v : ℕ) → v < 2 ^ (j + k) → (2 ^ (j + k) - 1 - v) % 2 ^ k ≡ 2 ^ k - 1 - v % 2 ^ k
complement_mod j k v fits = rw (complement j k v fits) (mod-mul-add _ (2 ^ k) _ (omega (arith, pow_pos k)))

-- a field of `!v` at n bits is the complement of the field
pub field_not : (k w n v : ℕ) → k + w ≤ n → v < 2 ^ n → field k w (2 ^ n - 1 - v) ≡ 2 ^ w - 1 - field k w v
unfolding field
field_not k w n v within fits =
    let i : ℕ = n - (k + w) in
    let e : n ≡ (i + w) + k = omega arith in
    let fits' = rw e at fits in
    ap (λ m. (2 ^ m - 1 - v) / 2 ^ k % 2 ^ w) e ∙ ap (λ m. m % 2 ^ w) (complement_shr (i + w) k v fits')
    ∙ complement_mod i w (v / 2 ^ k) (shr_below v (i + w) k fits')

-- a field of a difference modulo 2 ^ n, where nothing is borrowed from below
pub field_wrapping_sub : (k w n a b : ℕ) → k + w ≤ n → b < 2 ^ n → b % 2 ^ k ≤ a % 2 ^ k
    → field k w ((a + (2 ^ n - b)) % 2 ^ n) ≡ (field k w a + (2 ^ w - field k w b)) % 2 ^ w
field_wrapping_sub k w n a b within fits low =
    let p : ℕ = 2 ^ n in
    let sum : a + (p - b) ≡ (a + p) - b = omega arith in
    let i : ℕ = n - k in
    let e : n ≡ i + k = omega arith in
    let base : (a + p) % 2 ^ k ≡ a % 2 ^ k = rw (e, pow-add 2 i k) (add-mul-mod_self_right a (2 ^ i) (2 ^ k)) in
    let high : field k w (a + p) ≡ field k w a =
    rw (← field_mod k w n (a + p) within, add-mod_right a p) (field_mod k w n a within) in
    rw (field_mod k w n (a + (p - b)) within, sum, field_sub k w (a + p) b (omega arith) (omega arith), high)

-- ---- lanes of one width, the first at 0

-- a lane ends within the bits of all n lanes
pub lane_ends : (w n i : ℕ) → i < n → w * i + w ≤ n * w
lane_ends w n i inside = omega (arith, mul-le (suc i) w n w (omega arith) (le_refl w))

-- lane 0 of a word is its lowest w bits
pub first_lane : (w v : ℕ) → field (w * 0) w v ≡ v % 2 ^ w
unfolding field
first_lane w v = rw (mul-zero w, div-one v)

-- lane i + 1 of a word is lane i of the word without its lowest w bits
pub next_lane : (w i v : ℕ) → field (w * suc i) w v ≡ field (w * i) w (v / 2 ^ w)
unfolding field
next_lane w i v =
    let next : w * suc i ≡ w + w * i = omega arith in
    rw (next, shr-shr v w (w * i))

-- the highest bit of a field of h + 1 bits from bit k on is bit k + h of the word
pub top_of_lane : (k h v : ℕ) → bit_at (field k (suc h) v) h ≡ bit_at v (k + h)
unfolding field
top_of_lane k h v = rw (← one-add h, field_of (v / 2 ^ k) 1 h, mod-mod (v / 2 ^ k / 2 ^ h) 2, shr-shr v k h)

-- a field of a word that was shifted to the right by s, where only the bits of that field are kept
pub lane_shr : (w s r k v mask : ℕ) → r + s ≡ w → field k w mask ≡ 2 ^ r - 1
    → field k w (bit_and (v / 2 ^ s) mask) ≡ field k w v / 2 ^ s
unfolding field
lane_shr w s r k v mask e is =
    let turned : w ≡ s + r = omega arith in
    rw (field_and k w (v / 2 ^ s) mask, is, and_mask (v / 2 ^ s / 2 ^ k % 2 ^ w) r, turned)
    (rw (mod-mod-pow (v / 2 ^ s / 2 ^ k) s r, add_comm s r, field_of (v / 2 ^ k) r s)
    (rw (shr-shr v s k, shr-shr v k s, add_comm s k)))

-- words that have the same n lanes of one width are the same
pub same_words : (w n a b : ℕ) → a < 2 ^ (n * w) → b < 2 ^ (n * w)
    → ((i : ℕ) → i < n → field (w * i) w a ≡ field (w * i) w b) → a ≡ b
same_words w zero a b fits_a fits_b each =
    let no_a = rw (zero-mul w) at fits_a in
    let no_b = rw (zero-mul w) at fits_b in
    omega arith
same_words w (suc n) a b fits_a fits_b each =
    let low : a % 2 ^ w ≡ b % 2 ^ w = sym (first_lane w a) ∙ each 0 (omega arith) ∙ first_lane w b in
    let high : a / 2 ^ w ≡ b / 2 ^ w =
    same_words w n (a / 2 ^ w) (b / 2 ^ w) (shr_below a (n * w) w (rw (suc-mul n w) at fits_a))
    (shr_below b (n * w) w (rw (suc-mul n w) at fits_b))
    (λ i inside. sym (next_lane w i a) ∙ each (suc i) (omega arith) ∙ next_lane w i b) in
    cc (div-add-mod' a (2 ^ w), div-add-mod' b (2 ^ w))
