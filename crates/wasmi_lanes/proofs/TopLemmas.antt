-- One lane as a number of its own: its highest bit and the rest, sums, differences and inequality by these two; and
-- what leaves room for a carry or a borrow where a lane begins.
use Rattle.std.proofs.Common.{◌≡◌, ℕ, zero, suc, ◌+◌, ◌-◌, ◌*◌, ◌/◌, ◌%◌, ◌^◌, ◌<◌, ◌≤◌, max, ◌⊎◌, refl, sym, ap, ◌∙◌, inl, inr, arith, mod-lt, mod-eq_of_lt, bit_and, bit_or, bit_xor, cond, eqb, pow-suc, one-mul, zero-mul, zero-add, add-zero, pos_of_ne-zero, w64, one-add}
use Rattle.wasmi_lanes.proofs.Common.{mod-one, div-eq_of_lt, div-mul-add, add-mod_right, add-mul-mod_self_right, mod-add-mod, pow_pos, pow-add, mod-pow-add, and_mask, xor_lt, bit_at, eq-eqb, ne_eqb, cases_eq, field, sub-one, xor_block, or_add_and, xor_zero_r, xor_zero_l, or_zero_r, xor_self, xor_assoc, and_pow, bit_at_and, bit_at_or, bit_at_xor, bit_at-lt, bit_at_not}
use Rattle.wasmi_lanes.proofs.FieldLemmas.{field_not}

-- the bits of v below k, whose top is clear
pub clear_top : (v j : ℕ) → bit_at v j ≡ 0 → v % 2 ^ suc j < 2 ^ j
clear_top v j e = rw (← one-add j, mod-pow-add v 1 j, e) (omega (arith, mod-lt v (pow_pos j)))

-- where a lane of tops begins, what is kept beside the tops leaves room for a carry
pub room : (tops k v : ℕ) → tops < 2 ^ 64 → k ≤ 64 → (k ≡ 0) ⊎ (bit_at tops (k - 1) ≡ 1)
    → 2 * (bit_and v (2 ^ 64 - 1 - tops) % 2 ^ k) < 2 ^ k
room tops zero v fits within starts = omega (arith, mod-one (bit_and v (2 ^ 64 - 1 - tops)))
room tops (suc j) v fits within (inl e) = absurd (omega arith)
room tops (suc j) v fits within (inr e) =
    let set : bit_at tops j ≡ 1 = rw (sub-one (suc j)) at e in
    let off : bit_at (2 ^ 64 - 1 - tops) j ≡ 1 - bit_at tops j = bit_at_not w64 tops j fits (omega arith) in
    let clear : bit_at (bit_and v (2 ^ 64 - 1 - tops)) j ≡ 0 = omega (arith, bit_at_and v (2 ^ 64 - 1 - tops) j) in
    omega (arith, clear_top (bit_and v (2 ^ 64 - 1 - tops)) j clear, pow-suc 2 j)

-- where a lane of tops begins, the tops below outweigh what is kept beside the tops
pub filled : (tops k v : ℕ) → (k ≡ 0) ⊎ (bit_at tops (k - 1) ≡ 1) → 2 ^ k ≤ 2 * (bit_or v tops % 2 ^ k) + 1
filled tops zero v starts = omega arith
filled tops (suc j) v (inl e) = absurd (omega arith)
filled tops (suc j) v (inr e) =
    let set : bit_at tops j ≡ 1 = rw (sub-one (suc j)) at e in
    let on : bit_at (bit_or v tops) j ≡ 1 = omega (arith, bit_at_or v tops j, bit_at-lt v j) in
    rw (← one-add j, mod-pow-add (bit_or v tops) 1 j, on) (omega (arith, pow-add 2 1 j))

-- a lane of h + 1 bits: its top bit, and the rest
pub lane_split : (h x : ℕ) → x < 2 ^ suc h → bit_at x h * 2 ^ h + x % 2 ^ h ≡ x
lane_split h x fits = rw (← mod-pow-add x 1 h, one-add h) (mod-eq_of_lt fits)

-- of h + 1 bits, c the top and m the others, to flip the top is to add 2 ^ h modulo 2 ^ (h + 1)
flipped : (h c m : ℕ) → c < 2 → m < 2 ^ h
    → bit_xor (c * 2 ^ h + m) (1 * 2 ^ h + 0) ≡ (c * 2 ^ h + m + 1 * 2 ^ h) % 2 ^ suc h
flipped h zero m bit low =
    let sum : 0 * 2 ^ h + m + 1 * 2 ^ h < 2 ^ suc h = omega (arith, pow-suc 2 h) in
    xor_block h 0 1 m 0 low (pow_pos h) ∙ omega (arith, xor_zero_r m, mod-eq_of_lt sum)
flipped h (suc zero) m bit low =
    let sum : 1 * 2 ^ h + m + 1 * 2 ^ h ≡ m + 2 ^ suc h = omega (arith, pow-suc 2 h) in
    let small : m < 2 ^ suc h = omega (arith, pow-suc 2 h) in
    let whole : (1 * 2 ^ h + m + 1 * 2 ^ h) % 2 ^ suc h ≡ m = rw (sum, add-mod_right) (mod-eq_of_lt small) in
    xor_block h 1 1 m 0 low (pow_pos h) ∙ omega (arith, xor_zero_r m, whole)
flipped h (suc (suc c)) m bit low = absurd (omega arith)

-- to flip the top bit is to add it
pub xor_top : (h z t : ℕ) → z < 2 ^ suc h → t < 2 → bit_xor z (t * 2 ^ h) ≡ (z + t * 2 ^ h) % 2 ^ suc h
xor_top h z zero fits bit = rw (zero-mul (2 ^ h), xor_zero_r z, add-zero z) (sym (mod-eq_of_lt fits))
xor_top h z (suc zero) fits bit = rw (lane_split h z fits, add-zero (1 * 2 ^ h))
    at (flipped h (bit_at z h) (z % 2 ^ h) (bit_at-lt z h) (mod-lt z (pow_pos h)))
xor_top h z (suc (suc t)) fits bit = absurd (omega arith)

-- of the tops that are added, two cancel
turns : (h z n : ℕ) → (z + n % 2 * 2 ^ h) % 2 ^ suc h ≡ (z + n * 2 ^ h) % 2 ^ suc h
turns h z n =
    let all : n * 2 ^ h ≡ (n / 2 * 2 + n % 2) * 2 ^ h = ap (λ m. m * 2 ^ h) (omega arith) in
    let sum : z + n * 2 ^ h ≡ (z + n % 2 * 2 ^ h) + n / 2 * 2 ^ suc h = rw (pow-suc 2 h) (omega (arith, all)) in
    rw sum (sym (add-mul-mod_self_right (z + n % 2 * 2 ^ h) (n / 2) (2 ^ suc h)))

-- a sum of n tops is flipped onto z
pub xor_tops : (h z n : ℕ) → z < 2 ^ suc h → bit_xor z (n % 2 * 2 ^ h) ≡ (z + n * 2 ^ h) % 2 ^ suc h
xor_tops h z n fits = xor_top h z (n % 2) fits (omega arith) ∙ turns h z n

-- the bit h in which x and y differ, in its place, is the sum of their bits h modulo 2
and_top_xor : (h x y : ℕ) → bit_and (bit_xor x y) (2 ^ h) ≡ (bit_at x h + bit_at y h) % 2 * 2 ^ h
and_top_xor h x y = and_pow (bit_xor x y) h ∙ ap (λ b. b * 2 ^ h) (bit_at_xor x y h)

-- the sum of the bits below the tops, its top flipped where the tops differ, is the sum of two lanes, wrapped
pub lane_add : (h x y : ℕ) → x < 2 ^ suc h → y < 2 ^ suc h →
    bit_xor ((bit_and x (2 ^ h - 1) + bit_and y (2 ^ h - 1)) % 2 ^ suc h) (bit_and (bit_xor x y) (2 ^ h))
    ≡ (x + y) % 2 ^ suc h
lane_add h x y fx fy =
    let small : x % 2 ^ h + y % 2 ^ h < 2 ^ suc h =
    omega (arith, pow-suc 2 h, mod-lt x (pow_pos h), mod-lt y (pow_pos h)) in
    let sum : x % 2 ^ h + y % 2 ^ h + (bit_at x h + bit_at y h) * 2 ^ h ≡ x + y =
    omega (arith, lane_split h x fx, lane_split h y fy) in
    rw (and_mask x h, and_mask y h, mod-eq_of_lt small, and_top_xor h x y)
    (rw sum at (xor_tops h (x % 2 ^ h + y % 2 ^ h) (bit_at x h + bit_at y h) small))

-- x with its top set is its bits below the top and 2 ^ h
or_top : (h x : ℕ) → x < 2 ^ suc h → bit_or x (2 ^ h) ≡ x % 2 ^ h + 2 ^ h
or_top h x fits = omega (arith, or_add_and x (2 ^ h), and_pow x h, lane_split h x fits)

-- the top of the complement of h + 1 bits is the complement of their top
pub not_top : (h y : ℕ) → y < 2 ^ suc h → bit_at (2 ^ suc h - 1 - y) h ≡ 1 - bit_at y h
unfolding field
not_top h y fits = field_not h 1 (suc h) y (omega arith) fits

-- x with its top set less the bits of y below the top, top flipped where the tops are equal, is x - y, wrapped
pub lane_sub : (h x y : ℕ) → x < 2 ^ suc h → y < 2 ^ suc h →
    bit_xor ((bit_or x (2 ^ h) + (2 ^ suc h - bit_and y (2 ^ h - 1))) % 2 ^ suc h)
    (bit_and (bit_xor x (2 ^ suc h - 1 - y)) (2 ^ h)) ≡ (x + (2 ^ suc h - y)) % 2 ^ suc h
lane_sub h x y fx fy =
    let m : ℕ = 2 ^ suc h in
    let z : ℕ = bit_or x (2 ^ h) + (m - bit_and y (2 ^ h - 1)) in
    let n : ℕ = bit_at x h + bit_at (m - 1 - y) h in
    let tops : (n + bit_at y h) * 2 ^ h ≡ (bit_at x h + 1) * 2 ^ h =
    ap (λ k. k * 2 ^ h) (omega (arith, not_top h y fy, bit_at-lt y h)) in
    let sum : z + n * 2 ^ h ≡ x + (m - y) + m = omega (
      arith,
      pow-suc 2 h,
      or_top h x fx,
      and_mask y h,
      lane_split h x fx,
      lane_split h y fy,
      mod-lt y (pow_pos h),
    ) in
    rw (and_top_xor h x (m - 1 - y), xor_tops h (z % m) n (mod-lt z (pow_pos (suc h))), mod-add-mod z m (n * 2 ^ h), sum)
    (add-mod_right (x + (m - y)) m)

-- numbers with no different bit are one
same_from_xor : (x y : ℕ) → bit_xor x y ≡ 0 → x ≡ y
same_from_xor x y e = cc (xor_zero_r x, xor_self y, xor_assoc x y y, xor_zero_l y)

-- a number of h + 1 bits that is at least 2 ^ h has its top
top_of : (h s : ℕ) → s < 2 ^ suc h → 2 ^ h ≤ s → bit_at s h ≡ 1
top_of h s fits le =
    let parts : s ≡ 1 * 2 ^ h + (s - 2 ^ h) = omega arith in
    rw (parts, div-mul-add 1 (2 ^ h) (s - 2 ^ h) (omega (arith, pow-suc 2 h)))

-- where z of h + 1 bits isn't 0, z or the sum s of its bits below the top and 2 ^ h - 1 has the top
some_top : (h z s b : ℕ) → z < 2 ^ suc h → 0 < z → s ≡ z % 2 ^ h + (2 ^ h - 1) → s < 2 ^ suc h → bit_at z h ≡ b
    → max (bit_at s h) b ≡ 1
some_top h z s zero fits pos e small at =
    let whole = rw at at (lane_split h z fits) in
    omega (arith, top_of h s small (omega (arith, pow_pos h)))
some_top h z s (suc zero) fits pos e small at = omega (arith, bit_at-lt s h)
some_top h z s (suc (suc b)) fits pos e small at = absurd (omega (arith, bit_at-lt z h))

-- the top of a lane that isn't 0 is set, in the lane or in that sum
lane_some : (h z : ℕ) → z < 2 ^ suc h → 0 < z →
    bit_and (bit_or ((bit_and z (2 ^ h - 1) + (2 ^ h - 1)) % 2 ^ suc h) z) (2 ^ h) ≡ 2 ^ h
lane_some h z fits pos =
    let s : ℕ = z % 2 ^ h + (2 ^ h - 1) in
    let small : s < 2 ^ suc h = omega (arith, pow-suc 2 h, mod-lt z (pow_pos h)) in
    rw (and_mask z h, mod-eq_of_lt small, and_pow (bit_or s z) h, bit_at_or s z h)
    (rw (some_top h z s (bit_at z h) fits pos refl small refl) (one-mul (2 ^ h)))

-- the top of a lane that is 0 is not set in that sum
lane_none : (h : ℕ) → bit_and (bit_or ((bit_and 0 (2 ^ h - 1) + (2 ^ h - 1)) % 2 ^ suc h) 0) (2 ^ h) ≡ 0
lane_none h =
    let small : 2 ^ h - 1 < 2 ^ suc h = omega (arith, pow-suc 2 h, pow_pos h) in
    let gone : (2 ^ h - 1) / 2 ^ h ≡ 0 = div-eq_of_lt (omega (arith, pow_pos h)) in
    rw (zero-add (2 ^ h - 1), mod-eq_of_lt small, or_zero_r (2 ^ h - 1), and_pow (2 ^ h - 1) h, gone) (zero-mul (2 ^ h))

-- the top of a lane where x and y differ
pub lane_differ : (h x y : ℕ) → x < 2 ^ suc h → y < 2 ^ suc h →
    bit_and (bit_or ((bit_and (bit_xor x y) (2 ^ h - 1) + (2 ^ h - 1)) % 2 ^ suc h) (bit_xor x y)) (2 ^ h)
    ≡ cond (eqb x y) 0 (2 ^ h)
lane_differ h x y fx fy = elim (cases_eq x y) [
  | inl e ↦ rw (eq-eqb x y e, e, xor_self y) (lane_none h)
  | inr ne ↦ rw (ne_eqb x y ne)
      (lane_some h (bit_xor x y) (xor_lt (suc h) x y fx fy) (pos_of_ne-zero (λ e. ne (same_from_xor x y e))))
]
