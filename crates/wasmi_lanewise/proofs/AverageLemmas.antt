-- The averages of lanes, rounded up, by the bits that either lane has and half of those that differ, which never borrow
-- from the lane below.
use Rattle.std.proofs.Common.{◌≡◌, ℕ, zero, suc, ◌+◌, ◌-◌, ◌*◌, ◌/◌, ◌%◌, ◌^◌, ◌<◌, ◌≤◌, inl, inr, sym, ap, ◌∙◌, arith, mod-eq_of_lt, bit_and, bit_or, bit_xor, ◌⊎◌, pow-suc, one-add, add-one}
use Rattle.wasmi_lanewise.proofs.Common.{add-mod_right, and_mod, or_mod, xor_mod, mod-pow-add, field_of, or_lt, and_le_l, field, IsLane, field_lt, field_not, field_or, field_xor, field_sub, lane_shr, w64, lane, bit_at_and, bit_at_not, bit_at, or_add_and, xor_add_and}

-- modulo 2 ^ k, half of z without its bit k - 1 is at most z, so taking it away borrows nothing
pub mean_low : (k z rest : ℕ) → (k ≡ 0) ⊎ (bit_at rest (k - 1) ≡ 0) → bit_and (z / 2) rest % 2 ^ k ≤ z % 2 ^ k
mean_low zero z rest starts = omega arith
mean_low (suc j) z rest (inl e) = absurd (omega arith)
mean_low (suc j) z rest (inr e) =
    let s : ℕ = bit_and (z / 2) rest in
    let back : suc j - 1 ≡ j = omega arith in
    let off = rw back at e in
    let clear : bit_at s j ≡ 0 = omega (arith, bit_at_and (z / 2) rest j) in
    let parts : s % 2 ^ (1 + j) ≡ 0 * 2 ^ j + s % 2 ^ j = mod-pow-add s 1 j ∙ ap (λ b. b * 2 ^ j + s % 2 ^ j) clear in
    let low : s % 2 ^ j ≤ z / 2 % 2 ^ j = rw (and_mod (z / 2) rest j) (and_le_l (z / 2 % 2 ^ j) (rest % 2 ^ j)) in
    let half : z % 2 ^ suc j / 2 ≡ z / 2 % 2 ^ j = ap (λ n. z % 2 ^ n / 2) (sym (add-one j)) ∙ field_of z j 1 in
    omega (arith, ap (λ n. s % 2 ^ n) (one-add j))

-- the bits that a or b has are at least those that differ
pub xor_le_or : (a b : ℕ) → bit_xor a b ≤ bit_or a b
xor_le_or a b = omega (arith, xor_add_and a b, or_add_and a b)

-- a lane of the bits of either, less half of those that differ, is the mean of both lanes, rounded up: nothing is
-- borrowed from the lane below, since the mask, `tops` inverted, lacks the bit right below the lane
pub mean_lane : (tops k w a b : ℕ) → tops < 2 ^ 64 → IsLane tops k w →
    field k w (bit_or a b - bit_and (bit_xor a b / 2) (2 ^ 64 - 1 - tops)) ≡ (field k w a + field k w b + 1) / 2
mean_lane tops k zero a b fits lane = absurd (omega (arith, lane.top, field_lt k 0 tops))
mean_lane tops k (suc h) a b fits lane =
    let w : ℕ = suc h in
    let rest : ℕ = 2 ^ 64 - 1 - tops in
    let back : suc h - 1 ≡ h = omega arith in
    let top : field k w tops ≡ 2 ^ h = lane.top ∙ ap (λ n. 2 ^ n) back in
    let is : field k w rest ≡ 2 ^ h - 1 = field_not k w 64 tops lane.within fits ∙ omega (arith, top, pow-suc 2 h) in
    let starts : (k ≡ 0) ⊎ (bit_at rest (k - 1) ≡ 0) =
    elim lane.starts [
      | inl e ↦ inl e
      | inr e ↦ inr (omega (arith, bit_at_not w64 tops (k - 1) fits (omega (arith, lane.within))))
    ] in
    let s : ℕ = bit_and (bit_xor a b / 2) rest in
    let x : ℕ = field k w a in
    let y : ℕ = field k w b in
    let le : s ≤ bit_or a b = omega (arith, and_le_l (bit_xor a b / 2) rest, xor_le_or a b) in
    let below : bit_xor a b % 2 ^ k ≤ bit_or a b % 2 ^ k =
    omega (arith, xor_mod a b k, or_mod a b k, xor_le_or (a % 2 ^ k) (b % 2 ^ k)) in
    let low : s % 2 ^ k ≤ bit_or a b % 2 ^ k = omega (arith, mean_low k (bit_xor a b) rest starts) in
    let half : field k w s ≡ bit_xor x y / 2 =
    lane_shr w 1 h k (bit_xor a b) rest (add-one h) is ∙ ap (λ n. n / 2) (field_xor k w a b) in
    let fits : bit_or x y < 2 ^ w = or_lt w x y (field_lt k w a) (field_lt k w b) in
    let mean : bit_or x y + (2 ^ w - bit_xor x y / 2) ≡ (x + y + 1) / 2 + 2 ^ w =
    omega (arith, xor_add_and x y, or_add_and x y) in
    rw (field_sub k w (bit_or a b) s le low, field_or k w a b, half, mean, add-mod_right ((x + y + 1) / 2) (2 ^ w))
    (mod-eq_of_lt (omega (arith, field_lt k w a, field_lt k w b)))

pub ruleset averages = (and_le_l, xor_le_or, mean_lane)
