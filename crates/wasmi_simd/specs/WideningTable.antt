-- Vector instructions (core specification, "Numerics") that widen, narrow or test lanes, and relaxed ones, by lanes.
use Rattle.std.specs.Prelude.{ℕ, zero, suc, ◌+◌, ◌-◌, ◌*◌, Bool, true, ◌&&◌, nat_lt, if◌then◌else◌, ◌^◌, not, nat_eq, nat_le, ◌+ℤ◌, ◌*ℤ◌}
use Rattle.wasmi_types.specs.Numbers.{Width, bits, w8, w16, w32, signed, wrap, clamp_signed, clamp_unsigned}
use Rattle.wasmi_lanes.specs.Vector.{lane, lane_count, from_lanes, unsigned, with_lane}
use Rattle.wasmi_lanewise.specs.VectorTable.{add, swizzle, v128_bitselect, q15mulr_sat_s}

-- the wide vector whose lane i is the row of the narrow lane first + i: first is 0 for the lower half, and `lane_count
-- wide` for the upper
unfoldable pub half_unary : {A : Type 0} → (narrow wide : Width) → ℕ → (ℕ → A) → (A → ℕ) → ℕ → ℕ
half_unary narrow wide first read row v = from_lanes wide (λ i. row (read (lane narrow v (first + i))))

-- the wide vector whose lane i is the row of the narrow lanes at first + i of two vectors
unfoldable pub half_binary : {A : Type 0} → (narrow wide : Width) → ℕ → (ℕ → A) → (A → A → ℕ) → ℕ → ℕ → ℕ
half_binary narrow wide first read row a b =
    from_lanes wide (λ i. row (read (lane narrow a (first + i))) (read (lane narrow b (first + i))))

-- the wide vector whose lane i is the row of the narrow lanes 2 * i and 2 * i + 1 of a vector
unfoldable pub pairwise_unary : {A : Type 0} → (narrow wide : Width) → (ℕ → A) → (A → A → ℕ) → ℕ → ℕ
pairwise_unary narrow wide read row v =
    from_lanes wide (λ i. row (read (lane narrow v (2 * i))) (read (lane narrow v (2 * i + 1))))

-- the wide vector whose lane i is the row of the narrow lanes 2 * i and 2 * i + 1 of two vectors
unfoldable pub pairwise_binary : {A : Type 0} → (narrow wide : Width) → (ℕ → A) → (A → A → A → A → ℕ) → ℕ → ℕ → ℕ
pairwise_binary narrow wide read row a b =
    from_lanes wide (λ i. row (read (lane narrow a (2 * i))) (read (lane narrow a (2 * i + 1)))
    (read (lane narrow b (2 * i))) (read (lane narrow b (2 * i + 1))))

-- the narrow vector of the rows of the wide lanes of `low`, and then those of `high`
unfoldable pub from_low_high : {A : Type 0} → (wide narrow : Width) → (ℕ → A) → (A → ℕ) → ℕ → ℕ → ℕ
from_low_high wide narrow read row low high =
    from_lanes narrow
    (λ i. if nat_lt i (lane_count wide) then row (read (lane wide low i)) else row
    (read (lane wide high (i - lane_count wide))))

-- whether the test holds of each number below n
unfoldable pub holds_below : ℕ → (ℕ → Bool) → Bool
holds_below zero test = true
holds_below (suc n) test = holds_below n test && test n

-- the number whose bit i, of the lowest n, is 1 where the test holds of i, and whose others are 0
unfoldable pub first_bits : ℕ → (ℕ → Bool) → ℕ
first_bits zero test = 0
first_bits (suc n) test = (if test 0 then 1 else 0) + 2 * first_bits n (λ i. test (suc i))

-- whether the test holds of every lane
unfoldable pub every_lane : {A : Type 0} → Width → (ℕ → A) → (A → Bool) → ℕ → Bool
every_lane w read test v = holds_below (lane_count w) (λ i. test (read (lane w v i)))

-- the number whose bit i is 1 where the test holds of lane i
unfoldable pub lane_bits : {A : Type 0} → Width → (ℕ → A) → (A → Bool) → ℕ → ℕ
lane_bits w read test v = first_bits (lane_count w) (λ i. test (read (lane w v i)))

-- ---- widening: each takes the narrow width, then the wide one

-- the low lanes read signed, at twice their width
abbrev pub extend_low_s : Width → Width → ℕ → ℕ
extend_low_s narrow wide = half_unary narrow wide 0 (signed narrow) (wrap wide)

-- the low lanes read unsigned, at twice their width
abbrev pub extend_low_u : Width → Width → ℕ → ℕ
extend_low_u narrow wide = half_unary narrow wide 0 unsigned (λ x. x)

-- the high lanes read signed, at twice their width
abbrev pub extend_high_s : Width → Width → ℕ → ℕ
extend_high_s narrow wide = half_unary narrow wide (lane_count wide) (signed narrow) (wrap wide)

-- the high lanes read unsigned, at twice their width
abbrev pub extend_high_u : Width → Width → ℕ → ℕ
extend_high_u narrow wide = half_unary narrow wide (lane_count wide) unsigned (λ x. x)

-- the products of the low lanes read signed, at twice their width
abbrev pub extmul_low_s : Width → Width → ℕ → ℕ → ℕ
extmul_low_s narrow wide = half_binary narrow wide 0 (signed narrow) (λ x y. wrap wide (x *ℤ y))

-- the products of the low lanes read unsigned, at twice their width
abbrev pub extmul_low_u : Width → Width → ℕ → ℕ → ℕ
extmul_low_u narrow wide = half_binary narrow wide 0 unsigned (λ x y. x * y)

-- the products of the high lanes read signed, at twice their width
abbrev pub extmul_high_s : Width → Width → ℕ → ℕ → ℕ
extmul_high_s narrow wide = half_binary narrow wide (lane_count wide) (signed narrow) (λ x y. wrap wide (x *ℤ y))

-- the products of the high lanes read unsigned, at twice their width
abbrev pub extmul_high_u : Width → Width → ℕ → ℕ → ℕ
extmul_high_u narrow wide = half_binary narrow wide (lane_count wide) unsigned (λ x y. x * y)

-- the sums of each two adjacent lanes read signed, at twice their width
abbrev pub extadd_pairwise_s : Width → Width → ℕ → ℕ
extadd_pairwise_s narrow wide = pairwise_unary narrow wide (signed narrow) (λ x y. wrap wide (x +ℤ y))

-- the sums of each two adjacent lanes read unsigned, at twice their width
abbrev pub extadd_pairwise_u : Width → Width → ℕ → ℕ
extadd_pairwise_u narrow wide = pairwise_unary narrow wide unsigned (λ x y. x + y)

-- the sums of the products of each two adjacent lanes of two vectors, read signed, modulo 2 to the wide width
abbrev pub dot_s : Width → Width → ℕ → ℕ → ℕ
dot_s narrow wide = pairwise_binary narrow wide (signed narrow) (λ x x' y y'. wrap wide ((x *ℤ y) +ℤ (x' *ℤ y')))

-- the lanes of a number of 64 bits read signed, at twice their width
abbrev pub widen_s : Width → Width → ℕ → ℕ
widen_s narrow wide number = extend_low_s narrow wide number

-- the lanes of a number of 64 bits read unsigned, at twice their width
abbrev pub widen_u : Width → Width → ℕ → ℕ
widen_u narrow wide number = extend_low_u narrow wide number

-- the vector with the number in lane 0, and 0 in the others
abbrev pub low_zero : Width → ℕ → ℕ
low_zero w number = with_lane w 0 0 number

-- ---- narrowing: each takes the wide width, then the narrow one, and reads signed lanes

-- the lanes of two vectors read signed, clamped to the signed range of half their width
abbrev pub narrow_s : Width → Width → ℕ → ℕ → ℕ
narrow_s wide narrow = from_low_high wide narrow (signed wide) (λ x. wrap narrow (clamp_signed narrow x))

-- the lanes of two vectors read signed, clamped to the unsigned range of half their width
abbrev pub narrow_u : Width → Width → ℕ → ℕ → ℕ
narrow_u wide narrow = from_low_high wide narrow (signed wide) (clamp_unsigned narrow)

-- ---- tests

-- whether no lane is 0
abbrev pub all_true : Width → ℕ → Bool
all_true w = every_lane w unsigned (λ x. not (nat_eq x 0))

-- whether a bit of the vector is set
abbrev pub any_true : ℕ → Bool
any_true v = not (nat_eq v 0)

-- the number whose bit i is the highest bit of lane i
abbrev pub bitmask : Width → ℕ → ℕ
bitmask w = lane_bits w unsigned (λ x. nat_le (2 ^ (bits w - 1)) x)

-- ---- relaxed instructions, each with one of the answers that the standard allows

-- the lanes of the first vector at the indices in the second, 0 for an index above 15
abbrev pub relaxed_swizzle : ℕ → ℕ → ℕ
relaxed_swizzle a s = swizzle a s

-- the bits of the first vector where the mask has ones, those of the second where it has zeros
abbrev pub relaxed_laneselect : ℕ → ℕ → ℕ → ℕ
relaxed_laneselect a b c = v128_bitselect a b c

-- the rounded products of q15 numbers, clamped to the signed range
abbrev pub relaxed_q15mulr_s : ℕ → ℕ → ℕ
relaxed_q15mulr_s a b = q15mulr_sat_s a b

-- the sums of the products of each two adjacent lanes of 8 bits, all read signed, modulo 2 ^ 16
abbrev pub relaxed_dot_s : ℕ → ℕ → ℕ
relaxed_dot_s a b = dot_s w8 w16 a b

-- the sums of each two adjacent lanes of relaxed_dot_s, read signed, and of the lanes of a third vector, modulo 2 ^ 32
abbrev pub relaxed_dot_add_s : ℕ → ℕ → ℕ → ℕ
relaxed_dot_add_s a b c = add w32 (extadd_pairwise_s w16 w32 (relaxed_dot_s a b)) c
