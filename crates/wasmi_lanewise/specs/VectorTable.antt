-- The lane by lane vector instructions of the WebAssembly core specification (section "Numerics", "Vector Operations"):
-- what each gives, over whole numbers. A vector is a number below 2 ^ 128, w is the width of a lane, and each lane's
-- number is read as it is (`unsigned`) or as a signed number (`signed w`). A lane is computed without bounds, then
-- wrapped or clamped.
use Rattle.std.specs.Prelude.{ℕ, ◌+◌, ◌-◌, ◌*◌, ◌/◌, ◌%◌, ◌^◌, min, max, nat_eq, nat_lt, nat_le, not, ℤ, pos, ◌+ℤ◌, ◌-ℤ◌, ◌*ℤ◌, unsigned_abs, bit_and, bit_or, bit_xor, count_ones, List, slice_index, if◌then◌else◌, int_lt, int_le}
use Rattle.std.specs.Int.{int_min, int_max, int_shr}
use Rattle.wasmi_types.specs.Numbers.{Width, w8, w16, bits, signed, wrap, clamp_signed, clamp_unsigned}
use Rattle.wasmi_lanes.specs.Vector.{lane, unsigned, from_lanes, unary_of_lanes, binary_of_lanes, comparison_of_lanes, splat_of, with_lane}

-- ---- making and taking lanes

-- the number modulo 2 to the width, in all lanes
abbrev pub splat : Width → ℤ → ℕ
splat w x = splat_of w (wrap w x)

-- a lane read signed
abbrev pub extract_lane_s : Width → ℕ → ℕ → ℤ
extract_lane_s w v k = signed w (lane w v k)

-- a lane read unsigned
abbrev pub extract_lane_u : Width → ℕ → ℕ → ℕ
extract_lane_u w v k = lane w v k

-- one lane is the number modulo 2 to the width, and the others stay
abbrev pub replace_lane : Width → ℕ → ℕ → ℤ → ℕ
replace_lane w v k x = with_lane w v k (wrap w x)

-- of the 32 bytes of a and b, those at the indices s
abbrev pub shuffle : ℕ → ℕ → List ℕ → ℕ
shuffle a b s =
    from_lanes w8
    (λ i. if nat_lt (slice_index s i) 16 then lane w8 a (slice_index s i) else lane w8 b (slice_index s i - 16))

-- of the 16 bytes of a, those at the indices that the lanes of s are, and 0 where one is above 15
abbrev pub swizzle : ℕ → ℕ → ℕ
swizzle a s = unary_of_lanes w8 unsigned (λ k. if nat_lt k 16 then lane w8 a k else 0) s

-- ---- binary

-- the sums of the lanes modulo 2 to the width
abbrev pub add : Width → ℕ → ℕ → ℕ
add w = binary_of_lanes w unsigned (λ x y. (x + y) % 2 ^ bits w)

-- the differences of the lanes modulo 2 to the width
abbrev pub sub : Width → ℕ → ℕ → ℕ
sub w = binary_of_lanes w unsigned (λ x y. (x + (2 ^ bits w - y)) % 2 ^ bits w)

-- the products of the lanes modulo 2 to the width
abbrev pub mul : Width → ℕ → ℕ → ℕ
mul w = binary_of_lanes w unsigned (λ x y. (x * y) % 2 ^ bits w)

-- the sums of lanes read signed, clamped to the signed range
abbrev pub add_sat_s : Width → ℕ → ℕ → ℕ
add_sat_s w = binary_of_lanes w (signed w) (λ x y. wrap w (clamp_signed w (x +ℤ y)))

-- the sums of lanes read unsigned, clamped to the unsigned range
abbrev pub add_sat_u : Width → ℕ → ℕ → ℕ
add_sat_u w = binary_of_lanes w unsigned (λ x y. clamp_unsigned w (pos x +ℤ pos y))

-- the differences of lanes read signed, clamped to the signed range
abbrev pub sub_sat_s : Width → ℕ → ℕ → ℕ
sub_sat_s w = binary_of_lanes w (signed w) (λ x y. wrap w (clamp_signed w (x -ℤ y)))

-- the differences of lanes read unsigned, clamped to the unsigned range
abbrev pub sub_sat_u : Width → ℕ → ℕ → ℕ
sub_sat_u w = binary_of_lanes w unsigned (λ x y. clamp_unsigned w (pos x -ℤ pos y))

-- (x * y + 2 ^ 14) / 2 ^ 15, rounded down
abbrev pub q15mulr : ℤ → ℤ → ℤ
q15mulr x y = int_shr ((x *ℤ y) +ℤ pos (2 ^ 14)) 15

-- the rounded products of q15 numbers, clamped to the signed range
abbrev pub q15mulr_sat_s : ℕ → ℕ → ℕ
q15mulr_sat_s = binary_of_lanes w16 (signed w16) (λ x y. wrap w16 (clamp_signed w16 (q15mulr x y)))

-- the smaller of each two lanes read signed
abbrev pub min_s : Width → ℕ → ℕ → ℕ
min_s w = binary_of_lanes w (signed w) (λ x y. wrap w (int_min x y))

-- the smaller of each two lanes read unsigned
abbrev pub min_u : Width → ℕ → ℕ → ℕ
min_u w = binary_of_lanes w unsigned min

-- the greater of each two lanes read signed
abbrev pub max_s : Width → ℕ → ℕ → ℕ
max_s w = binary_of_lanes w (signed w) (λ x y. wrap w (int_max x y))

-- the greater of each two lanes read unsigned
abbrev pub max_u : Width → ℕ → ℕ → ℕ
max_u w = binary_of_lanes w unsigned max

-- (x + y) / 2, halves rounded up
abbrev pub average : ℕ → ℕ → ℕ
average x y = (x + y + 1) / 2

-- the averages of lanes read unsigned, rounded up
abbrev pub avgr_u : Width → ℕ → ℕ → ℕ
avgr_u w = binary_of_lanes w unsigned average

-- ---- bit by bit, on the whole number

-- all bits inverted
abbrev pub v128_not : ℕ → ℕ
v128_not a = 2 ^ 128 - 1 - a

-- the bits that are set in both
abbrev pub v128_and : ℕ → ℕ → ℕ
v128_and a b = bit_and a b

-- the bits that are set in one or both
abbrev pub v128_or : ℕ → ℕ → ℕ
v128_or a b = bit_or a b

-- the bits that are set in exactly one
abbrev pub v128_xor : ℕ → ℕ → ℕ
v128_xor a b = bit_xor a b

-- the bits that are set in the first and not in the second
abbrev pub v128_andnot : ℕ → ℕ → ℕ
v128_andnot a b = bit_and a (v128_not b)

-- the bits of a where c has ones, those of b where it has zeros
abbrev pub v128_bitselect : ℕ → ℕ → ℕ → ℕ
v128_bitselect a b c = bit_or (bit_and a c) (bit_and b (v128_not c))

-- ---- unary

-- the negatives of the lanes modulo 2 to the width
abbrev pub neg : Width → ℕ → ℕ
neg w = unary_of_lanes w unsigned (λ x. (2 ^ bits w - x) % 2 ^ bits w)

-- the absolute values of lanes read signed, modulo 2 to the width
abbrev pub abs : Width → ℕ → ℕ
abs w = unary_of_lanes w (signed w) (λ x. unsigned_abs x % 2 ^ bits w)

-- how many bits of each lane are set
abbrev pub popcnt : Width → ℕ → ℕ
popcnt w = unary_of_lanes w unsigned count_ones

-- ---- shifts, by an amount modulo the width

-- the lanes shifted to the left by the amount modulo the width
abbrev pub shl : Width → ℕ → ℕ → ℕ
shl w v amount = unary_of_lanes w unsigned (λ x. (x * 2 ^ (amount % bits w)) % 2 ^ bits w) v

-- the lanes shifted to the right by the amount modulo the width, with their signs from above
abbrev pub shr_s : Width → ℕ → ℕ → ℕ
shr_s w v amount = unary_of_lanes w (signed w) (λ x. wrap w (int_shr x (amount % bits w))) v

-- the lanes shifted to the right by the amount modulo the width, with zeros from above
abbrev pub shr_u : Width → ℕ → ℕ → ℕ
shr_u w v amount = unary_of_lanes w unsigned (λ x. x / 2 ^ (amount % bits w)) v

-- ---- comparisons: all ones in the lanes where they hold, else all zeros

-- all ones in the lanes that are equal, else all zeros
abbrev pub eq : Width → ℕ → ℕ → ℕ
eq w = comparison_of_lanes w unsigned nat_eq

-- all ones in the lanes that differ, else all zeros
abbrev pub ne : Width → ℕ → ℕ → ℕ
ne w = comparison_of_lanes w unsigned (λ x y. not (nat_eq x y))

-- all ones in the lanes that are less, read signed, else all zeros
abbrev pub lt_s : Width → ℕ → ℕ → ℕ
lt_s w = comparison_of_lanes w (signed w) int_lt

-- all ones in the lanes that are at most the other, read signed, else all zeros
abbrev pub le_s : Width → ℕ → ℕ → ℕ
le_s w = comparison_of_lanes w (signed w) int_le

-- all ones in the lanes that are greater, read signed, else all zeros
abbrev pub gt_s : Width → ℕ → ℕ → ℕ
gt_s w a b = lt_s w b a

-- all ones in the lanes that are at least the other, read signed, else all zeros
abbrev pub ge_s : Width → ℕ → ℕ → ℕ
ge_s w a b = le_s w b a

-- all ones in the lanes that are less, read unsigned, else all zeros
abbrev pub lt_u : Width → ℕ → ℕ → ℕ
lt_u w = comparison_of_lanes w unsigned nat_lt

-- all ones in the lanes that are at most the other, read unsigned, else all zeros
abbrev pub le_u : Width → ℕ → ℕ → ℕ
le_u w = comparison_of_lanes w unsigned nat_le

-- all ones in the lanes that are greater, read unsigned, else all zeros
abbrev pub gt_u : Width → ℕ → ℕ → ℕ
gt_u w a b = lt_u w b a

-- all ones in the lanes that are at least the other, read unsigned, else all zeros
abbrev pub ge_u : Width → ℕ → ℕ → ℕ
ge_u w a b = le_u w b a
