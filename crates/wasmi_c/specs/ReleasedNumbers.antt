-- The names of the instructions of each shape in the order of their numbers, and each status with its number, as
-- `include/numbers.tsv` has them. `tools/header` writes this file; `numbers_are_released` says that the code agrees.
use Rattle.std.specs.Prelude.{ℕ, List, [], ◌∷◌, codes, map}
use Rattle.wasmi_types.specs.Trap.{code_number}
use Rattle.wasmi_types.specs.declared.trap.TrapCode.TheVariants as trap
use Rattle.wasmi_c.specs.declared.status.TheConstants as status

-- one operand
abbrev pub unary_names : List (List ℕ)
unary_names = map codes (
    "i32_clz" ∷ "i32_ctz" ∷ "i32_popcnt" ∷ "i32_eqz" ∷ "i64_clz" ∷ "i64_ctz" ∷ "i64_popcnt" ∷ "i64_eqz" ∷
    "i32_wrap_i64" ∷ "i64_extend_i32_s" ∷ "i64_extend_i32_u" ∷ "i32_extend8_s" ∷ "i32_extend16_s" ∷ "i64_extend8_s" ∷
    "i64_extend16_s" ∷ "i64_extend32_s" ∷ "i8x16_splat" ∷ "i16x8_splat" ∷ "i32x4_splat" ∷ "i64x2_splat" ∷
    "v128_widen8x8_s" ∷ "v128_widen8x8_u" ∷ "v128_widen16x4_s" ∷ "v128_widen16x4_u" ∷ "v128_widen32x2_s" ∷
    "v128_widen32x2_u" ∷ "v128_low32_zero" ∷ "v128_low64_zero" ∷ "v128_not" ∷ "i8x16_neg" ∷ "i16x8_neg" ∷
    "i32x4_neg" ∷ "i64x2_neg" ∷ "i8x16_abs" ∷ "i16x8_abs" ∷ "i32x4_abs" ∷ "i64x2_abs" ∷ "i8x16_popcnt" ∷
    "i16x8_extend_low_i8x16_s" ∷ "i16x8_extend_low_i8x16_u" ∷ "i16x8_extend_high_i8x16_s" ∷
    "i16x8_extend_high_i8x16_u" ∷ "i32x4_extend_low_i16x8_s" ∷ "i32x4_extend_low_i16x8_u" ∷
    "i32x4_extend_high_i16x8_s" ∷ "i32x4_extend_high_i16x8_u" ∷ "i64x2_extend_low_i32x4_s" ∷
    "i64x2_extend_low_i32x4_u" ∷ "i64x2_extend_high_i32x4_s" ∷ "i64x2_extend_high_i32x4_u" ∷
    "i16x8_extadd_pairwise_i8x16_s" ∷ "i16x8_extadd_pairwise_i8x16_u" ∷ "i32x4_extadd_pairwise_i16x8_s" ∷
    "i32x4_extadd_pairwise_i16x8_u" ∷ "i8x16_all_true" ∷ "i16x8_all_true" ∷ "i32x4_all_true" ∷ "i64x2_all_true" ∷
    "v128_any_true" ∷ "i8x16_bitmask" ∷ "i16x8_bitmask" ∷ "i32x4_bitmask" ∷ "i64x2_bitmask" ∷ [])

-- two operands
abbrev pub binary_names : List (List ℕ)
binary_names = map codes (
    "i32_add" ∷ "i32_sub" ∷ "i32_mul" ∷ "i32_bitand" ∷ "i32_bitor" ∷ "i32_bitxor" ∷ "i32_shl" ∷ "i32_shr_s" ∷
    "i32_shr_u" ∷ "i32_rotl" ∷ "i32_rotr" ∷ "i32_div_s" ∷ "i32_div_u" ∷ "i32_rem_s" ∷ "i32_rem_u" ∷ "i32_eq" ∷
    "i32_ne" ∷ "i32_lt_s" ∷ "i32_lt_u" ∷ "i32_le_s" ∷ "i32_le_u" ∷ "i32_gt_s" ∷ "i32_gt_u" ∷ "i32_ge_s" ∷ "i32_ge_u" ∷
    "i64_add" ∷ "i64_sub" ∷ "i64_mul" ∷ "i64_bitand" ∷ "i64_bitor" ∷ "i64_bitxor" ∷ "i64_shl" ∷ "i64_shr_s" ∷
    "i64_shr_u" ∷ "i64_rotl" ∷ "i64_rotr" ∷ "i64_div_s" ∷ "i64_div_u" ∷ "i64_rem_s" ∷ "i64_rem_u" ∷ "i64_eq" ∷
    "i64_ne" ∷ "i64_lt_s" ∷ "i64_lt_u" ∷ "i64_le_s" ∷ "i64_le_u" ∷ "i64_gt_s" ∷ "i64_gt_u" ∷ "i64_ge_s" ∷ "i64_ge_u" ∷
    "i64_add128" ∷ "i64_sub128" ∷ "i64_mul_wide_s" ∷ "i64_mul_wide_u" ∷ "i8x16_add" ∷ "i16x8_add" ∷ "i32x4_add" ∷
    "i64x2_add" ∷ "i8x16_sub" ∷ "i16x8_sub" ∷ "i32x4_sub" ∷ "i64x2_sub" ∷ "i8x16_mul" ∷ "i16x8_mul" ∷ "i32x4_mul" ∷
    "i64x2_mul" ∷ "i8x16_add_sat_s" ∷ "i8x16_add_sat_u" ∷ "i16x8_add_sat_s" ∷ "i16x8_add_sat_u" ∷ "i8x16_sub_sat_s" ∷
    "i8x16_sub_sat_u" ∷ "i16x8_sub_sat_s" ∷ "i16x8_sub_sat_u" ∷ "i16x8_q15mulr_sat_s" ∷ "i8x16_min_s" ∷
    "i8x16_min_u" ∷ "i16x8_min_s" ∷ "i16x8_min_u" ∷ "i32x4_min_s" ∷ "i32x4_min_u" ∷ "i8x16_max_s" ∷ "i8x16_max_u" ∷
    "i16x8_max_s" ∷ "i16x8_max_u" ∷ "i32x4_max_s" ∷ "i32x4_max_u" ∷ "i8x16_avgr_u" ∷ "i16x8_avgr_u" ∷ "v128_and" ∷
    "v128_or" ∷ "v128_xor" ∷ "v128_andnot" ∷ "i8x16_eq" ∷ "i16x8_eq" ∷ "i32x4_eq" ∷ "i64x2_eq" ∷ "i8x16_ne" ∷
    "i16x8_ne" ∷ "i32x4_ne" ∷ "i64x2_ne" ∷ "i8x16_lt_s" ∷ "i16x8_lt_s" ∷ "i32x4_lt_s" ∷ "i64x2_lt_s" ∷ "i8x16_lt_u" ∷
    "i16x8_lt_u" ∷ "i32x4_lt_u" ∷ "i8x16_le_s" ∷ "i16x8_le_s" ∷ "i32x4_le_s" ∷ "i64x2_le_s" ∷ "i8x16_le_u" ∷
    "i16x8_le_u" ∷ "i32x4_le_u" ∷ "i8x16_gt_s" ∷ "i16x8_gt_s" ∷ "i32x4_gt_s" ∷ "i64x2_gt_s" ∷ "i8x16_gt_u" ∷
    "i16x8_gt_u" ∷ "i32x4_gt_u" ∷ "i8x16_ge_s" ∷ "i16x8_ge_s" ∷ "i32x4_ge_s" ∷ "i64x2_ge_s" ∷ "i8x16_ge_u" ∷
    "i16x8_ge_u" ∷ "i32x4_ge_u" ∷ "i8x16_swizzle" ∷ "i16x8_extmul_low_i8x16_s" ∷ "i16x8_extmul_low_i8x16_u" ∷
    "i16x8_extmul_high_i8x16_s" ∷ "i16x8_extmul_high_i8x16_u" ∷ "i32x4_extmul_low_i16x8_s" ∷
    "i32x4_extmul_low_i16x8_u" ∷ "i32x4_extmul_high_i16x8_s" ∷ "i32x4_extmul_high_i16x8_u" ∷
    "i64x2_extmul_low_i32x4_s" ∷ "i64x2_extmul_low_i32x4_u" ∷ "i64x2_extmul_high_i32x4_s" ∷
    "i64x2_extmul_high_i32x4_u" ∷ "i8x16_narrow_i16x8_s" ∷ "i8x16_narrow_i16x8_u" ∷ "i16x8_narrow_i32x4_s" ∷
    "i16x8_narrow_i32x4_u" ∷ "i32x4_dot_i16x8_s" ∷ "i16x8_relaxed_dot_i8x16_i7x16_s" ∷ "i8x16_relaxed_swizzle" ∷
    "i16x8_relaxed_q15mulr_s" ∷ "i8x16_shl" ∷ "i8x16_shr_s" ∷ "i8x16_shr_u" ∷ "i16x8_shl" ∷ "i16x8_shr_s" ∷
    "i16x8_shr_u" ∷ "i32x4_shl" ∷ "i32x4_shr_s" ∷ "i32x4_shr_u" ∷ "i64x2_shl" ∷ "i64x2_shr_s" ∷ "i64x2_shr_u" ∷ [])

-- three operands
abbrev pub ternary_names : List (List ℕ)
ternary_names = map codes (
    "v128_bitselect" ∷ "i8x16_relaxed_laneselect" ∷ "i16x8_relaxed_laneselect" ∷ "i32x4_relaxed_laneselect" ∷
    "i64x2_relaxed_laneselect" ∷ "i32x4_relaxed_dot_i8x16_i7x16_add_s" ∷ [])

-- a lane taken from a vector
abbrev pub extract_lane_names : List (List ℕ)
extract_lane_names = map codes (
    "i8x16_extract_lane_s" ∷ "i8x16_extract_lane_u" ∷ "i16x8_extract_lane_s" ∷ "i16x8_extract_lane_u" ∷
    "i32x4_extract_lane" ∷ "i64x2_extract_lane" ∷ [])

-- a lane that takes an item
abbrev pub replace_lane_names : List (List ℕ)
replace_lane_names = map codes (
    "i8x16_replace_lane" ∷ "i16x8_replace_lane" ∷ "i32x4_replace_lane" ∷ "i64x2_replace_lane" ∷ [])

-- loads
abbrev pub load_names : List (List ℕ)
load_names = map codes (
    "i32_load8_s" ∷ "i32_load8_u" ∷ "i32_load16_s" ∷ "i32_load16_u" ∷ "i64_load8_s" ∷ "i64_load8_u" ∷ "i64_load16_s" ∷
    "i64_load16_u" ∷ "i64_load32_s" ∷ "i64_load32_u" ∷ "load_u32" ∷ "load_u64" ∷ "v128_load" ∷ "v128_load8x8_s" ∷
    "v128_load8x8_u" ∷ "v128_load16x4_s" ∷ "v128_load16x4_u" ∷ "v128_load32x2_s" ∷ "v128_load32x2_u" ∷
    "v128_load8_splat" ∷ "v128_load16_splat" ∷ "v128_load32_splat" ∷ "v128_load64_splat" ∷ "v128_load32_zero" ∷
    "v128_load64_zero" ∷ [])

-- stores
abbrev pub store_names : List (List ℕ)
store_names = map codes (
    "i32_store8" ∷ "i32_store16" ∷ "i64_store8" ∷ "i64_store16" ∷ "i64_store32" ∷ "store32" ∷ "store64" ∷
    "v128_store" ∷ [])

-- loads of a lane
abbrev pub load_lane_names : List (List ℕ)
load_lane_names = map codes (
    "v128_load8_lane" ∷ "v128_load16_lane" ∷ "v128_load32_lane" ∷ "v128_load64_lane" ∷ [])

-- stores of a lane
abbrev pub store_lane_names : List (List ℕ)
store_lane_names = map codes (
    "v128_store8_lane" ∷ "v128_store16_lane" ∷ "v128_store32_lane" ∷ "v128_store64_lane" ∷ [])

-- every status as the code has it, and its number
abbrev pub statuses : List (ℕ × ℕ)
statuses =
    (status.DONE, 0) ∷ (code_number trap.MemoryOutOfBounds, 2) ∷ (code_number trap.IntegerDivisionByZero, 5) ∷
    (code_number trap.IntegerOverflow, 6) ∷ (status.NO_LANE, 253) ∷ (status.LENGTHS_DIFFER, 254) ∷
    (status.UNKNOWN, 255) ∷ (status.TEXT_TOO_SHORT, 5) ∷ (status.NO_MACHINE, 16) ∷ (status.NO_CALL, 17) ∷
    (status.NO_SUCH, 18) ∷ (status.NO_ROOM, 20) ∷ (status.NO_ELEMENT, 21) ∷ (status.HAS_MACHINE, 22) ∷
    (status.BAD_LINE, 23) ∷ (status.HEADER_LINE, 24) ∷ (status.TEXT_CUT, 25) ∷ (status.NO_ANSWER, 26) ∷
    (status.NO_POOL, 27) ∷ (status.HAS_POOL, 28) ∷ (status.NO_TENANT, 29) ∷ (status.MEMORY_OUT_OF_MEMORY, 32) ∷
    (status.MEMORY_GROWTH, 33) ∷ (status.MEMORY_ACCESS, 34) ∷ (status.MEMORY_DENIED, 37) ∷
    (status.MEMORY_SIZE_OVERFLOW, 38) ∷ (status.MEMORY_OUT_OF_FUEL, 40) ∷ (status.TABLE_OUT_OF_MEMORY, 48) ∷
    (status.TABLE_DENIED, 51) ∷ (status.TABLE_GROWTH, 52) ∷ (status.TABLE_INIT, 53) ∷ (status.TABLE_FILL, 54) ∷
    (status.TABLE_SET, 55) ∷ (status.TABLE_COPY, 56) ∷ (status.TABLE_TYPE, 57) ∷ (status.TABLE_OUT_OF_FUEL, 58) ∷
    (status.METERING_DISABLED, 64) ∷ (status.OUT_OF_FUEL, 65) ∷ (status.GLOBAL_IMMUTABLE, 72) ∷
    (status.GLOBAL_TYPE, 73) ∷ (status.SEGMENT_TOO_MANY_ITEMS, 80) ∷ (status.SEGMENT_OUT_OF_MEMORY, 81) ∷
    (status.MEMORY_REGION_TOO_SHORT, 36) ∷ (status.INVALID_STATE, 96) ∷ (status.ASKS, 97) ∷ (status.OTHER_SIZE, 98) ∷
    (status.NOT_HELD, 99) ∷ []
