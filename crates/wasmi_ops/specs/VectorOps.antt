-- The vector instructions but for those on one lane: a row for each, its name and what it gives.
use Rattle.std.specs.Prelude.{ℕ, List, codes, Result}
use Rattle.wasmi_types.specs.Numbers.{w8, w16, w32, w64}
use Rattle.wasmi_ops.specs.declared.{vector.UnaryOp.UnaryOp, vector.BinaryOp.BinaryOp, vector.TernaryOp.TernaryOp, vector.ShiftOp.ShiftOp, vector.TestOp.TestOp, vector.MakeOp.MakeOp, vector.VectorLoadOp.VectorLoadOp}
use Rattle.std.specs.Int.{from_bool}
use Rattle.wasmi_raw.specs.declared.raw.RawVal.{RawVal}
use Rattle.wasmi_raw.specs.RawVal.{raw_of, signed_in, unsigned_in}
use Rattle.wasmi_types.specs.declared.trap.TrapCode.{TrapCode}
use Rattle.wasmi_access.specs.LoadStore.{loaded}
use Rattle.wasmi_lanes.specs.Vector.{splat_of}
use Rattle.wasmi_lanewise.specs.VectorTable as vector
use Rattle.wasmi_simd.specs.WideningTable as widening
use Rattle.wasmi_ops.specs.declared.vector.UnaryOp.TheVariants as unary
use Rattle.wasmi_ops.specs.declared.vector.BinaryOp.TheVariants as binary
use Rattle.wasmi_ops.specs.declared.vector.TernaryOp.TheVariants as ternary
use Rattle.wasmi_ops.specs.declared.vector.ShiftOp.TheVariants as shift
use Rattle.wasmi_ops.specs.declared.vector.TestOp.TheVariants as test
use Rattle.wasmi_ops.specs.declared.vector.MakeOp.TheVariants as make
use Rattle.wasmi_ops.specs.declared.vector.VectorLoadOp.TheVariants as load

-- the row of an instruction of one vector: its name, and what it gives
abbrev pub unary_row : UnaryOp → List ℕ × (ℕ → ℕ)
unary_row unary.V128Not = (codes "v128_not", vector.v128_not)
unary_row unary.I8x16Neg = (codes "i8x16_neg", vector.neg w8)
unary_row unary.I16x8Neg = (codes "i16x8_neg", vector.neg w16)
unary_row unary.I32x4Neg = (codes "i32x4_neg", vector.neg w32)
unary_row unary.I64x2Neg = (codes "i64x2_neg", vector.neg w64)
unary_row unary.I8x16Abs = (codes "i8x16_abs", vector.abs w8)
unary_row unary.I16x8Abs = (codes "i16x8_abs", vector.abs w16)
unary_row unary.I32x4Abs = (codes "i32x4_abs", vector.abs w32)
unary_row unary.I64x2Abs = (codes "i64x2_abs", vector.abs w64)
unary_row unary.I8x16Popcnt = (codes "i8x16_popcnt", vector.popcnt w8)
unary_row unary.I16x8ExtendLowI8x16S = (codes "i16x8_extend_low_i8x16_s", widening.extend_low_s w8 w16)
unary_row unary.I16x8ExtendLowI8x16U = (codes "i16x8_extend_low_i8x16_u", widening.extend_low_u w8 w16)
unary_row unary.I16x8ExtendHighI8x16S = (codes "i16x8_extend_high_i8x16_s", widening.extend_high_s w8 w16)
unary_row unary.I16x8ExtendHighI8x16U = (codes "i16x8_extend_high_i8x16_u", widening.extend_high_u w8 w16)
unary_row unary.I32x4ExtendLowI16x8S = (codes "i32x4_extend_low_i16x8_s", widening.extend_low_s w16 w32)
unary_row unary.I32x4ExtendLowI16x8U = (codes "i32x4_extend_low_i16x8_u", widening.extend_low_u w16 w32)
unary_row unary.I32x4ExtendHighI16x8S = (codes "i32x4_extend_high_i16x8_s", widening.extend_high_s w16 w32)
unary_row unary.I32x4ExtendHighI16x8U = (codes "i32x4_extend_high_i16x8_u", widening.extend_high_u w16 w32)
unary_row unary.I64x2ExtendLowI32x4S = (codes "i64x2_extend_low_i32x4_s", widening.extend_low_s w32 w64)
unary_row unary.I64x2ExtendLowI32x4U = (codes "i64x2_extend_low_i32x4_u", widening.extend_low_u w32 w64)
unary_row unary.I64x2ExtendHighI32x4S = (codes "i64x2_extend_high_i32x4_s", widening.extend_high_s w32 w64)
unary_row unary.I64x2ExtendHighI32x4U = (codes "i64x2_extend_high_i32x4_u", widening.extend_high_u w32 w64)
unary_row unary.I16x8ExtaddPairwiseI8x16S = (codes "i16x8_extadd_pairwise_i8x16_s", widening.extadd_pairwise_s w8 w16)
unary_row unary.I16x8ExtaddPairwiseI8x16U = (codes "i16x8_extadd_pairwise_i8x16_u", widening.extadd_pairwise_u w8 w16)
unary_row unary.I32x4ExtaddPairwiseI16x8S = (codes "i32x4_extadd_pairwise_i16x8_s", widening.extadd_pairwise_s w16 w32)
unary_row unary.I32x4ExtaddPairwiseI16x8U = (codes "i32x4_extadd_pairwise_i16x8_u", widening.extadd_pairwise_u w16 w32)

-- what an instruction of one vector gives
abbrev pub unary_vector : UnaryOp → ℕ → ℕ
unary_vector op = (unary_row op).1

-- the name of an instruction of one vector
abbrev pub unary_name : UnaryOp → List ℕ
unary_name op = (unary_row op).0

-- the row of an instruction of two vectors: its name, and what it gives
abbrev pub binary_row : BinaryOp → List ℕ × (ℕ → ℕ → ℕ)
binary_row binary.I8x16Add = (codes "i8x16_add", vector.add w8)
binary_row binary.I16x8Add = (codes "i16x8_add", vector.add w16)
binary_row binary.I32x4Add = (codes "i32x4_add", vector.add w32)
binary_row binary.I64x2Add = (codes "i64x2_add", vector.add w64)
binary_row binary.I8x16Sub = (codes "i8x16_sub", vector.sub w8)
binary_row binary.I16x8Sub = (codes "i16x8_sub", vector.sub w16)
binary_row binary.I32x4Sub = (codes "i32x4_sub", vector.sub w32)
binary_row binary.I64x2Sub = (codes "i64x2_sub", vector.sub w64)
binary_row binary.I8x16Mul = (codes "i8x16_mul", vector.mul w8)
binary_row binary.I16x8Mul = (codes "i16x8_mul", vector.mul w16)
binary_row binary.I32x4Mul = (codes "i32x4_mul", vector.mul w32)
binary_row binary.I64x2Mul = (codes "i64x2_mul", vector.mul w64)
binary_row binary.I8x16AddSatS = (codes "i8x16_add_sat_s", vector.add_sat_s w8)
binary_row binary.I8x16AddSatU = (codes "i8x16_add_sat_u", vector.add_sat_u w8)
binary_row binary.I16x8AddSatS = (codes "i16x8_add_sat_s", vector.add_sat_s w16)
binary_row binary.I16x8AddSatU = (codes "i16x8_add_sat_u", vector.add_sat_u w16)
binary_row binary.I8x16SubSatS = (codes "i8x16_sub_sat_s", vector.sub_sat_s w8)
binary_row binary.I8x16SubSatU = (codes "i8x16_sub_sat_u", vector.sub_sat_u w8)
binary_row binary.I16x8SubSatS = (codes "i16x8_sub_sat_s", vector.sub_sat_s w16)
binary_row binary.I16x8SubSatU = (codes "i16x8_sub_sat_u", vector.sub_sat_u w16)
binary_row binary.I16x8Q15mulrSatS = (codes "i16x8_q15mulr_sat_s", vector.q15mulr_sat_s)
binary_row binary.I8x16MinS = (codes "i8x16_min_s", vector.min_s w8)
binary_row binary.I8x16MinU = (codes "i8x16_min_u", vector.min_u w8)
binary_row binary.I16x8MinS = (codes "i16x8_min_s", vector.min_s w16)
binary_row binary.I16x8MinU = (codes "i16x8_min_u", vector.min_u w16)
binary_row binary.I32x4MinS = (codes "i32x4_min_s", vector.min_s w32)
binary_row binary.I32x4MinU = (codes "i32x4_min_u", vector.min_u w32)
binary_row binary.I8x16MaxS = (codes "i8x16_max_s", vector.max_s w8)
binary_row binary.I8x16MaxU = (codes "i8x16_max_u", vector.max_u w8)
binary_row binary.I16x8MaxS = (codes "i16x8_max_s", vector.max_s w16)
binary_row binary.I16x8MaxU = (codes "i16x8_max_u", vector.max_u w16)
binary_row binary.I32x4MaxS = (codes "i32x4_max_s", vector.max_s w32)
binary_row binary.I32x4MaxU = (codes "i32x4_max_u", vector.max_u w32)
binary_row binary.I8x16AvgrU = (codes "i8x16_avgr_u", vector.avgr_u w8)
binary_row binary.I16x8AvgrU = (codes "i16x8_avgr_u", vector.avgr_u w16)
binary_row binary.V128And = (codes "v128_and", vector.v128_and)
binary_row binary.V128Or = (codes "v128_or", vector.v128_or)
binary_row binary.V128Xor = (codes "v128_xor", vector.v128_xor)
binary_row binary.V128Andnot = (codes "v128_andnot", vector.v128_andnot)
binary_row binary.I8x16Eq = (codes "i8x16_eq", vector.eq w8)
binary_row binary.I16x8Eq = (codes "i16x8_eq", vector.eq w16)
binary_row binary.I32x4Eq = (codes "i32x4_eq", vector.eq w32)
binary_row binary.I64x2Eq = (codes "i64x2_eq", vector.eq w64)
binary_row binary.I8x16Ne = (codes "i8x16_ne", vector.ne w8)
binary_row binary.I16x8Ne = (codes "i16x8_ne", vector.ne w16)
binary_row binary.I32x4Ne = (codes "i32x4_ne", vector.ne w32)
binary_row binary.I64x2Ne = (codes "i64x2_ne", vector.ne w64)
binary_row binary.I8x16LtS = (codes "i8x16_lt_s", vector.lt_s w8)
binary_row binary.I16x8LtS = (codes "i16x8_lt_s", vector.lt_s w16)
binary_row binary.I32x4LtS = (codes "i32x4_lt_s", vector.lt_s w32)
binary_row binary.I64x2LtS = (codes "i64x2_lt_s", vector.lt_s w64)
binary_row binary.I8x16LtU = (codes "i8x16_lt_u", vector.lt_u w8)
binary_row binary.I16x8LtU = (codes "i16x8_lt_u", vector.lt_u w16)
binary_row binary.I32x4LtU = (codes "i32x4_lt_u", vector.lt_u w32)
binary_row binary.I8x16LeS = (codes "i8x16_le_s", vector.le_s w8)
binary_row binary.I16x8LeS = (codes "i16x8_le_s", vector.le_s w16)
binary_row binary.I32x4LeS = (codes "i32x4_le_s", vector.le_s w32)
binary_row binary.I64x2LeS = (codes "i64x2_le_s", vector.le_s w64)
binary_row binary.I8x16LeU = (codes "i8x16_le_u", vector.le_u w8)
binary_row binary.I16x8LeU = (codes "i16x8_le_u", vector.le_u w16)
binary_row binary.I32x4LeU = (codes "i32x4_le_u", vector.le_u w32)
binary_row binary.I8x16GtS = (codes "i8x16_gt_s", vector.gt_s w8)
binary_row binary.I16x8GtS = (codes "i16x8_gt_s", vector.gt_s w16)
binary_row binary.I32x4GtS = (codes "i32x4_gt_s", vector.gt_s w32)
binary_row binary.I64x2GtS = (codes "i64x2_gt_s", vector.gt_s w64)
binary_row binary.I8x16GtU = (codes "i8x16_gt_u", vector.gt_u w8)
binary_row binary.I16x8GtU = (codes "i16x8_gt_u", vector.gt_u w16)
binary_row binary.I32x4GtU = (codes "i32x4_gt_u", vector.gt_u w32)
binary_row binary.I8x16GeS = (codes "i8x16_ge_s", vector.ge_s w8)
binary_row binary.I16x8GeS = (codes "i16x8_ge_s", vector.ge_s w16)
binary_row binary.I32x4GeS = (codes "i32x4_ge_s", vector.ge_s w32)
binary_row binary.I64x2GeS = (codes "i64x2_ge_s", vector.ge_s w64)
binary_row binary.I8x16GeU = (codes "i8x16_ge_u", vector.ge_u w8)
binary_row binary.I16x8GeU = (codes "i16x8_ge_u", vector.ge_u w16)
binary_row binary.I32x4GeU = (codes "i32x4_ge_u", vector.ge_u w32)
binary_row binary.I8x16Swizzle = (codes "i8x16_swizzle", vector.swizzle)
binary_row binary.I16x8ExtmulLowI8x16S = (codes "i16x8_extmul_low_i8x16_s", widening.extmul_low_s w8 w16)
binary_row binary.I16x8ExtmulLowI8x16U = (codes "i16x8_extmul_low_i8x16_u", widening.extmul_low_u w8 w16)
binary_row binary.I16x8ExtmulHighI8x16S = (codes "i16x8_extmul_high_i8x16_s", widening.extmul_high_s w8 w16)
binary_row binary.I16x8ExtmulHighI8x16U = (codes "i16x8_extmul_high_i8x16_u", widening.extmul_high_u w8 w16)
binary_row binary.I32x4ExtmulLowI16x8S = (codes "i32x4_extmul_low_i16x8_s", widening.extmul_low_s w16 w32)
binary_row binary.I32x4ExtmulLowI16x8U = (codes "i32x4_extmul_low_i16x8_u", widening.extmul_low_u w16 w32)
binary_row binary.I32x4ExtmulHighI16x8S = (codes "i32x4_extmul_high_i16x8_s", widening.extmul_high_s w16 w32)
binary_row binary.I32x4ExtmulHighI16x8U = (codes "i32x4_extmul_high_i16x8_u", widening.extmul_high_u w16 w32)
binary_row binary.I64x2ExtmulLowI32x4S = (codes "i64x2_extmul_low_i32x4_s", widening.extmul_low_s w32 w64)
binary_row binary.I64x2ExtmulLowI32x4U = (codes "i64x2_extmul_low_i32x4_u", widening.extmul_low_u w32 w64)
binary_row binary.I64x2ExtmulHighI32x4S = (codes "i64x2_extmul_high_i32x4_s", widening.extmul_high_s w32 w64)
binary_row binary.I64x2ExtmulHighI32x4U = (codes "i64x2_extmul_high_i32x4_u", widening.extmul_high_u w32 w64)
binary_row binary.I8x16NarrowI16x8S = (codes "i8x16_narrow_i16x8_s", widening.narrow_s w16 w8)
binary_row binary.I8x16NarrowI16x8U = (codes "i8x16_narrow_i16x8_u", widening.narrow_u w16 w8)
binary_row binary.I16x8NarrowI32x4S = (codes "i16x8_narrow_i32x4_s", widening.narrow_s w32 w16)
binary_row binary.I16x8NarrowI32x4U = (codes "i16x8_narrow_i32x4_u", widening.narrow_u w32 w16)
binary_row binary.I32x4DotI16x8S = (codes "i32x4_dot_i16x8_s", widening.dot_s w16 w32)
binary_row binary.I16x8RelaxedDotI8x16I7x16S = (codes "i16x8_relaxed_dot_i8x16_i7x16_s", widening.relaxed_dot_s)
binary_row binary.I8x16RelaxedSwizzle = (codes "i8x16_relaxed_swizzle", widening.relaxed_swizzle)
binary_row binary.I16x8RelaxedQ15mulrS = (codes "i16x8_relaxed_q15mulr_s", widening.relaxed_q15mulr_s)

-- what an instruction of two vectors gives
abbrev pub binary_vector : BinaryOp → ℕ → ℕ → ℕ
binary_vector op = (binary_row op).1

-- the name of an instruction of two vectors
abbrev pub binary_name : BinaryOp → List ℕ
binary_name op = (binary_row op).0

-- the row of an instruction of three vectors: its name, and what it gives
abbrev pub ternary_row : TernaryOp → List ℕ × (ℕ → ℕ → ℕ → ℕ)
ternary_row ternary.V128Bitselect = (codes "v128_bitselect", vector.v128_bitselect)
ternary_row ternary.I8x16RelaxedLaneselect = (codes "i8x16_relaxed_laneselect", widening.relaxed_laneselect)
ternary_row ternary.I16x8RelaxedLaneselect = (codes "i16x8_relaxed_laneselect", widening.relaxed_laneselect)
ternary_row ternary.I32x4RelaxedLaneselect = (codes "i32x4_relaxed_laneselect", widening.relaxed_laneselect)
ternary_row ternary.I64x2RelaxedLaneselect = (codes "i64x2_relaxed_laneselect", widening.relaxed_laneselect)
ternary_row ternary.I32x4RelaxedDotI8x16I7x16AddS =
    (codes "i32x4_relaxed_dot_i8x16_i7x16_add_s", widening.relaxed_dot_add_s)

-- what an instruction of three vectors gives
abbrev pub ternary_vector : TernaryOp → ℕ → ℕ → ℕ → ℕ
ternary_vector op = (ternary_row op).1

-- the name of an instruction of three vectors
abbrev pub ternary_name : TernaryOp → List ℕ
ternary_name op = (ternary_row op).0

-- the row of a shift: its name, and what it gives for a vector and an amount
abbrev pub shift_row : ShiftOp → List ℕ × (ℕ → ℕ → ℕ)
shift_row shift.I8x16Shl = (codes "i8x16_shl", vector.shl w8)
shift_row shift.I8x16ShrS = (codes "i8x16_shr_s", vector.shr_s w8)
shift_row shift.I8x16ShrU = (codes "i8x16_shr_u", vector.shr_u w8)
shift_row shift.I16x8Shl = (codes "i16x8_shl", vector.shl w16)
shift_row shift.I16x8ShrS = (codes "i16x8_shr_s", vector.shr_s w16)
shift_row shift.I16x8ShrU = (codes "i16x8_shr_u", vector.shr_u w16)
shift_row shift.I32x4Shl = (codes "i32x4_shl", vector.shl w32)
shift_row shift.I32x4ShrS = (codes "i32x4_shr_s", vector.shr_s w32)
shift_row shift.I32x4ShrU = (codes "i32x4_shr_u", vector.shr_u w32)
shift_row shift.I64x2Shl = (codes "i64x2_shl", vector.shl w64)
shift_row shift.I64x2ShrS = (codes "i64x2_shr_s", vector.shr_s w64)
shift_row shift.I64x2ShrU = (codes "i64x2_shr_u", vector.shr_u w64)

-- what a shift of a vector by an amount gives
abbrev pub shifted_vector : ShiftOp → ℕ → ℕ → ℕ
shifted_vector op = (shift_row op).1

-- the name of a shift of lanes
abbrev pub shift_name : ShiftOp → List ℕ
shift_name op = (shift_row op).0

-- the row of a test: its name, and the Boolean or the mask that it gives, as a raw value
abbrev pub test_row : TestOp → List ℕ × (ℕ → RawVal)
test_row test.I8x16AllTrue = (codes "i8x16_all_true", λ a. raw_of (from_bool (widening.all_true w8 a)))
test_row test.I16x8AllTrue = (codes "i16x8_all_true", λ a. raw_of (from_bool (widening.all_true w16 a)))
test_row test.I32x4AllTrue = (codes "i32x4_all_true", λ a. raw_of (from_bool (widening.all_true w32 a)))
test_row test.I64x2AllTrue = (codes "i64x2_all_true", λ a. raw_of (from_bool (widening.all_true w64 a)))
test_row test.V128AnyTrue = (codes "v128_any_true", λ a. raw_of (from_bool (widening.any_true a)))
test_row test.I8x16Bitmask = (codes "i8x16_bitmask", λ a. raw_of (widening.bitmask w8 a))
test_row test.I16x8Bitmask = (codes "i16x8_bitmask", λ a. raw_of (widening.bitmask w16 a))
test_row test.I32x4Bitmask = (codes "i32x4_bitmask", λ a. raw_of (widening.bitmask w32 a))
test_row test.I64x2Bitmask = (codes "i64x2_bitmask", λ a. raw_of (widening.bitmask w64 a))

-- the Boolean or the mask that a test of a vector gives, as a raw value
abbrev pub tested_raw : TestOp → ℕ → RawVal
tested_raw op = (test_row op).1

-- the name of a test of a vector, or of its mask
abbrev pub test_name : TestOp → List ℕ
test_name op = (test_row op).0

-- the row of an instruction that makes a vector of an item: its name, and the vector for an item in a raw value
abbrev pub make_row : MakeOp → List ℕ × (RawVal → ℕ)
make_row make.I8x16Splat = (codes "i8x16_splat", λ raw. vector.splat w8 (signed_in w8 raw))
make_row make.I16x8Splat = (codes "i16x8_splat", λ raw. vector.splat w16 (signed_in w16 raw))
make_row make.I32x4Splat = (codes "i32x4_splat", λ raw. vector.splat w32 (signed_in w32 raw))
make_row make.I64x2Splat = (codes "i64x2_splat", λ raw. vector.splat w64 (signed_in w64 raw))
make_row make.V128Widen8x8S = (codes "v128_widen8x8_s", λ raw. widening.widen_s w8 w16 (unsigned_in w64 raw))
make_row make.V128Widen8x8U = (codes "v128_widen8x8_u", λ raw. widening.widen_u w8 w16 (unsigned_in w64 raw))
make_row make.V128Widen16x4S = (codes "v128_widen16x4_s", λ raw. widening.widen_s w16 w32 (unsigned_in w64 raw))
make_row make.V128Widen16x4U = (codes "v128_widen16x4_u", λ raw. widening.widen_u w16 w32 (unsigned_in w64 raw))
make_row make.V128Widen32x2S = (codes "v128_widen32x2_s", λ raw. widening.widen_s w32 w64 (unsigned_in w64 raw))
make_row make.V128Widen32x2U = (codes "v128_widen32x2_u", λ raw. widening.widen_u w32 w64 (unsigned_in w64 raw))
make_row make.V128Low32Zero = (codes "v128_low32_zero", λ raw. widening.low_zero w32 (unsigned_in w32 raw))
make_row make.V128Low64Zero = (codes "v128_low64_zero", λ raw. widening.low_zero w64 (unsigned_in w64 raw))

-- the vector that an instruction makes of an item in a raw value
abbrev pub made_vector : MakeOp → RawVal → ℕ
made_vector op = (make_row op).1

-- the name of what makes a vector of an item
abbrev pub make_name : MakeOp → List ℕ
make_name op = (make_row op).0

-- the row of a load of a vector: its name, and the vector that it gives from an address, or the trap
abbrev pub vector_load_row : VectorLoadOp → List ℕ × (List ℕ → ℕ → Result ℕ TrapCode)
vector_load_row load.V128Load = (codes "v128_load", loaded 16 (λ n. n))
vector_load_row load.V128Load8x8S = (codes "v128_load8x8_s", loaded 8 (widening.widen_s w8 w16))
vector_load_row load.V128Load8x8U = (codes "v128_load8x8_u", loaded 8 (widening.widen_u w8 w16))
vector_load_row load.V128Load16x4S = (codes "v128_load16x4_s", loaded 8 (widening.widen_s w16 w32))
vector_load_row load.V128Load16x4U = (codes "v128_load16x4_u", loaded 8 (widening.widen_u w16 w32))
vector_load_row load.V128Load32x2S = (codes "v128_load32x2_s", loaded 8 (widening.widen_s w32 w64))
vector_load_row load.V128Load32x2U = (codes "v128_load32x2_u", loaded 8 (widening.widen_u w32 w64))
vector_load_row load.V128Load8Splat = (codes "v128_load8_splat", loaded 1 (splat_of w8))
vector_load_row load.V128Load16Splat = (codes "v128_load16_splat", loaded 2 (splat_of w16))
vector_load_row load.V128Load32Splat = (codes "v128_load32_splat", loaded 4 (splat_of w32))
vector_load_row load.V128Load64Splat = (codes "v128_load64_splat", loaded 8 (splat_of w64))
vector_load_row load.V128Load32Zero = (codes "v128_load32_zero", loaded 4 (widening.low_zero w32))
vector_load_row load.V128Load64Zero = (codes "v128_load64_zero", loaded 8 (widening.low_zero w64))

-- the vector that a load from an address gives, or the trap
abbrev pub loaded_vector : VectorLoadOp → List ℕ → ℕ → Result ℕ TrapCode
loaded_vector op = (vector_load_row op).1

-- the name of a load of a vector
abbrev pub vector_load_name : VectorLoadOp → List ℕ
vector_load_name op = (vector_load_row op).0
