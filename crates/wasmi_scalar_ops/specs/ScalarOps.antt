-- The scalar instructions: a row for each, its name and what it gives, as raw values.
use Rattle.std.specs.Prelude.{Bool, ℤ, Result, Ok, ℕ, List, codes, ◌*◌, ◌*ℤ◌}
use Rattle.std.specs.Int.{Width, cast_unsigned, from_bool, w8, w16, w32, w64, int_wrap, w128}
use Rattle.wasmi_types.specs.declared.trap.TrapCode.{TrapCode}
use Rattle.wasmi_raw.specs.declared.raw.RawVal.{RawVal}
use Rattle.wasmi_raw.specs.RawVal.{raw_of, signed_in, unsigned_in, raw_of_vector, vector_in}
use Rattle.wasmi_scalar.specs.Numerics.{iclz, ictz, ipopcnt, ieqz, iadd, isub, imul, idiv_s, idiv_u, irem_s, irem_u, iand, ior, ixor, ishl, ishr_s, ishr_u, irotl, irotr, ieq, ine, ilt_s, ilt_u, igt_s, igt_u, ile_s, ile_u, ige_s, ige_u, add128, sub128}
use Rattle.wasmi_scalar_ops.specs.declared.{scalar.ScalarUnaryOp.ScalarUnaryOp, scalar.ScalarBinaryOp.ScalarBinaryOp}
use Rattle.wasmi_scalar_ops.specs.declared.scalar.ScalarUnaryOp.TheVariants as unary
use Rattle.wasmi_scalar_ops.specs.declared.scalar.ScalarBinaryOp.TheVariants as binary
pub use Rattle.wasmi_ops.specs.LoadStoreOps.{signed_raw, as_raw, RawLoad, sign_extended, zero_extended, unextended, load_row, loaded_raw, load_name, store_row, stored_bytes, store_name}

-- the raw value of a Boolean, 0 or 1
abbrev pub bool_raw : Bool → RawVal
bool_raw flag = raw_of (from_bool flag)

-- the row of an instruction of one raw value: its name, and what it gives
abbrev pub scalar_unary_row : ScalarUnaryOp → List ℕ × (RawVal → RawVal)
scalar_unary_row unary.I32Clz = (codes "i32_clz", λ raw. signed_raw w32 (iclz w32 (signed_in w32 raw)))
scalar_unary_row unary.I32Ctz = (codes "i32_ctz", λ raw. signed_raw w32 (ictz w32 (signed_in w32 raw)))
scalar_unary_row unary.I32Popcnt = (codes "i32_popcnt", λ raw. signed_raw w32 (ipopcnt w32 (signed_in w32 raw)))
scalar_unary_row unary.I32Eqz = (codes "i32_eqz", λ raw. bool_raw (ieqz (signed_in w32 raw)))
scalar_unary_row unary.I64Clz = (codes "i64_clz", λ raw. signed_raw w64 (iclz w64 (signed_in w64 raw)))
scalar_unary_row unary.I64Ctz = (codes "i64_ctz", λ raw. signed_raw w64 (ictz w64 (signed_in w64 raw)))
scalar_unary_row unary.I64Popcnt = (codes "i64_popcnt", λ raw. signed_raw w64 (ipopcnt w64 (signed_in w64 raw)))
scalar_unary_row unary.I64Eqz = (codes "i64_eqz", λ raw. bool_raw (ieqz (signed_in w64 raw)))
scalar_unary_row unary.I32WrapI64 = (codes "i32_wrap_i64", λ raw. signed_raw w32 (int_wrap w32 (signed_in w64 raw)))
scalar_unary_row unary.I64ExtendI32S = (codes "i64_extend_i32_s", λ raw. signed_raw w64 (signed_in w32 raw))
scalar_unary_row unary.I64ExtendI32U = (codes "i64_extend_i32_u", λ raw. raw_of (unsigned_in w32 raw))
scalar_unary_row unary.I32Extend8S = (codes "i32_extend8_s", λ raw. signed_raw w32 (int_wrap w8 (signed_in w32 raw)))
scalar_unary_row unary.I32Extend16S = (codes "i32_extend16_s", λ raw. signed_raw w32 (int_wrap w16 (signed_in w32 raw)))
scalar_unary_row unary.I64Extend8S = (codes "i64_extend8_s", λ raw. signed_raw w64 (int_wrap w8 (signed_in w64 raw)))
scalar_unary_row unary.I64Extend16S = (codes "i64_extend16_s", λ raw. signed_raw w64 (int_wrap w16 (signed_in w64 raw)))
scalar_unary_row unary.I64Extend32S = (codes "i64_extend32_s", λ raw. signed_raw w64 (int_wrap w32 (signed_in w64 raw)))

-- what an instruction of one raw value gives
abbrev pub unary_raw : ScalarUnaryOp → RawVal → RawVal
unary_raw op = (scalar_unary_row op).1

-- the name of a scalar instruction of one operand
abbrev pub scalar_unary_name : ScalarUnaryOp → List ℕ
scalar_unary_name op = (scalar_unary_row op).0

-- what an instruction of two raw values gives, or its trap
abbrev pub RawOperation : Type 0
RawOperation = RawVal → RawVal → Result RawVal TrapCode

-- an operation on two numbers that are read signed in a width
abbrev pub signed_operation : Width → (Width → ℤ → ℤ → ℤ) → RawOperation
signed_operation w operator lhs rhs = Ok (signed_raw w (operator w (signed_in w lhs) (signed_in w rhs)))

-- the operation on two raw values whose numbers are read unsigned
abbrev pub unsigned_operation : Width → (Width → ℕ → ℕ → ℕ) → RawOperation
unsigned_operation w operator lhs rhs = Ok (raw_of (operator w (unsigned_in w lhs) (unsigned_in w rhs)))

-- an operation on two numbers that are read signed in a width, which may trap
abbrev pub signed_partial : Width → (ℤ → ℤ → Result ℤ TrapCode) → RawOperation
signed_partial w operator lhs rhs = as_raw (signed_raw w) (operator (signed_in w lhs) (signed_in w rhs))

-- the operation that may trap, on two raw values whose numbers are read unsigned
abbrev pub unsigned_partial : Width → (ℕ → ℕ → Result ℕ TrapCode) → RawOperation
unsigned_partial w operator lhs rhs = as_raw raw_of (operator (unsigned_in w lhs) (unsigned_in w rhs))

-- a comparison of two numbers that are read signed in a width
abbrev pub signed_comparison : Width → (ℤ → ℤ → Bool) → RawOperation
signed_comparison w relation lhs rhs = Ok (bool_raw (relation (signed_in w lhs) (signed_in w rhs)))

-- the comparison of two raw values whose numbers are read unsigned
abbrev pub unsigned_comparison : Width → (ℕ → ℕ → Bool) → RawOperation
unsigned_comparison w relation lhs rhs = Ok (bool_raw (relation (unsigned_in w lhs) (unsigned_in w rhs)))

-- an operation on two numbers of 128 bits
abbrev pub wide_operation : (ℕ → ℕ → ℕ) → RawOperation
wide_operation operator lhs rhs = Ok (raw_of_vector (operator (vector_in lhs) (vector_in rhs)))

-- the row of an instruction of two raw values: its name, and its operation
abbrev pub scalar_binary_row : ScalarBinaryOp → List ℕ × RawOperation
scalar_binary_row binary.I32Add = (codes "i32_add", signed_operation w32 iadd)
scalar_binary_row binary.I32Sub = (codes "i32_sub", signed_operation w32 isub)
scalar_binary_row binary.I32Mul = (codes "i32_mul", signed_operation w32 imul)
scalar_binary_row binary.I32Bitand = (codes "i32_bitand", signed_operation w32 iand)
scalar_binary_row binary.I32Bitor = (codes "i32_bitor", signed_operation w32 ior)
scalar_binary_row binary.I32Bitxor = (codes "i32_bitxor", signed_operation w32 ixor)
scalar_binary_row binary.I32Shl = (codes "i32_shl", signed_operation w32 ishl)
scalar_binary_row binary.I32ShrS = (codes "i32_shr_s", signed_operation w32 ishr_s)
scalar_binary_row binary.I32ShrU = (codes "i32_shr_u", unsigned_operation w32 ishr_u)
scalar_binary_row binary.I32Rotl = (codes "i32_rotl", signed_operation w32 irotl)
scalar_binary_row binary.I32Rotr = (codes "i32_rotr", signed_operation w32 irotr)
scalar_binary_row binary.I32DivS = (codes "i32_div_s", signed_partial w32 (idiv_s w32))
scalar_binary_row binary.I32DivU = (codes "i32_div_u", unsigned_partial w32 idiv_u)
scalar_binary_row binary.I32RemS = (codes "i32_rem_s", signed_partial w32 irem_s)
scalar_binary_row binary.I32RemU = (codes "i32_rem_u", unsigned_partial w32 irem_u)
scalar_binary_row binary.I32Eq = (codes "i32_eq", signed_comparison w32 ieq)
scalar_binary_row binary.I32Ne = (codes "i32_ne", signed_comparison w32 ine)
scalar_binary_row binary.I32LtS = (codes "i32_lt_s", signed_comparison w32 ilt_s)
scalar_binary_row binary.I32LtU = (codes "i32_lt_u", unsigned_comparison w32 ilt_u)
scalar_binary_row binary.I32LeS = (codes "i32_le_s", signed_comparison w32 ile_s)
scalar_binary_row binary.I32LeU = (codes "i32_le_u", unsigned_comparison w32 ile_u)
scalar_binary_row binary.I32GtS = (codes "i32_gt_s", signed_comparison w32 igt_s)
scalar_binary_row binary.I32GtU = (codes "i32_gt_u", unsigned_comparison w32 igt_u)
scalar_binary_row binary.I32GeS = (codes "i32_ge_s", signed_comparison w32 ige_s)
scalar_binary_row binary.I32GeU = (codes "i32_ge_u", unsigned_comparison w32 ige_u)
scalar_binary_row binary.I64Add = (codes "i64_add", signed_operation w64 iadd)
scalar_binary_row binary.I64Sub = (codes "i64_sub", signed_operation w64 isub)
scalar_binary_row binary.I64Mul = (codes "i64_mul", signed_operation w64 imul)
scalar_binary_row binary.I64Bitand = (codes "i64_bitand", signed_operation w64 iand)
scalar_binary_row binary.I64Bitor = (codes "i64_bitor", signed_operation w64 ior)
scalar_binary_row binary.I64Bitxor = (codes "i64_bitxor", signed_operation w64 ixor)
scalar_binary_row binary.I64Shl = (codes "i64_shl", signed_operation w64 ishl)
scalar_binary_row binary.I64ShrS = (codes "i64_shr_s", signed_operation w64 ishr_s)
scalar_binary_row binary.I64ShrU = (codes "i64_shr_u", unsigned_operation w64 ishr_u)
scalar_binary_row binary.I64Rotl = (codes "i64_rotl", signed_operation w64 irotl)
scalar_binary_row binary.I64Rotr = (codes "i64_rotr", signed_operation w64 irotr)
scalar_binary_row binary.I64DivS = (codes "i64_div_s", signed_partial w64 (idiv_s w64))
scalar_binary_row binary.I64DivU = (codes "i64_div_u", unsigned_partial w64 idiv_u)
scalar_binary_row binary.I64RemS = (codes "i64_rem_s", signed_partial w64 irem_s)
scalar_binary_row binary.I64RemU = (codes "i64_rem_u", unsigned_partial w64 irem_u)
scalar_binary_row binary.I64Eq = (codes "i64_eq", signed_comparison w64 ieq)
scalar_binary_row binary.I64Ne = (codes "i64_ne", signed_comparison w64 ine)
scalar_binary_row binary.I64LtS = (codes "i64_lt_s", signed_comparison w64 ilt_s)
scalar_binary_row binary.I64LtU = (codes "i64_lt_u", unsigned_comparison w64 ilt_u)
scalar_binary_row binary.I64LeS = (codes "i64_le_s", signed_comparison w64 ile_s)
scalar_binary_row binary.I64LeU = (codes "i64_le_u", unsigned_comparison w64 ile_u)
scalar_binary_row binary.I64GtS = (codes "i64_gt_s", signed_comparison w64 igt_s)
scalar_binary_row binary.I64GtU = (codes "i64_gt_u", unsigned_comparison w64 igt_u)
scalar_binary_row binary.I64GeS = (codes "i64_ge_s", signed_comparison w64 ige_s)
scalar_binary_row binary.I64GeU = (codes "i64_ge_u", unsigned_comparison w64 ige_u)
scalar_binary_row binary.I64Add128 = (codes "i64_add128", wide_operation add128)
scalar_binary_row binary.I64Sub128 = (codes "i64_sub128", wide_operation sub128)
scalar_binary_row binary.I64MulWideS =
    (codes "i64_mul_wide_s", λ lhs rhs. Ok (raw_of_vector (cast_unsigned w128 (signed_in w64 lhs *ℤ signed_in w64 rhs))))
scalar_binary_row binary.I64MulWideU =
    (codes "i64_mul_wide_u", λ lhs rhs. Ok (raw_of_vector (unsigned_in w64 lhs * unsigned_in w64 rhs)))

-- the operation of each instruction
abbrev pub binary_raw : ScalarBinaryOp → RawOperation
binary_raw op = (scalar_binary_row op).1

-- the name of a scalar instruction of two operands
abbrev pub scalar_binary_name : ScalarBinaryOp → List ℕ
scalar_binary_name op = (scalar_binary_row op).0
