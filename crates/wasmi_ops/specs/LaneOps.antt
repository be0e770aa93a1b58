-- The vector instructions on one lane and what each gives, loads and stores too; a row for each of their kinds, which
-- are without the lane's index.
use Rattle.std.specs.Prelude.{ℕ, nat_lt, if◌then◌else◌, List, Option, Some, None, codes, Result}
use Rattle.wasmi_types.specs.Numbers.{w8, w16, w32, w64, le_bytes}
use Rattle.std.specs.Int.{cast_unsigned}
use Rattle.wasmi_raw.specs.declared.raw.RawVal.{RawVal}
use Rattle.wasmi_raw.specs.RawVal.{raw_of, signed_in}
use Rattle.wasmi_ops.specs.declared.{vector.ExtractOp.ExtractOp, vector.ReplaceOp.ReplaceOp, vector.LoadLaneOp.LoadLaneOp, vector.StoreLaneOp.StoreLaneOp, vector.ExtractKind.ExtractKind, vector.ReplaceKind.ReplaceKind, vector.LoadLaneKind.LoadLaneKind, vector.StoreLaneKind.StoreLaneKind}
use Rattle.wasmi_lanewise.specs.VectorTable as vector
use Rattle.wasmi_ops.specs.declared.vector.ExtractOp.TheVariants as extract
use Rattle.wasmi_ops.specs.declared.vector.ReplaceOp.TheVariants as replace
use Rattle.wasmi_ops.specs.declared.vector.LoadLaneOp.TheVariants as load_lane
use Rattle.wasmi_ops.specs.declared.vector.StoreLaneOp.TheVariants as store_lane
use Rattle.wasmi_ops.specs.declared.vector.ExtractKind.TheVariants as extract_kind
use Rattle.wasmi_ops.specs.declared.vector.ReplaceKind.TheVariants as replace_kind
use Rattle.wasmi_ops.specs.declared.vector.LoadLaneKind.TheVariants as load_lane_kind
use Rattle.wasmi_ops.specs.declared.vector.StoreLaneKind.TheVariants as store_lane_kind
use Rattle.wasmi_types.specs.declared.trap.TrapCode.{TrapCode}
use Rattle.wasmi_access.specs.LoadStore.{loaded}
use Rattle.wasmi_lanes.specs.Vector.{lane, with_lane}

-- the lane that an instruction takes from a vector, as a raw value
abbrev pub extracted_raw : ExtractOp → ℕ → RawVal
extracted_raw (extract.I8x16ExtractLaneS index) a = raw_of (cast_unsigned w32 (vector.extract_lane_s w8 a index))
extracted_raw (extract.I8x16ExtractLaneU index) a = raw_of (vector.extract_lane_u w8 a index)
extracted_raw (extract.I16x8ExtractLaneS index) a = raw_of (cast_unsigned w32 (vector.extract_lane_s w16 a index))
extracted_raw (extract.I16x8ExtractLaneU index) a = raw_of (vector.extract_lane_u w16 a index)
extracted_raw (extract.I32x4ExtractLane index) a = raw_of (cast_unsigned w32 (vector.extract_lane_s w32 a index))
extracted_raw (extract.I64x2ExtractLane index) a = raw_of (cast_unsigned w64 (vector.extract_lane_s w64 a index))

-- the vector with an item of a raw value in a lane
abbrev pub replaced_vector : ReplaceOp → ℕ → RawVal → ℕ
replaced_vector (replace.I8x16ReplaceLane index) a raw = vector.replace_lane w8 a index (signed_in w8 raw)
replaced_vector (replace.I16x8ReplaceLane index) a raw = vector.replace_lane w16 a index (signed_in w16 raw)
replaced_vector (replace.I32x4ReplaceLane index) a raw = vector.replace_lane w32 a index (signed_in w32 raw)
replaced_vector (replace.I64x2ReplaceLane index) a raw = vector.replace_lane w64 a index (signed_in w64 raw)

-- the vector with a lane that is loaded from an address, or the trap
abbrev pub loaded_lane : LoadLaneOp → ℕ → List ℕ → ℕ → Result ℕ TrapCode
loaded_lane (load_lane.V128Load8Lane index) vector bytes a = loaded 1 (with_lane w8 vector index) bytes a
loaded_lane (load_lane.V128Load16Lane index) vector bytes a = loaded 2 (with_lane w16 vector index) bytes a
loaded_lane (load_lane.V128Load32Lane index) vector bytes a = loaded 4 (with_lane w32 vector index) bytes a
loaded_lane (load_lane.V128Load64Lane index) vector bytes a = loaded 8 (with_lane w64 vector index) bytes a

-- the bytes that a store of a lane writes
abbrev pub stored_lane : StoreLaneOp → ℕ → List ℕ
stored_lane (store_lane.V128Store8Lane index) vector = le_bytes 1 (lane w8 vector index)
stored_lane (store_lane.V128Store16Lane index) vector = le_bytes 2 (lane w16 vector index)
stored_lane (store_lane.V128Store32Lane index) vector = le_bytes 4 (lane w32 vector index)
stored_lane (store_lane.V128Store64Lane index) vector = le_bytes 8 (lane w64 vector index)

-- the instruction on the lane of an index, where there are so many lanes
abbrev pub on_lane : {Op : Type 0} → ℕ → (ℕ → Op) → ℕ → Option Op
on_lane count op lane = if nat_lt lane count then Some (op lane) else None

-- the row of an extraction of a lane: its name, and the instruction on the lane of an index
abbrev pub extract_row : ExtractKind → List ℕ × (ℕ → Option ExtractOp)
extract_row extract_kind.I8x16ExtractLaneS = (codes "i8x16_extract_lane_s", on_lane 16 extract.I8x16ExtractLaneS)
extract_row extract_kind.I8x16ExtractLaneU = (codes "i8x16_extract_lane_u", on_lane 16 extract.I8x16ExtractLaneU)
extract_row extract_kind.I16x8ExtractLaneS = (codes "i16x8_extract_lane_s", on_lane 8 extract.I16x8ExtractLaneS)
extract_row extract_kind.I16x8ExtractLaneU = (codes "i16x8_extract_lane_u", on_lane 8 extract.I16x8ExtractLaneU)
extract_row extract_kind.I32x4ExtractLane = (codes "i32x4_extract_lane", on_lane 4 extract.I32x4ExtractLane)
extract_row extract_kind.I64x2ExtractLane = (codes "i64x2_extract_lane", on_lane 2 extract.I64x2ExtractLane)

-- the row of a replacement of a lane: its name, and the instruction on the lane of an index
abbrev pub replace_row : ReplaceKind → List ℕ × (ℕ → Option ReplaceOp)
replace_row replace_kind.I8x16ReplaceLane = (codes "i8x16_replace_lane", on_lane 16 replace.I8x16ReplaceLane)
replace_row replace_kind.I16x8ReplaceLane = (codes "i16x8_replace_lane", on_lane 8 replace.I16x8ReplaceLane)
replace_row replace_kind.I32x4ReplaceLane = (codes "i32x4_replace_lane", on_lane 4 replace.I32x4ReplaceLane)
replace_row replace_kind.I64x2ReplaceLane = (codes "i64x2_replace_lane", on_lane 2 replace.I64x2ReplaceLane)

-- the row of a load of a lane: its name, and the instruction on the lane of an index
abbrev pub load_lane_row : LoadLaneKind → List ℕ × (ℕ → Option LoadLaneOp)
load_lane_row load_lane_kind.V128Load8Lane = (codes "v128_load8_lane", on_lane 16 load_lane.V128Load8Lane)
load_lane_row load_lane_kind.V128Load16Lane = (codes "v128_load16_lane", on_lane 8 load_lane.V128Load16Lane)
load_lane_row load_lane_kind.V128Load32Lane = (codes "v128_load32_lane", on_lane 4 load_lane.V128Load32Lane)
load_lane_row load_lane_kind.V128Load64Lane = (codes "v128_load64_lane", on_lane 2 load_lane.V128Load64Lane)

-- the row of a store of a lane: its name, and the instruction on the lane of an index
abbrev pub store_lane_row : StoreLaneKind → List ℕ × (ℕ → Option StoreLaneOp)
store_lane_row store_lane_kind.V128Store8Lane = (codes "v128_store8_lane", on_lane 16 store_lane.V128Store8Lane)
store_lane_row store_lane_kind.V128Store16Lane = (codes "v128_store16_lane", on_lane 8 store_lane.V128Store16Lane)
store_lane_row store_lane_kind.V128Store32Lane = (codes "v128_store32_lane", on_lane 4 store_lane.V128Store32Lane)
store_lane_row store_lane_kind.V128Store64Lane = (codes "v128_store64_lane", on_lane 2 store_lane.V128Store64Lane)

-- an extraction of the lane of an index
abbrev pub extract_op : ExtractKind → ℕ → Option ExtractOp
extract_op kind = (extract_row kind).1

-- a replacement of the lane of an index
abbrev pub replace_op : ReplaceKind → ℕ → Option ReplaceOp
replace_op kind = (replace_row kind).1

-- a load of the lane of an index
abbrev pub load_lane_op : LoadLaneKind → ℕ → Option LoadLaneOp
load_lane_op kind = (load_lane_row kind).1

-- a store of the lane of an index
abbrev pub store_lane_op : StoreLaneKind → ℕ → Option StoreLaneOp
store_lane_op kind = (store_lane_row kind).1

-- the name of an extraction of a lane
abbrev pub extract_name : ExtractKind → List ℕ
extract_name kind = (extract_row kind).0

-- the name of a replacement of a lane
abbrev pub replace_name : ReplaceKind → List ℕ
replace_name kind = (replace_row kind).0

-- the name of a load of a lane
abbrev pub load_lane_name : LoadLaneKind → List ℕ
load_lane_name kind = (load_lane_row kind).0

-- the name of a store of a lane
abbrev pub store_lane_name : StoreLaneKind → List ℕ
store_lane_name kind = (store_lane_row kind).0
