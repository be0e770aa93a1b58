use Rattle.std.proofs.Common.{◌/◌, ◌%◌, ◌^◌, ◌<◌, ◌∙◌, ap, refl, arith, slice_index_or}
use Rattle.wasmi_lanes.proofs.Common.{BYTES_OF_U32}
use Rattle.wasmi_lanes.proofs.VariableLaneLemmas.{indices_inside, lane_picked}
use Rattle.wasmi_lanes.proofs.simd_lane.U32VariableLane.lane_at.Goals as goal

pub bytes_at-bytes-requires : goal.bytes_at-bytes-requires
bytes_at-bytes-requires c = record {
  inside = λ i. indices_inside (λ m. slice_index_or BYTES_OF_U32 m 0) 4 c.from-2.result i refl
      (omega (arith, c.from-2.ensures, c.from.ensures.0, c.from.ensures.1));
}

pub returns : goal.returns
returns c =
    let below : c.from-2.result < 4 = omega (arith, c.from-2.ensures, c.from.ensures.0, c.from.ensures.1) in
    lane_picked (λ m. slice_index_or BYTES_OF_U32 m 0) 4 4 c.args.vector c.from-2.result _
    c.bytes_at-bytes.ensures.lanes below (omega arith) refl
    ∙ ap (λ place. c.args.vector / 2 ^ place % 2 ^ 32) (omega (arith, c.from-2.ensures, c.from.ensures.0))
