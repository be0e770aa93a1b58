use Rattle.std.proofs.Common.{replicate, ap, refl, ◌∙◌, rules, w64}
use Rattle.wasmi_lanes.proofs.VariableLaneLemmas.{lane_written}
use Rattle.wasmi_lanes.proofs.simd_lane.U64VariableLane.with_lane.Goals as goal

pub returns : goal.returns
returns c = lane_written w64 2 _ _ _ _ refl refl (ap (replicate 2) (c.from-2.ensures ∙ c.from.ensures.0))
    (record { long = search rules; are = c.lanes_of.ensures.lanes }) c.vector_of.ensures.lanes
    c.vector_of.ensures.in_range
