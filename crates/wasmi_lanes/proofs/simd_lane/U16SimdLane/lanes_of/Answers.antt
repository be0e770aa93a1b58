use Rattle.wasmi_lanes.proofs.SimdLaneLemmas.{read_at}
use Rattle.wasmi_lanes.proofs.simd_lane.U16SimdLane.lanes_of.Goals as goal

pub returns : goal.returns
returns c = record { lanes = λ i inside. read_at 16 8 _ c.bytes_of.result i 0 inside c.bytes_of.ensures.number }
