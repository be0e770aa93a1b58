use Rattle.wasmi_lanes.proofs.SimdLaneLemmas.{read_at}
use Rattle.wasmi_lanes.proofs.item.U32LaneItem4.read_into.Goals as goal

pub returns : goal.returns
returns c = λ i below. read_at 32 4 _ c.bytes_to_take_out.result i 0 below c.bytes_to_take_out.ensures.number
