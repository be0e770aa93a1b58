use Rattle.wasmi_lanes.proofs.SimdLaneLemmas.{read_at}
use Rattle.wasmi_lanes.proofs.item.U16LaneItem8.read_into.Goals as goal

pub returns : goal.returns
returns c = λ i below. read_at 16 8 _ c.bytes_to_take_out.result i 0 below c.bytes_to_take_out.ensures.number
