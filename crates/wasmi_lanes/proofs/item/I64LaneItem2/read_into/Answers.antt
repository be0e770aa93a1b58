use Rattle.std.proofs.Common.{refl, w64}
use Rattle.wasmi_lanes.proofs.SimdLaneLemmas.{signed_read_at}
use Rattle.wasmi_lanes.proofs.item.I64LaneItem2.read_into.Goals as goal

pub returns : goal.returns
returns c = signed_read_at w64 2 c.args.vector c.bytes_to_take_out.result refl c.bytes_to_take_out.ensures.number
