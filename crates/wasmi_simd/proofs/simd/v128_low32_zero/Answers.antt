use Rattle.std.proofs.Common.{arith}
use Rattle.wasmi_lanes.specs.Vector.{first_lanes, with_lane}
use Rattle.wasmi_simd.proofs.simd.v128_low32_zero.Goals as goal

pub returns : goal.returns
unfolding with_lane first_lanes
returns c = omega (arith, c.v128_low64_zero.ensures)
