use Rattle.std.proofs.Common.{◌≡◌, arith}
use Rattle.wasmi_lanes.proofs.simd_lane.U64VariableLane.lane_at.Goals as goal

pub returns-then-from-eq0 : goal.returns-then-from-eq0
returns-then-from-eq0 c =
    let at : c.args.at ≡ 0 = omega (arith, c.from.ensures.0, c.if-from-eq0) in
    rw at (omega (arith, c.words-low.ensures.low, c.words-low.ensures.whole))

pub returns-else-from-eq0 : goal.returns-else-from-eq0
returns-else-from-eq0 c =
    let at : c.args.at ≡ 1 = omega (arith, c.from.ensures.0, c.from.ensures.1, c.if-from-eq0) in
    rw at (omega (arith, c.words-low.ensures.high, c.words-low.ensures.whole))
