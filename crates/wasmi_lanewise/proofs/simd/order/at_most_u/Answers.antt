use Rattle.std.proofs.Common.{ltb, leb, arith}
use Rattle.wasmi_lanes.specs.Vector.{unsigned}
use Rattle.wasmi_lanewise.proofs.OrderLemmas.{at_most_is_not_less, inverted_comparison}
use Rattle.wasmi_lanewise.proofs.simd.order.at_most_u.Goals as goal

pub returns : goal.returns
returns g c = inverted_comparison g.T.LaneInteger.width unsigned ltb leb c.args.lhs c.args.rhs at_most_is_not_less
    (omega arith) (omega arith) c.less_u.ensures c.v128_not.ensures
