use Rattle.std.proofs.Common.{arith, int_lt, int_le}
use Rattle.wasmi_types.specs.Numbers.{signed}
use Rattle.wasmi_lanewise.proofs.OrderLemmas.{int_at_most_is_not_less, inverted_comparison}
use Rattle.wasmi_lanewise.proofs.simd.order.at_most_s.Goals as goal

pub returns : goal.returns
returns g c =
    inverted_comparison g.T.LaneInteger.width (signed g.T.LaneInteger.width) int_lt int_le c.args.lhs c.args.rhs int_at_most_is_not_less
    (omega arith) (omega arith) c.less_s.ensures c.v128_not.ensures
