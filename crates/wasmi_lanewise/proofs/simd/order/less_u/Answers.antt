use Rattle.std.proofs.Common.{◌-◌, ◌^◌, if◌then◌else◌, ltb, refl}
use Rattle.wasmi_lanewise.proofs.Common.{bits, comparison_of_lanes}
use Rattle.wasmi_lanewise.proofs.OrderLemmas.{rows_make_vector}
use Rattle.wasmi_lanewise.proofs.simd.order.less_u.Goals as goal

pub returns : goal.returns
unfolding comparison_of_lanes
returns g c =
    let w = g.T.LaneInteger.width in
    rows_make_vector w c.args.lhs c.args.rhs c.ones_if_less.ensures.in_range c.lanes_of.ensures.lanes
    c.lanes_of-2.ensures.lanes (λ p q. if ltb p q then 2 ^ bits w - 1 else 0) _ c.ones_if_less.ensures.lanes
    (λ p q _ _. refl)
