use Rattle.std.proofs.Common.{◌-◌, ◌^◌, if◌then◌else◌, ltb, ap}
use Rattle.wasmi_lanewise.proofs.Common.{bits, comparison_of_lanes}
use Rattle.wasmi_lanewise.proofs.OrderLemmas.{moved_make_vector, biased_is_less}
use Rattle.wasmi_lanewise.proofs.simd.order.less_s.Goals as goal

pub returns : goal.returns
unfolding comparison_of_lanes
returns g c =
    let w = g.T.LaneInteger.width in
    moved_make_vector w c.args.lhs c.args.rhs c.ones_if_less.ensures.in_range c.lanes_of.ensures.lanes
    c.lanes_of-2.ensures.lanes (c.biased.ensures.lanes, c.biased-2.ensures.lanes)
    (λ _ _ p q. if ltb p q then 2 ^ bits w - 1 else 0) c.ones_if_less.ensures.lanes
    (λ p q fits_p fits_q. ap (λ t. if t then 2 ^ bits w - 1 else 0) (biased_is_less w p q fits_p fits_q))
