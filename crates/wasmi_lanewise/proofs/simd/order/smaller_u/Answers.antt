use Rattle.std.proofs.Common.{◌∙◌, if◌then◌else◌, ltb, min, arith}
use Rattle.wasmi_lanewise.proofs.Common.{binary_of_lanes, leb_tells}
use Rattle.wasmi_lanewise.proofs.OrderLemmas.{rows_make_vector}
use Rattle.wasmi_lanewise.proofs.simd.order.smaller_u.Goals as goal

pub returns : goal.returns
unfolding binary_of_lanes
returns g c = rows_make_vector g.T.LaneInteger.width c.args.lhs c.args.rhs
    c.vector_of.ensures.in_range c.lanes_of-a.ensures.lanes c.lanes_of-b.ensures.lanes
    (λ p q. if ltb q p then q else p) min
    (λ i inside. c.vector_of.ensures.lanes i inside ∙ c.choose_if_less.ensures.lanes i inside)
    (λ p q _ _. grind (arith, leb_tells))
