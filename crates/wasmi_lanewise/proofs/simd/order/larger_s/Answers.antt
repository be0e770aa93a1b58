use Rattle.std.proofs.Common.{◌∙◌, if◌then◌else◌, ltb}
use Rattle.wasmi_lanes.specs.Vector.{binary_of_lanes}
use Rattle.wasmi_lanewise.proofs.OrderLemmas.{moved_make_vector, signed_chosen_is}
use Rattle.wasmi_lanewise.proofs.simd.order.larger_s.Goals as goal

pub returns : goal.returns
unfolding binary_of_lanes
returns g c = moved_make_vector g.T.LaneInteger.width c.args.lhs c.args.rhs
    c.vector_of.ensures.in_range c.lanes_of-a.ensures.lanes c.lanes_of-b.ensures.lanes
    (c.biased-2.ensures.lanes, c.biased.ensures.lanes) (λ p q p' q'. if ltb q' p' then p else q)
    (λ i inside. c.vector_of.ensures.lanes i inside ∙ c.choose_if_less.ensures.lanes i inside)
    (λ p q fits_p fits_q. signed_chosen_is g.T.LaneInteger.width fits_p fits_q fits_p fits_q)
