use Rattle.std.proofs.Common.{◌∙◌, arith, nat_lt, ap₂, if◌then◌else◌}
use Rattle.wasmi_lanewise.proofs.OrderLemmas.{lane_of_ones, lane_of_zeros}
use Rattle.wasmi_lanewise.proofs.simd.order.ones_if_less.Goals as goal

pub returns-clause-lanes : goal.returns-clause-lanes
returns-clause-lanes g c = λ i inside.
    let w = g.T.LaneInteger.width in
    c.vector_of.ensures.lanes i inside ∙ c.choose_if_less.ensures.lanes i inside
    ∙ ap₂ (λ p q. if nat_lt (g.T.SimdLane.at c.args.a i) (g.T.SimdLane.at c.args.b i) then p else q)
    (c.lanes_of-ones.ensures.lanes i inside ∙ lane_of_ones w _ i (omega (arith, c.from_word_pair.ensures)) inside)
    (c.lanes_of-zeros.ensures.lanes i inside ∙ lane_of_zeros w _ i (omega (arith, c.from_word_pair-2.ensures)))
