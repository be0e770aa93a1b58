use Rattle.std.proofs.Common.{◌+◌, ◌/◌, ◌∙◌}
use Rattle.wasmi_lanewise.proofs.Common.{IsLane, binary_of_lanes, u64x2_of, equal_lanes, binary_by_words}
use Rattle.wasmi_lanewise.proofs.simd.words.averages.Goals as goal

pub returns : goal.returns
unfolding binary_of_lanes
returns g c =
    let law = g.met.T.WordLane.laws in
    binary_by_words g.T.LaneInteger.width (IsLane c.TOPS-tops.result) law.whole
    (equal_lanes _ _ law.whole (c.TOPS-tops.ensures ∙ law.highest)) (λ w x y. (x + y + 1) / 2)
    (u64x2_of c.words-a_low.ensures.low c.words-a_low.ensures.high)
    (u64x2_of c.words-b_low.ensures.low c.words-b_low.ensures.high)
    c.word_averages.type_inv c.word_averages-2.type_inv c.word_averages.ensures c.word_averages-2.ensures
    c.from_word_pair.ensures
