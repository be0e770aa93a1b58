use Rattle.std.proofs.Common.{◌-◌, ◌%◌, ◌^◌, arith, ⊎_elim}
use Rattle.wasmi_lanewise.proofs.Common.{unary_of_lanes, u64x2_of, InnerLane, inner_lanes, binary_by_words}
use Rattle.wasmi_lanewise.proofs.WordLemmas.{negated_lane}
use Rattle.wasmi_lanewise.proofs.simd.words.negations.Goals as goal

pub returns : goal.returns
unfolding unary_of_lanes
returns g c =
    let law = g.met.T.WordLane.laws in
    let tops = c.inner_tops-tops.result in
    let of_v = u64x2_of c.words-low.ensures.low c.words-low.ensures.high in
    binary_by_words _ (InnerLane tops) law.whole (inner_lanes _ _ law.whole c.inner_tops-tops.ensures)
    (λ w x _. (2 ^ w - x) % 2 ^ w) of_v of_v (omega arith) (omega arith)
    (λ start width lane. negated_lane tops start width _ _ c.word_add.type_inv lane
    (⊎_elim (c.word_add.ensures.lanes start width) (c.word_add.ensures.last start width) lane))
    (λ start width lane. negated_lane tops start width _ _ c.word_add-2.type_inv lane
    (⊎_elim (c.word_add-2.ensures.lanes start width) (c.word_add-2.ensures.last start width) lane))
    c.from_word_pair.ensures
