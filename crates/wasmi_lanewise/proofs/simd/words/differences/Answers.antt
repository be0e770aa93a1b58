use Rattle.std.proofs.Common.{◌+◌, ◌-◌, ◌%◌, ◌^◌, arith, ⊎_elim}
use Rattle.wasmi_lanewise.proofs.Common.{binary_of_lanes, u64x2_of, InnerLane, inner_lanes, binary_by_words}
use Rattle.wasmi_lanewise.proofs.WordLemmas.{inverted_word_pair}
use Rattle.wasmi_lanewise.proofs.simd.words.differences.Goals as goal

pub returns : goal.returns
unfolding binary_of_lanes
returns g c =
    let law = g.met.T.WordLane.laws in
    binary_by_words g.T.LaneInteger.width (InnerLane c.inner_tops-tops.result) law.whole
    (inner_lanes _ _ law.whole c.inner_tops-tops.ensures) (λ w x y. (x + (2 ^ w - y)) % 2 ^ w)
    (inverted_word_pair (omega arith) c.v128_not.ensures
    (u64x2_of c.words-a_low.ensures.low c.words-a_low.ensures.high))
    (u64x2_of c.words-b_low.ensures.low c.words-b_low.ensures.high)
    c.word_sub.type_inv c.word_sub-2.type_inv
    (λ start width. ⊎_elim (c.word_sub.ensures.lanes start width) (c.word_sub.ensures.last start width))
    (λ start width. ⊎_elim (c.word_sub-2.ensures.lanes start width) (c.word_sub-2.ensures.last start width))
    (omega (arith, c.from_word_pair.ensures, c.v128_not-2.ensures))
