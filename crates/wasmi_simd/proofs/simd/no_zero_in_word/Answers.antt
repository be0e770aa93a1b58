use Rattle.std.proofs.Common.{◌∙◌}
use Rattle.wasmi_simd.proofs.ReductionLemmas.{no_mark_in_word}
use Rattle.wasmi_simd.proofs.simd.no_zero_in_word.Goals as goal

pub returns : goal.returns
returns g c =
    let law = g.met.T.WordLane.laws in
    no_mark_in_word g.T.LaneInteger.width c.args.word _ _ law.whole c.ranges.word.fits c.ONES.type_inv c.TOPS.type_inv
    (c.ONES.ensures ∙ law.lowest) (c.TOPS.ensures ∙ law.highest)
