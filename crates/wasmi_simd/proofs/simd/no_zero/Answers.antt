use Rattle.std.proofs.Common.{◌∙◌, ap₂, not, nat_eq, ◌&&◌}
use Rattle.wasmi_lanes.proofs.WordVectorLemmas.{u64x2_of}
use Rattle.wasmi_simd.proofs.ReductionLemmas.{every_lane_of_words}
use Rattle.wasmi_simd.proofs.simd.no_zero.Goals as goal

pub returns : goal.returns
returns g c = ap₂ (λ a b. a && b) c.no_zero_in_word.ensures c.no_zero_in_word-2.ensures
    ∙ every_lane_of_words g.T.LaneInteger.width g.met.T.WordLane.laws.whole c.args.v _ _
    (u64x2_of c.words-low.ensures.low c.words-low.ensures.high) (λ x. not (nat_eq x 0))
