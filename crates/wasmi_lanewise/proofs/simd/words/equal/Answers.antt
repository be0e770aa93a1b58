use Rattle.std.proofs.Common.{◌-◌, ◌^◌, ◌∙◌, nat_eq, if◌then◌else◌}
use Rattle.wasmi_lanewise.proofs.Common.{bits, comparison_of_lanes, u64x2_of, words_make_binary, equal_lanes}
use Rattle.wasmi_lanewise.proofs.MarkLemmas.{marks_are, marked_filled, are_equal, equal_marked}
use Rattle.wasmi_lanewise.proofs.simd.words.equal.Goals as goal

pub filled-requires : goal.filled-requires
filled-requires g c =
    let law = g.met.T.WordLane.laws in
    let lanes = equal_lanes _ _ law.whole (c.TOPS-tops.ensures ∙ law.highest) in
    record {
      low = marks_are (equal_marked _ _ _ _ _ lanes c.word_differ.ensures.lanes);
      high = marks_are (equal_marked _ _ _ _ _ lanes c.word_differ-2.ensures.lanes);
    }

pub returns : goal.returns
unfolding comparison_of_lanes
returns g c =
    let law = g.met.T.WordLane.laws in
    let lanes = equal_lanes _ _ law.whole (c.TOPS-tops.ensures ∙ law.highest) in
    let f = c.filled.ensures.words in
    words_make_binary _ law.whole (λ x y. if nat_eq x y then 2 ^ bits g.T.LaneInteger.width - 1 else 0)
    _ _ _ (u64x2_of c.words-a_low.ensures.low c.words-a_low.ensures.high)
    (u64x2_of c.words-b_low.ensures.low c.words-b_low.ensures.high)
    (record { low_fits = f.3; high_fits = f.4; is = f.2 })
    (marked_filled (are_equal _ _ _) _ (equal_marked _ _ _ _ _ lanes c.word_differ.ensures.lanes) f.5)
    (marked_filled (are_equal _ _ _) _ (equal_marked _ _ _ _ _ lanes c.word_differ-2.ensures.lanes) f.6)
