use Rattle.wasmi_lanes.proofs.WordLemmas.{lanes_make_word}
use Rattle.wasmi_lanes.proofs.laws.tops_of_different_lanes.Goals as goal

pub returns : goal.returns
returns c = λ widths lanes. lanes_make_word _ _ widths _ c.word_differ.type_inv lanes c.word_differ.ensures.lanes
