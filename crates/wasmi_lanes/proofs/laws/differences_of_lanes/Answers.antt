use Rattle.wasmi_lanes.proofs.WordLemmas.{lanes_make_word}
use Rattle.wasmi_lanes.proofs.laws.differences_of_lanes.Goals as goal

pub returns : goal.returns
returns c = λ widths lanes. lanes_make_word c.args.tops _ widths _ c.word_sub.type_inv lanes c.word_sub.ensures.lanes
