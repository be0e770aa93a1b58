use Rattle.wasmi_lanes.proofs.WordLemmas.{lanes_make_word}
use Rattle.wasmi_lanes.proofs.laws.sums_of_lanes.Goals as goal

pub returns : goal.returns
returns c = λ widths lanes. lanes_make_word c.args.tops _ widths _ c.word_add.type_inv lanes c.word_add.ensures.lanes
