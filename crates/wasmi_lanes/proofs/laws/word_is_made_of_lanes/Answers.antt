use Rattle.wasmi_lanes.proofs.WordLemmas.{word_from_lanes}
use Rattle.wasmi_lanes.proofs.laws.word_is_made_of_lanes.Goals as goal

pub returns : goal.returns
returns c = λ widths whole. word_from_lanes c.args.word widths c.ranges.word.fits whole
