use Rattle.std.proofs.Common.{◌∷◌, [], refl}
use Rattle.wasmi_law_tests.proofs.LanesLemmas.{mixed_lanes}
use Rattle.wasmi_law_tests.proofs.lanes.of_mixed_lanes.Goals as goal

pub returns-clause-word : goal.returns-clause-word
returns-clause-word c = c.word_is_made_of_lanes.ensures (16 ∷ 16 ∷ 16 ∷ 16 ∷ []) refl

pub returns-clause-sums : goal.returns-clause-sums
returns-clause-sums c = c.sums_of_lanes-sums.ensures (8 ∷ 8 ∷ 16 ∷ 32 ∷ []) mixed_lanes

pub returns-clause-differences : goal.returns-clause-differences
returns-clause-differences c = c.differences_of_lanes-differences.ensures (8 ∷ 8 ∷ 16 ∷ 32 ∷ []) mixed_lanes

pub returns-clause-tops : goal.returns-clause-tops
returns-clause-tops c = c.tops_of_different_lanes.ensures (8 ∷ 8 ∷ 16 ∷ 32 ∷ []) mixed_lanes
