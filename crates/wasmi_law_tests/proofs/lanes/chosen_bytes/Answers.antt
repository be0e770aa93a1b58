use Rattle.std.proofs.Common.{ap, ◌∙◌}
use Rattle.wasmi_types.specs.Numbers.{w8}
use Rattle.wasmi_lanes.specs.Vector.{lane}
use Rattle.wasmi_law_tests.proofs.lanes.chosen_bytes.Goals as goal

pub returns : goal.returns
returns c = λ i inside.
    ap (λ v. lane w8 v i) c.i8x16_shuffle.ensures ∙ c.lanes_of_made_vector.ensures.made w8 _ i inside
