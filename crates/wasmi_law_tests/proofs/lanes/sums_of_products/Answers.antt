use Rattle.std.proofs.Common.{ap, ◌∙◌, mod-eq_of_lt}
use Rattle.wasmi_types.specs.Numbers.{w16, w32}
use Rattle.wasmi_types.proofs.NumbersLemmas.{wrap_below}
use Rattle.wasmi_lanes.specs.Vector.{lane}
use Rattle.wasmi_law_tests.proofs.lanes.sums_of_products.Goals as goal

pub returns : goal.returns
returns c = λ i inside.
    ap (λ v. lane w32 v i) c.i32x4_dot_i16x8_s.ensures ∙ c.pairwise_lanes.ensures.binary w16 w32 _ _ _ _ i inside
    ∙ mod-eq_of_lt (wrap_below w32 _)
