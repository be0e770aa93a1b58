use Rattle.std.proofs.Common.{ap, ◌%◌, ◌^◌, ◌∙◌}
use Rattle.wasmi_lanewise.proofs.simd.words.inner_tops.Goals as goal

pub returns : goal.returns
returns g c = ap (λ tops. tops % 2 ^ 63) (c.TOPS.ensures ∙ g.met.T.WordLane.laws.highest)
