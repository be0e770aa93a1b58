use Rattle.std.proofs.Common.{rules}
use Rattle.wasmi_lanewise.proofs.simd.i8x16_sub_sat_s.Goals as goal

pub returns : goal.returns
returns c = c.binary.ensures.lanes _ (λ x y z fits_x fits_y fits_z h. search rules)
