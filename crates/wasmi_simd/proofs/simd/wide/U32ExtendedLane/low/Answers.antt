use Rattle.std.proofs.Common.{arith}
use Rattle.std.proofs.lemmas.Grind.{common_steps}
use Rattle.wasmi_simd.proofs.simd.wide.U32ExtendedLane.low.Goals as goal

pub returns : goal.returns
returns c = record { lanes = λ i below. grind (arith, common_steps) }
