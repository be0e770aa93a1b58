use Rattle.wasmi_simd.proofs.Common.{rules, u32x4_widened}
use Rattle.wasmi_simd.proofs.HalfLemmas.{lower, extended_at}
use Rattle.wasmi_simd.proofs.simd.wide.U32ExtendedLane.low_signed.Goals as goal

pub returns : goal.returns
returns c = record
    { lanes = extended_at u32x4_widened lower tt c.args.v c.i32x4_of.result (search rules) c.i32x4_of.ensures.lanes }
