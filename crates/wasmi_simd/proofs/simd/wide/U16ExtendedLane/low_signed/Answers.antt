use Rattle.wasmi_simd.proofs.Common.{rules, u16x8_widened}
use Rattle.wasmi_simd.proofs.HalfLemmas.{lower, extended_at}
use Rattle.wasmi_simd.proofs.simd.wide.U16ExtendedLane.low_signed.Goals as goal

pub returns : goal.returns
returns c = record
    { lanes = extended_at u16x8_widened lower tt c.args.v c.i16x8_of.result (search rules) c.i16x8_of.ensures.lanes }
