use Rattle.wasmi_simd.proofs.Common.{rules, u16x8_widened}
use Rattle.wasmi_simd.proofs.HalfLemmas.{upper, extended_at}
use Rattle.wasmi_simd.proofs.simd.wide.U16ExtendedLane.high_signed.Goals as goal

pub returns : goal.returns
returns c = record
    { lanes = extended_at u16x8_widened upper tt c.args.v c.i16x8_of.result (search rules) c.i16x8_of.ensures.lanes }
