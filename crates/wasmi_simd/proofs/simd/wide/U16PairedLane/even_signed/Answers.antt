use Rattle.wasmi_simd.proofs.Common.{rules, u16x8_widened}
use Rattle.wasmi_simd.proofs.EvenOddLemmas.{even_signed_at}
use Rattle.wasmi_simd.proofs.simd.wide.U16PairedLane.even_signed.Goals as goal

pub returns : goal.returns
returns c = record { lanes = even_signed_at u16x8_widened _ c.i32x4_of.result (search rules) c.i32x4_of.ensures.lanes }
