use Rattle.wasmi_simd.proofs.Common.{rules, bytes_widened}
use Rattle.wasmi_simd.proofs.EvenOddLemmas.{even_signed_at}
use Rattle.wasmi_simd.proofs.simd.wide.U8PairedLane.even_signed.Goals as goal

pub returns : goal.returns
returns c = record { lanes = even_signed_at bytes_widened _ c.i16x8_of.result (search rules) c.i16x8_of.ensures.lanes }
