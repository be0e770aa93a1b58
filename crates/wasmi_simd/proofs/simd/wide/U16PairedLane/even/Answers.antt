use Rattle.wasmi_simd.proofs.Common.{rules, u16x8_widened}
use Rattle.wasmi_simd.proofs.EvenOddLemmas.{even_at}
use Rattle.wasmi_simd.proofs.simd.wide.U16PairedLane.even.Goals as goal

pub returns : goal.returns
returns c = record { lanes = even_at u16x8_widened _ c.lanes_of.result (search rules) c.lanes_of.ensures.lanes }
