use Rattle.wasmi_simd.proofs.Common.{rules, u16x8_widened}
use Rattle.wasmi_simd.proofs.EvenOddLemmas.{odd_at}
use Rattle.wasmi_simd.proofs.simd.wide.U16PairedLane.odd.Goals as goal

pub returns : goal.returns
returns c = record { lanes = odd_at u16x8_widened _ c.lanes_of.result (search rules) c.lanes_of.ensures.lanes }
