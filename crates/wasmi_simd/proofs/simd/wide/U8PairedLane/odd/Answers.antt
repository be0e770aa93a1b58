use Rattle.wasmi_simd.proofs.Common.{rules, bytes_widened}
use Rattle.wasmi_simd.proofs.EvenOddLemmas.{odd_at}
use Rattle.wasmi_simd.proofs.simd.wide.U8PairedLane.odd.Goals as goal

pub returns : goal.returns
returns c = record { lanes = odd_at bytes_widened _ c.lanes_of.result (search rules) c.lanes_of.ensures.lanes }
