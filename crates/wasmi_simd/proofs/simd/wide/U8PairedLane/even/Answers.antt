use Rattle.wasmi_simd.proofs.Common.{rules, bytes_widened}
use Rattle.wasmi_simd.proofs.EvenOddLemmas.{even_at}
use Rattle.wasmi_simd.proofs.simd.wide.U8PairedLane.even.Goals as goal

pub returns : goal.returns
returns c = record { lanes = even_at bytes_widened _ c.lanes_of.result (search rules) c.lanes_of.ensures.lanes }
