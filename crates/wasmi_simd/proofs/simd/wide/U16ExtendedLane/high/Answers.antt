use Rattle.std.proofs.Common.{arith, rules, w16}
use Rattle.wasmi_simd.proofs.HalfLemmas.{extracted_lane}
use Rattle.wasmi_simd.proofs.simd.wide.U16ExtendedLane.high.Goals as goal

pub returns : goal.returns
returns c = record {
  lanes = extracted_lane w16 c.args.v c.lanes_of.result 8 4 4 (search rules) tt (omega arith) c.lanes_of.ensures.lanes;
}
