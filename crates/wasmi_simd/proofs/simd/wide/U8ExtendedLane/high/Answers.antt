use Rattle.std.proofs.Common.{arith, rules, w8}
use Rattle.wasmi_simd.proofs.HalfLemmas.{extracted_lane}
use Rattle.wasmi_simd.proofs.simd.wide.U8ExtendedLane.high.Goals as goal

pub returns : goal.returns
returns c = record {
  lanes = extracted_lane w8 c.args.v c.bytes_of.result 16 8 8 (search rules) tt (omega arith) c.bytes_of.ensures.lanes;
}
