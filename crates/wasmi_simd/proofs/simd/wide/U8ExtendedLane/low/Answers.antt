use Rattle.std.proofs.Common.{◌∙◌, ap, arith, rules}
use Rattle.wasmi_simd.proofs.Common.{w8, lane}
use Rattle.wasmi_simd.proofs.HalfLemmas.{extracted_lane}
use Rattle.wasmi_simd.proofs.simd.wide.U8ExtendedLane.low.Goals as goal

pub returns : goal.returns
returns c = record {
  lanes = λ i below. extracted_lane w8 c.args.v c.bytes_of.result 16 0 8 (search rules) tt (omega arith)
      c.bytes_of.ensures.lanes i below ∙ ap (lane w8 c.args.v) (omega arith);
}
