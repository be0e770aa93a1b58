use Rattle.std.proofs.Common.{refl, arith, nat_le, ◌^◌}
use Rattle.wasmi_simd.proofs.Common.{w64, u64x2_of}
use Rattle.wasmi_simd.proofs.GatherLemmas.{one_top}
use Rattle.wasmi_simd.proofs.ReductionLemmas.{bitmask_by_words}
use Rattle.wasmi_simd.proofs.simd.i64x2_bitmask.Goals as goal

pub returns : goal.returns
returns c = bitmask_by_words w64 refl c.args.v _ _ (u64x2_of c.words-low.ensures.low c.words-low.ensures.high)
    (λ x. nat_le (2 ^ 63) x) _ _ (omega arith)
    (one_top c.words-low.result.0 (omega (arith, c.words-low.ensures.low)))
    (one_top c.words-low.result.1 (omega (arith, c.words-low.ensures.high)))
