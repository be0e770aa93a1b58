use Rattle.std.proofs.Common.{refl, arith, nat_le, ◌^◌}
use Rattle.wasmi_simd.proofs.Common.{w8, u64x2_of}
use Rattle.wasmi_simd.proofs.ReductionLemmas.{bitmask_by_words}
use Rattle.wasmi_simd.proofs.simd.i8x16_bitmask.Goals as goal

pub returns : goal.returns
returns c = bitmask_by_words w8 refl c.args.v _ _ (u64x2_of c.words-low.ensures.low c.words-low.ensures.high)
    (λ x. nat_le (2 ^ 7) x) _ _ (omega arith) c.tops_of_8.ensures c.tops_of_8-2.ensures
