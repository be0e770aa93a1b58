use Rattle.std.proofs.Common.{ℕ, Bool, ◌*◌, ◌^◌, refl, leb, arith}
use Rattle.wasmi_simd.proofs.Common.{w16, field, u64x2_of}
use Rattle.wasmi_simd.proofs.GatherLemmas.{spelled_bits, tops_spelled, gathered_16}
use Rattle.wasmi_simd.proofs.ReductionLemmas.{bit_at_most, bits_of_words}
use Rattle.wasmi_simd.proofs.simd.i16x8_bitmask.Goals as goal

pub returns : goal.returns
returns c =
    let low : ℕ = c.words-low.result.0 in
    let high : ℕ = c.words-low.result.1 in
    let test : ℕ → ℕ → Bool = λ word i. leb (2 ^ 15) (field (16 * i) 16 word) in
    rw (
      tops_spelled 15 4 low 0x8000_8000_8000_8000 refl (omega (arith, c.words-low.ensures.low)) refl,
      tops_spelled 15 4 high 0x8000_8000_8000_8000 refl (omega (arith, c.words-low.ensures.high)) refl,
      gathered_16 _ _ (λ i. bit_at_most (test low i)) (λ i. bit_at_most (test high i)),
      spelled_bits 4 (test low),
      spelled_bits 4 (test high),
    )
    (bits_of_words w16 refl c.args.v low high (u64x2_of c.words-low.ensures.low c.words-low.ensures.high) (leb (2 ^ 15)))
