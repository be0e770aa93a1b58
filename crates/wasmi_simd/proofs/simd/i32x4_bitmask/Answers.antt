use Rattle.std.proofs.Common.{ℕ, Bool, ◌+◌, ◌*◌, ◌/◌, ◌^◌, ◌∙◌, ap₂, refl, leb, arith}
use Rattle.wasmi_simd.proofs.Common.{w32, field, u64x2_of}
use Rattle.wasmi_simd.proofs.GatherLemmas.{spelled_bits, tops_spelled, gathered_32}
use Rattle.wasmi_simd.proofs.ReductionLemmas.{bit_at_most, bits_of_words}
use Rattle.wasmi_simd.proofs.simd.i32x4_bitmask.Goals as goal

pub returns : goal.returns
returns c =
    let low : ℕ = c.words-low.result.0 in
    let high : ℕ = c.words-low.result.1 in
    let test : ℕ → ℕ → Bool = λ word i. leb (2 ^ 31) (field (32 * i) 32 word) in
    gathered_32 _ _ (λ i. bit_at_most (test low i)) (λ i. bit_at_most (test high i)) _
    (ap₂ (λ m n. m / 2 ^ 31 + n / 2 ^ 29)
    (tops_spelled 31 2 low 0x8000_0000_8000_0000 refl (omega (arith, c.words-low.ensures.low)) refl)
    (tops_spelled 31 2 high 0x8000_0000_8000_0000 refl (omega (arith, c.words-low.ensures.high)) refl))
    ∙ ap₂ (λ m n. m + 2 ^ 2 * n) (spelled_bits 2 (test low)) (spelled_bits 2 (test high))
    ∙ bits_of_words w32 refl c.args.v low high (u64x2_of c.words-low.ensures.low c.words-low.ensures.high)
    (leb (2 ^ 31))
