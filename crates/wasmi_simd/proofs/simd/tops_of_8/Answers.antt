use Rattle.std.proofs.Common.{ℕ, Bool, ◌*◌, ◌%◌, ◌/◌, ◌^◌, ◌∙◌, ap, refl, leb}
use Rattle.wasmi_lanes.specs.Words.{field}
use Rattle.wasmi_simd.proofs.GatherLemmas.{spelled_bits, tops_spelled, gathered_8}
use Rattle.wasmi_simd.proofs.ReductionLemmas.{bit_at_most}
use Rattle.wasmi_simd.proofs.simd.tops_of_8.Goals as goal

pub returns : goal.returns
returns c =
    let test : ℕ → Bool = λ i. leb (2 ^ 7) (field (8 * i) 8 c.args.word) in
    ap (λ n. n * 0x0002_0408_1020_4081 % 2 ^ 64 / 2 ^ 56)
    (tops_spelled 7 8 c.args.word 0x8080_8080_8080_8080 refl c.ranges.word.fits refl)
    ∙ gathered_8 _ (λ i. bit_at_most (test i)) ∙ spelled_bits 8 test
