use Rattle.std.proofs.Common.{◌/◌, ◌^◌, refl, arith}
use Rattle.std.proofs.lemmas.Nat.{shr_le}
use Rattle.wasmi_simd.proofs.ShiftLemmas.{whole_words_shifted}
use Rattle.wasmi_simd.proofs.simd.i64x2_shr_u.Goals as goal

pub returns : goal.returns
returns c = whole_words_shifted c.args.v c.args.amount c.from.result (omega arith) c.from.ensures (λ n x. x / 2 ^ n)
    (λ x below. omega (arith, shr_le x c.from.result)) (c.from_u64x2.ensures _ _ (rw c.u64x2_of.ensures refl))
