use Rattle.std.proofs.Common.{◌*◌, ◌%◌, ◌^◌, refl, arith, mod-lt, lit<}
use Rattle.wasmi_simd.proofs.ShiftLemmas.{whole_words_shifted}
use Rattle.wasmi_simd.proofs.simd.i64x2_shl.Goals as goal

pub returns : goal.returns
returns c =
    whole_words_shifted c.args.v c.args.amount c.from.result (omega arith) c.from.ensures (λ n x. x * 2 ^ n % 2 ^ 64)
    (λ x _. mod-lt (x * 2 ^ c.from.result) (lit< tt)) (c.from_u64x2.ensures _ _ (rw c.u64x2_of.ensures refl))
