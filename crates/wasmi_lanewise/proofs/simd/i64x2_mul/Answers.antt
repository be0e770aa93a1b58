use Rattle.std.proofs.Common.{ℕ, ◌*◌, ◌%◌, ◌^◌, ◌∙◌, ap₂, arith}
use Rattle.wasmi_lanewise.proofs.WordLemmas.{high_product, lanes_are_words}
use Rattle.wasmi_lanewise.proofs.simd.i64x2_mul.Goals as goal

pub returns : goal.returns
returns c =
    let a = c.words-a_low.ensures in
    let b = c.words-b_low.ensures in
    let row : ℕ → ℕ → ℕ = λ x y. x * y % 2 ^ 64 in
    lanes_are_words row c.args.lhs c.args.rhs _ _ c.from_word_pair.result (omega arith) (omega arith)
    (record { fits = omega arith; is = ap₂ row a.low b.low })
    (record { fits = omega arith; is = high_product _ _ _ _ (omega arith) c.from.ensures c.from-2.ensures ∙ ap₂ row a.high b.high }) c.from_word_pair.ensures
