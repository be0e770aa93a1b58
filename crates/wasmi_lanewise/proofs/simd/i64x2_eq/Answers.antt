use Rattle.std.proofs.Common.{ℕ, ◌-◌, ◌^◌, ◌∙◌, ap₂, nat_eq, if◌then◌else◌, arith}
use Rattle.wasmi_lanes.specs.Vector.{binary_of_lanes, comparison_of_lanes}
use Rattle.wasmi_lanewise.proofs.WordLemmas.{lanes_are_words}
use Rattle.wasmi_lanewise.proofs.simd.i64x2_eq.Goals as goal

pub returns : goal.returns
unfolding binary_of_lanes comparison_of_lanes
returns c =
    let a = c.words-a_low.ensures in
    let b = c.words-b_low.ensures in
    let row : ℕ → ℕ → ℕ = λ x y. if nat_eq x y then 2 ^ 64 - 1 else 0 in
    lanes_are_words row c.args.lhs c.args.rhs _ _ c.from_word_pair.result (omega arith) (omega arith)
    (record { fits = c.ones_if_equal.type_inv; is = c.ones_if_equal.ensures ∙ ap₂ row a.low b.low })
    (record { fits = c.ones_if_equal-2.type_inv; is = c.ones_if_equal-2.ensures ∙ ap₂ row a.high b.high })
    c.from_word_pair.ensures
