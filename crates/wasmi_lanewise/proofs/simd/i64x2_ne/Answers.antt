use Rattle.std.proofs.Common.{ℕ, ◌-◌, ◌^◌, ◌∙◌, ap₂, nat_eq, not, if◌then◌else◌, arith}
use Rattle.wasmi_lanes.specs.Vector.{binary_of_lanes, comparison_of_lanes}
use Rattle.wasmi_lanewise.proofs.MarkLemmas.{turned_choice}
use Rattle.wasmi_lanewise.proofs.WordLemmas.{lanes_are_words}
use Rattle.wasmi_lanewise.proofs.simd.i64x2_ne.Goals as goal

pub returns : goal.returns
unfolding binary_of_lanes comparison_of_lanes
returns c =
    let a = c.words-a_low.ensures in
    let b = c.words-b_low.ensures in
    let row : ℕ → ℕ → ℕ = λ x y. if not (nat_eq x y) then 2 ^ 64 - 1 else 0 in
    lanes_are_words row c.args.lhs c.args.rhs _ _ c.from_word_pair.result (omega arith) (omega arith)
    (record { fits = omega arith; is = turned_choice _ _ c.ones_if_equal.ensures ∙ ap₂ row a.low b.low })
    (record { fits = omega arith; is = turned_choice _ _ c.ones_if_equal-2.ensures ∙ ap₂ row a.high b.high })
    c.from_word_pair.ensures
