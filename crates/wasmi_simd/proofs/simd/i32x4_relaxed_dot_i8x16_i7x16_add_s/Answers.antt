use Rattle.std.proofs.Common.{◌+◌, ◌%◌, ◌^◌, ◌∙◌, refl, ap}
use Rattle.wasmi_simd.proofs.Common.{w16, w32, binary_of_lanes, extadd_pairwise_s}
use Rattle.wasmi_lanewise.specs.VectorTable.{add}
use Rattle.wasmi_lanewise.proofs.OrderLemmas.{rows_make_vector}
use Rattle.wasmi_simd.proofs.simd.i32x4_relaxed_dot_i8x16_i7x16_add_s.Goals as goal

pub returns : goal.returns
unfolding binary_of_lanes
returns c = rows_make_vector w32 c.i32x4_extadd_pairwise_i16x8_s-pairs.result c.args.c c.vector_of.ensures.in_range
    c.lanes_of.ensures.lanes c.lanes_of-2.ensures.lanes (λ x y. (x + y) % 2 ^ 32) _
    (λ i inside. c.vector_of.ensures.lanes i inside ∙ c.sums.ensures.lanes i inside)
    (λ _ _ _ _. refl)
    ∙ ap (λ pairs. add w32 pairs c.args.c)
    (c.i32x4_extadd_pairwise_i16x8_s-pairs.ensures
    ∙ ap (extadd_pairwise_s w16 w32) c.i16x8_relaxed_dot_i8x16_i7x16_s-dot.ensures)
