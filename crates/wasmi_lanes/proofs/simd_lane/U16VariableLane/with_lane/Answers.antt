use Rattle.std.proofs.Common.{ℕ, ◌<◌, ◌^◌, List, [], refl, ap, ◌∙◌, arith, replicate, slice_index_or, rules}
use Rattle.wasmi_lanes.proofs.Common.{number_l, digits_l, w16, IN_EACH_U16}
use Rattle.wasmi_lanes.proofs.VariableLaneLemmas.{computed, lane_written}
use Rattle.wasmi_lanes.proofs.simd_lane.U16VariableLane.with_lane.Goals as goal

pub returns : goal.returns
returns c =
    let below : c.from-2.result < 8 = omega (arith, c.from-2.ensures, c.from.ensures.0, c.from.ensures.1) in
    let lanes : ℕ → List ℕ = λ m. digits_l (2 ^ 16) 8 (number_l (2 ^ 8) (digits_l (2 ^ 8) 16 (number_l (2 ^ 64)
    (replicate 2 (slice_index_or IN_EACH_U16 m 0))))) in
    lane_written w16 8 c.args.vector c.args.at c.args.item c.lanes_of.result refl refl
    (computed lanes (replicate 8) 8 c.from-2.result [] refl below
    ∙ ap (replicate 8) (c.from-2.ensures ∙ c.from.ensures.0))
    (record { long = search rules; are = c.lanes_of.ensures.lanes }) c.vector_of.ensures.lanes
    c.vector_of.ensures.in_range
