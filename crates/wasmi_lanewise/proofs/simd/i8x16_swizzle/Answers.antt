use Rattle.std.proofs.Common.{◌∙◌, refl, ap, slice_index, nat_lt, if◌then◌else◌, rules, w8}
use Rattle.wasmi_lanewise.proofs.Common.{lane, unary_of_lanes, lanes_make_vector}
use Rattle.wasmi_lanewise.proofs.ChosenLemmas.{bytes_fit, chosen_same, picked_or_zero_at, positions_may_index}
use Rattle.wasmi_lanewise.proofs.simd.i8x16_swizzle.Goals as goal

pub swizzle : goal.swizzle
swizzle c = positions_may_index c.bytes_of.result (search rules)
    (bytes_fit c.args.s c.bytes_of.result (search rules) c.bytes_of.ensures.lanes)

pub returns : goal.returns
unfolding unary_of_lanes
returns c = lanes_make_vector w8 16 c.from_bytes.result _ refl c.from_bytes.ensures.in_range
    (λ i inside.
    c.from_bytes.ensures.lanes i inside
    ∙ picked_or_zero_at c.bytes_of.result (search rules)
    (bytes_fit c.args.s c.bytes_of.result (search rules) c.bytes_of.ensures.lanes) c.bytes_of-2.result i inside
    ∙ chosen_same (slice_index c.bytes_of.result i) (λ below. c.bytes_of-2.ensures.lanes _ below) (λ _. refl)
    ∙ ap (λ k. if nat_lt k 16 then lane w8 c.args.a k else 0) (c.bytes_of.ensures.lanes i inside))
