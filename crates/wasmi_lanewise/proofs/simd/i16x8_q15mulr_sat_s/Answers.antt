use Rattle.wasmi_lanewise.proofs.Common.{w16, binary_of_lanes, items, repeated, zipped}
use Rattle.std.proofs.Common.{refl, ◌+◌, ◌*◌, ◌/◌, ◌%◌, ◌^◌, ◌∙◌, ap, ap₂, rules}
use Rattle.wasmi_lanewise.proofs.OrderLemmas.{rows_make_vector}
use Rattle.wasmi_lanewise.proofs.SaturationLemmas.{extended, doubled, rounded, rounded_product}
use Rattle.wasmi_lanewise.proofs.simd.i16x8_q15mulr_sat_s.Goals as goal

pub returns : goal.returns
unfolding binary_of_lanes
returns c =
    let of_x = items 8 c.lanes_of-x.result (search rules) in
    let of_y = items 8 c.lanes_of-y.result (search rules) in
    let products = zipped (λ p q. p * q % 65536) of_x of_y in
    let halved = zipped (λ a b. a / 2 ^ b) products (repeated 8 1) in
    let biased = zipped (λ a b. (a + b) % 65536) halved (repeated 8 8192) in
    let lowers = zipped (λ a b. a / 2 ^ b) biased (repeated 8 14) in
    let sums = zipped (λ p q. (p + q) % 65536) (items 8 c.twice.result (search rules)) lowers in
    rows_make_vector w16 c.args.lhs c.args.rhs c.vector_of.ensures.in_range c.lanes_of-x.ensures.lanes
    c.lanes_of-y.ensures.lanes
    (λ x y. (doubled (extended x * extended y % 2 ^ 32 / 65536) + rounded (x * y % 65536)) % 65536) _
    (λ i inside.
    c.vector_of.ensures.lanes i inside ∙ sums.are i inside
    ∙ ap₂ (λ p q. (p + q) % 65536)
    (c.twice.ensures.lanes i inside ∙ ap doubled (c.upper_halves.ensures.lanes i inside)) refl)
    rounded_product
