use Rattle.std.proofs.Common.{ℕ, ◌+◌, ◌-◌, ◌%◌, ◌/◌, ◌^◌, ◌∙◌, ap, ap₂, refl, arith, rules}
use Rattle.wasmi_simd.proofs.Common.{w8, lane, unary_of_lanes, lane_below, lanes_make_vector, lane_of_from}
use Rattle.wasmi_lanes.proofs.ItemLemmas.{items, zipped}
use Rattle.wasmi_simd.proofs.ShiftLemmas.{moved_and_back, half_at}
use Rattle.wasmi_simd.proofs.simd.i8x16_shr_s.Goals as goal

pub returns : goal.returns
unfolding unary_of_lanes
returns c =
    let s : ℕ = c.args.amount % 8 in
    let differences =
    zipped (λ x y. (x + (2 ^ 8 - y)) % 2 ^ 8) (items 16 c.bytes_of.result (search rules))
    (items 16 c.bytes_of-2.result (search rules)) in
    lanes_make_vector w8 16 c.from_bytes.result _ refl c.from_bytes.ensures.in_range
    (λ i inside.
    c.from_bytes.ensures.lanes i inside ∙ differences.are i inside
    ∙ ap₂ (λ x y. (x + (2 ^ 8 - y)) % 2 ^ 8)
    (c.bytes_of.ensures.lanes i inside ∙ ap (λ n. lane w8 n i) c.i8x16_shr_u-shifted.ensures
    ∙ lane_of_from w8 i inside (λ k. lane w8 c.vector_of-biased.result k / 2 ^ s)
    ∙ ap (λ n. n / 2 ^ s % 2 ^ 8)
    (c.vector_of-biased.ensures.lanes i inside ∙ c.biased.ensures.lanes i inside
    ∙ ap (λ n. (n + 2 ^ 7) % 2 ^ 8) (c.lanes_of.ensures.lanes i inside)))
    (c.bytes_of-2.ensures.lanes i inside ∙ half_at _ _ s refl c.from-half.ensures (omega arith) i inside)
    ∙ moved_and_back (lane w8 c.args.v i) s (lane_below w8 c.args.v i) (omega arith))
