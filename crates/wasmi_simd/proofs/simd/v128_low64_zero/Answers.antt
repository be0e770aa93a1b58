use Rattle.std.proofs.Common.{ℕ, ◌≡◌, ◌<◌, ◌^◌, ◌∙◌, ap, arith, rules, length, List, replicate}
use Rattle.wasmi_lanes.specs.Vector.{first_lanes, with_lane}
use Rattle.wasmi_simd.proofs.Common.{get_or_append_left, get_or-append_right, w32, lane}
use Rattle.wasmi_simd.proofs.simd.v128_low64_zero.Goals as goal

-- a vector whose lower two lanes are those of a number of 64 bits, and whose others are 0, is the number
number_of_half : (n r : ℕ) → n < 2 ^ 64 → r < 2 ^ 128 → lane w32 r 0 ≡ lane w32 n 0 → lane w32 r 1 ≡ lane w32 n 1
    → lane w32 r 2 ≡ 0 → lane w32 r 3 ≡ 0 → r ≡ n
number_of_half n r fits below first second third fourth = omega arith

pub returns : goal.returns
unfolding with_lane first_lanes
returns c =
    let n = c.args.number in
    let is : c.from_word_pair.result ≡ n = omega arith in
    let items = c.lanes_of-items.result in
    let zeros : List ℕ = replicate 4 0 in
    let long : length items ≡ 4 = search rules in
    let lane_is = c.vector_of.ensures.lanes in
    let first =
    lane_is 0 (omega arith) ∙ get_or_append_left items zeros 0 0 (omega arith)
    ∙ c.lanes_of-items.ensures.lanes 0 (omega arith) ∙ ap (λ k. lane w32 k 0) is in
    let second =
    lane_is 1 (omega arith) ∙ get_or_append_left items zeros 0 1 (omega arith)
    ∙ c.lanes_of-items.ensures.lanes 1 (omega arith) ∙ ap (λ k. lane w32 k 1) is in
    let whole =
    number_of_half n c.vector_of.result (omega arith) c.vector_of.ensures.in_range first second
    (lane_is 2 (omega arith) ∙ get_or-append_right items zeros 4 4 0 long (omega arith))
    (lane_is 3 (omega arith) ∙ get_or-append_right items zeros 4 5 0 long (omega arith)) in
    omega arith
