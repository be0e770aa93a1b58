use Rattle.std.proofs.Common.{ℕ, ◌≡◌, ◌/◌, ◌%◌, ◌^◌, ◌<◌, ◌∙◌, ap, refl, arith}
use Rattle.wasmi_lanes.proofs.Common.{and_mask, number_l}
use Rattle.wasmi_lanes.proofs.VariableLaneLemmas.{indices_inside, lane_picked}
use Rattle.wasmi_lanes.proofs.simd_lane.U8VariableLane.lane_at.Goals as goal

pub bytes_at-bytes-requires : goal.bytes_at-bytes-requires
bytes_at-bytes-requires c =
    let below : c.from-2.result < 16 = omega (arith, c.from-2.ensures, c.from.ensures.0, c.from.ensures.1) in
    record { inside = λ i inside. indices_inside (λ m. m) 16 c.from-2.result i refl below inside }

pub returns : goal.returns
returns c =
    let below : c.from-2.result < 16 = omega (arith, c.from-2.ensures, c.from.ensures.0, c.from.ensures.1) in
    let number : ℕ = number_l 256 c.bytes_at-bytes.result in
    let lowest : number % 2 ^ 32 % 2 ^ 8 ≡ number % 2 ^ 8 = omega arith in
    and_mask (number % 2 ^ 32) 8 ∙ lowest
    ∙ lane_picked (λ m. m) 1 16 c.args.vector c.from-2.result _ c.bytes_at-bytes.ensures.lanes below (omega arith) refl
    ∙ ap (λ place. c.args.vector / 2 ^ place % 2 ^ 8) (omega (arith, c.from-2.ensures, c.from.ensures.0))
