use Rattle.std.proofs.Common.{◌+◌, ◌%◌, ◌^◌}
use Rattle.wasmi_lanes.proofs.ItemLemmas.{items, repeated, zipped}
use Rattle.wasmi_lanes.proofs.simd_lane.U32SimdLane.biased.Goals as goal

pub returns : goal.returns
returns c = record { lanes = (zipped (λ x y. (x + y) % 2 ^ 32) (items 4 _ c.fits-items.0) (repeated 4 2147483648)).are }
