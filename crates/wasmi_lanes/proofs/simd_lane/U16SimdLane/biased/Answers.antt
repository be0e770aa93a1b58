use Rattle.std.proofs.Common.{◌+◌, ◌%◌, ◌^◌}
use Rattle.wasmi_lanes.proofs.ItemLemmas.{items, repeated, zipped}
use Rattle.wasmi_lanes.proofs.simd_lane.U16SimdLane.biased.Goals as goal

pub returns : goal.returns
returns c = record { lanes = (zipped (λ x y. (x + y) % 2 ^ 16) (items 8 _ c.fits-items.0) (repeated 8 32768)).are }
