use Rattle.std.proofs.Common.{ℕ, ◌<◌, ◌≡◌, length, slice_index_or, pos}
use Rattle.wasmi_types.specs.Numbers.{w8, signed}
use Rattle.wasmi_lanes.specs.Vector.{lane}
use Rattle.wasmi_lanes.proofs.item.I8LaneItem16.read_into.Given as goal

abbrev pub invariant-loop-i : goal.invariant-loop-i
invariant-loop-i l = (length l.items ≡ 16)
    × ((k : ℕ) → k < l.i → slice_index_or l.items k (pos 0) ≡ signed w8 (lane w8 l.fn.vector k))
