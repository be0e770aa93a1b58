use Rattle.std.proofs.Common.{ℕ, ◌<◌, ◌≡◌, length, slice_index_or, pos}
use Rattle.wasmi_types.specs.Numbers.{w64, signed}
use Rattle.wasmi_lanes.proofs.item.I64LaneItem2.write_from.Given as goal

abbrev pub invariant-loop-i : goal.invariant-loop-i
invariant-loop-i l = (length l.bits ≡ 2)
    × ((k : ℕ) → k < l.i → slice_index_or l.items k (pos 0) ≡ signed w64 (slice_index_or l.bits k 0))
