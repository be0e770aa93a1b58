use Rattle.std.proofs.Common.{ℕ, Bool, ◌<◌, ◌≡◌, if◌then◌else◌, slice_index_or}
use Rattle.wasmi_lanes.proofs.lanes.LaneArrayLanes.lanewise_comparison.Given as goal

abbrev pub invariant-loop-i : goal.invariant-loop-i
invariant-loop-i g l =
    let item = g.T.LaneInteger in
    (k : ℕ) → k < l.i → (holds : Bool) × goal.F-post g l.f (slice_index_or l.fn.self.items k item.ALL_ZEROS)
    (slice_index_or l.fn.other.items k item.ALL_ZEROS) holds
    × (slice_index_or l.items k item.ALL_ZEROS ≡ (if holds then item.ALL_ONES else item.ALL_ZEROS))
