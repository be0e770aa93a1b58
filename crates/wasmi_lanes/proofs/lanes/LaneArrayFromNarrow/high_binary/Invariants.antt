use Rattle.std.proofs.Common.{ℕ, ◌<◌, ◌+◌, slice_index_or}
use Rattle.wasmi_lanes.proofs.lanes.LaneArrayFromNarrow.high_binary.Given as goal

abbrev pub invariant-loop-i : goal.invariant-loop-i
invariant-loop-i g l =
    let default = g.T.LaneInteger.ALL_ZEROS in
    (k : ℕ) → k < l.i → goal.F-post g l.f (slice_index_or l.fn.a.items (g.row.M + k) default)
    (slice_index_or l.fn.b.items (g.row.M + k) default) (slice_index_or l.items k (g.U.LaneInteger.ALL_ZEROS))
