use Rattle.std.proofs.Common.{ℕ, ◌<◌, ◌*◌, ◌+◌, slice_index_or}
use Rattle.wasmi_lanes.proofs.lanes.LaneArrayFromNarrow.pairwise_unary.Given as goal

abbrev pub invariant-loop-i : goal.invariant-loop-i
invariant-loop-i g l =
    let default = g.T.LaneInteger.ALL_ZEROS in
    (k : ℕ) → k < l.i → goal.F-post g l.f (slice_index_or l.fn.narrow.items (2 * k) default)
    (slice_index_or l.fn.narrow.items (2 * k + 1) default) (slice_index_or l.items k (g.U.LaneInteger.ALL_ZEROS))
