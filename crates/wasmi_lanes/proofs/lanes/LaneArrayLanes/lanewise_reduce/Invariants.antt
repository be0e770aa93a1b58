use Rattle.std.proofs.Common.{slice_index_or}
use Rattle.wasmi_lanes.specs.Vector.{ReducesTo}
use Rattle.wasmi_lanes.proofs.lanes.LaneArrayLanes.lanewise_reduce.Given as goal

abbrev pub invariant-loop-i : goal.invariant-loop-i
invariant-loop-i g l =
    ReducesTo (λ i t r. goal.F-post g l.f i (slice_index_or l.fn.self.items i (g.T.LaneInteger.ALL_ZEROS)) t r) l.i
    l.fn.acc l.acc
