use Rattle.wasmi_lanes.proofs.VectorLemmas.{lanes_of_width, lane_of_from, lane_of_comparison}
use Rattle.wasmi_lanes.proofs.Common.{unary_of_lanes, binary_of_lanes}
use Rattle.wasmi_lanes.proofs.laws.lanes_of_rows.Goals as goal

pub returns-clause-unary : goal.returns-clause-unary
unfolding unary_of_lanes
returns-clause-unary g c read row a i inside =
    lane_of_from _ i (rw (lanes_of_width _ _ g.met.L.Lanes.laws.filled) inside) _

pub returns-clause-binary : goal.returns-clause-binary
unfolding binary_of_lanes
returns-clause-binary g c read row a b i inside =
    lane_of_from _ i (rw (lanes_of_width _ _ g.met.L.Lanes.laws.filled) inside) _

pub returns-clause-comparison : goal.returns-clause-comparison
returns-clause-comparison g c read test a b i inside =
    lane_of_comparison _ i (rw (lanes_of_width _ _ g.met.L.Lanes.laws.filled) inside) read test a b
