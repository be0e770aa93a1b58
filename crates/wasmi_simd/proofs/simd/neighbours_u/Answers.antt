use Rattle.wasmi_simd.proofs.EvenOddLemmas.{sums_make_vector}
use Rattle.wasmi_simd.proofs.simd.neighbours_u.Goals as goal

pub returns : goal.returns
returns g c = sums_make_vector g.met.T.ExtendedLane.widens c.vector_of.ensures.in_range c.vector_of.ensures.lanes
    c.args.v c.sums.ensures.lanes c.even.ensures.lanes c.odd.ensures.lanes
