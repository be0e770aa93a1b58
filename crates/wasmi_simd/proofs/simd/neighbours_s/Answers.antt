use Rattle.wasmi_simd.proofs.EvenOddLemmas.{signed_sums_make_vector}
use Rattle.wasmi_simd.proofs.simd.neighbours_s.Goals as goal

pub returns : goal.returns
returns g c = signed_sums_make_vector g.met.T.ExtendedLane.widens c.vector_of.ensures.in_range c.vector_of.ensures.lanes
    c.args.v c.sums.ensures.lanes c.even_signed.ensures.lanes c.odd_signed.ensures.lanes
