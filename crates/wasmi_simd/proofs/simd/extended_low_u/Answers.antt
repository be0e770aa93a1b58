use Rattle.wasmi_simd.proofs.HalfLemmas.{lower, half_makes_vector}
use Rattle.wasmi_simd.proofs.simd.extended_low_u.Goals as goal

pub returns : goal.returns
returns g c = half_makes_vector g.met.T.ExtendedLane.widens lower c.vector_of.ensures.in_range c.vector_of.ensures.lanes
    c.args.v c.low.ensures.lanes
