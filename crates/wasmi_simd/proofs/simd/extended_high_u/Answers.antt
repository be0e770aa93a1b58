use Rattle.wasmi_simd.proofs.HalfLemmas.{upper, half_makes_vector}
use Rattle.wasmi_simd.proofs.simd.extended_high_u.Goals as goal

pub returns : goal.returns
returns g c = half_makes_vector g.met.T.ExtendedLane.widens upper c.vector_of.ensures.in_range c.vector_of.ensures.lanes
    c.args.v c.high.ensures.lanes
