use Rattle.wasmi_simd.proofs.HalfLemmas.{lower, extended_make_vector}
use Rattle.wasmi_simd.proofs.simd.extended_low_s.Goals as goal

pub returns : goal.returns
returns g c = extended_make_vector g.met.T.ExtendedLane.widens lower c.vector_of.ensures.in_range
    c.vector_of.ensures.lanes c.args.v c.low_signed.ensures.lanes
