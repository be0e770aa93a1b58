use Rattle.wasmi_simd.proofs.HalfLemmas.{upper, extended_make_vector}
use Rattle.wasmi_simd.proofs.simd.extended_high_s.Goals as goal

pub returns : goal.returns
returns g c = extended_make_vector g.met.T.ExtendedLane.widens upper c.vector_of.ensures.in_range
    c.vector_of.ensures.lanes c.args.v c.high_signed.ensures.lanes
