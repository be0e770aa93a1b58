use Rattle.wasmi_simd.proofs.HalfLemmas.{upper, products_make_vector}
use Rattle.wasmi_simd.proofs.simd.products_high_u.Goals as goal

pub returns : goal.returns
returns g c = products_make_vector g.met.T.ExtendedLane.widens upper c.vector_of.ensures.in_range
    c.vector_of.ensures.lanes c.args.lhs c.args.rhs c.products.ensures.lanes c.high.ensures.lanes c.high-2.ensures.lanes
