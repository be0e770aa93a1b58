use Rattle.wasmi_simd.proofs.HalfLemmas.{upper, signed_products_make_vector}
use Rattle.wasmi_simd.proofs.simd.products_high_s.Goals as goal

pub returns : goal.returns
returns g c = signed_products_make_vector g.met.T.ExtendedLane.widens upper c.vector_of.ensures.in_range
    c.vector_of.ensures.lanes _ _ c.products.ensures.lanes c.high_signed.ensures.lanes c.high_signed-2.ensures.lanes
