use Rattle.wasmi_simd.proofs.HalfLemmas.{lower, signed_products_make_vector}
use Rattle.wasmi_simd.proofs.simd.products_low_s.Goals as goal

pub returns : goal.returns
returns g c = signed_products_make_vector g.met.T.ExtendedLane.widens lower c.vector_of.ensures.in_range
    c.vector_of.ensures.lanes _ _ c.products.ensures.lanes c.low_signed.ensures.lanes c.low_signed-2.ensures.lanes
