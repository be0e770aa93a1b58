use Rattle.wasmi_simd.proofs.EvenOddLemmas.{dots_make_vector}
use Rattle.wasmi_simd.proofs.simd.dots.Goals as goal

pub returns : goal.returns
returns g c = dots_make_vector g.met.T.ExtendedLane.widens c.vector_of.ensures.in_range c.vector_of.ensures.lanes
    c.args.lhs c.args.rhs c.sums.ensures.lanes c.products-evens.ensures.lanes c.products-odds.ensures.lanes
    c.even_signed.ensures.lanes c.odd_signed.ensures.lanes c.even_signed-2.ensures.lanes c.odd_signed-2.ensures.lanes
