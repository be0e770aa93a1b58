use Rattle.std.proofs.Common.{◌∙◌, refl, arith}
use Rattle.wasmi_lanewise.proofs.Common.{get_or-replicate, ints, to_z-of_z, w16, splat_of, lanes_make_vector}
use Rattle.wasmi_lanewise.proofs.simd.i16x8_splat.Goals as goal

pub returns : goal.returns
unfolding splat_of
returns c = lanes_make_vector w16 8 c.vector_of.result _ refl c.vector_of.ensures.in_range
    (λ i inside.
    c.vector_of.ensures.lanes i inside
    ∙ get_or-replicate 8 i c.cast_unsigned.result 0 inside
    ∙ grind (arith, ints, to_z-of_z, c.cast_unsigned.ensures))
