use Rattle.std.proofs.Common.{rules, w16}
use Rattle.wasmi_lanewise.proofs.SaturationLemmas.{sums_u_make_vector}
use Rattle.wasmi_lanewise.proofs.simd.i16x8_add_sat_u.Goals as goal

pub returns : goal.returns
returns c = sums_u_make_vector w16 _ _ (search rules) (search rules) c.args.lhs c.args.rhs c.vector_of.ensures.in_range
    c.lanes_of.ensures.lanes c.lanes_of-2.ensures.lanes c.vector_of.ensures.lanes
