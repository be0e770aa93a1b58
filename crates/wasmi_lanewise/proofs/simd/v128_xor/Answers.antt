use Rattle.std.proofs.Common.{refl, bit_xor}
use Rattle.wasmi_lanewise.proofs.Common.{u64x2_of, xor_shr, xor_mod}
use Rattle.wasmi_lanewise.proofs.WordLemmas.{on_words}
use Rattle.wasmi_lanewise.proofs.simd.v128_xor.Goals as goal

pub returns : goal.returns
returns c = on_words {a = c.args.lhs} {b = c.args.rhs} bit_xor xor_shr xor_mod (u64x2_of refl refl) (u64x2_of refl refl)
    (c.from_u64x2.ensures _ _ (rw (c.u64x2_of.ensures, c.u64x2_of-2.ensures) refl))
