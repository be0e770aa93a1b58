use Rattle.std.proofs.Common.{◌-◌, ◌/◌, ◌%◌, ◌^◌, ◌≡◌, ◌∙◌, sym, ap, refl, arith, bit_and, bit_or}
use Rattle.wasmi_lanewise.proofs.Common.{or_shr, or_mod, and_shr, and_mod, u64x2_of}
use Rattle.wasmi_lanewise.proofs.WordLemmas.{on_words}
use Rattle.wasmi_lanewise.proofs.simd.v128_bitselect.Goals as goal

pub returns : goal.returns
returns c =
    let a = c.args.v1 in
    let b = c.args.v2 in
    let m = c.args.c in
    let zeros = 2 ^ 128 - 1 - m in
    let low_zeros : 2 ^ 64 - 1 - m % 2 ^ 64 ≡ zeros % 2 ^ 64 = omega arith in
    let high_zeros : 2 ^ 64 - 1 - m / 2 ^ 64 ≡ zeros / 2 ^ 64 = omega arith in
    on_words bit_or or_shr or_mod (u64x2_of (sym (and_mod a m 64)) (sym (and_shr a m 64)))
    (u64x2_of (ap (bit_and (b % 2 ^ 64)) low_zeros ∙ sym (and_mod b zeros 64))
    (ap (bit_and (b / 2 ^ 64)) high_zeros ∙ sym (and_shr b zeros 64)))
    (c.from_u64x2.ensures _ _ (rw (c.u64x2_of-ones.ensures, c.u64x2_of.ensures, c.u64x2_of-2.ensures) refl))
