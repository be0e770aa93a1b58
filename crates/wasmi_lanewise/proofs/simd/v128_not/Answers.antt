use Rattle.std.proofs.Common.{◌-◌, ◌/◌, ◌%◌, ◌^◌, refl, arith}
use Rattle.wasmi_lanewise.proofs.simd.v128_not.Goals as goal

pub returns : goal.returns
returns c =
    let v = c.args.v in
    omega (arith, c.from_u64x2.ensures (2 ^ 64 - 1 - v % 2 ^ 64) (2 ^ 64 - 1 - v / 2 ^ 64) (rw c.u64x2_of.ensures refl))
