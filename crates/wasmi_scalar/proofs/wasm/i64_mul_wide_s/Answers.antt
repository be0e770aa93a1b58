use Rattle.std.proofs.Common.{◌∙◌, rules, ℤ, ◌*ℤ◌, FitsSigned}
use Rattle.std.proofs.lemmas.Int.{to_z-of_z}
use Rattle.std.specs.Int.{w64, w128}
use Rattle.wasmi_scalar.proofs.NumericsLemmas.{signed_of-is}
use Rattle.wasmi_scalar.proofs.wasm.i64_mul_wide_s.Goals as goal

pub returns : goal.returns
returns c =
    let a : ℤ = c.args.lhs in
    let b : ℤ = c.args.rhs in
    let fits : FitsSigned w128 (a *ℤ b) = search rules in
    signed_of-is c.split128.result.0 c.split128.result.1 (a *ℤ b) (search rules) (search rules) fits (simp (
      to_z-of_z w64 a c.ranges.lhs,
      to_z-of_z w64 b c.ranges.rhs,
      to_z-of_z w128 a (search rules),
      to_z-of_z w128 b (search rules),
      to_z-of_z w128 (a *ℤ b) fits,
    ) at (c.split128.ensures ∙ c.cast_unsigned.ensures))
