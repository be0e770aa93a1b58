use Rattle.std.proofs.Common.{inl, inr, refl}
use Rattle.wasmi_c.specs.Pool.{RunsTenantLines}
use Rattle.wasmi_c.proofs.pool.TenantPool.run_lines.Goals as goal

pub returns-in-Err-run-clause-step : goal.returns-in-Err-run-clause-step
unfolding RunsTenantLines
returns-in-Err-run-clause-step c =
    let refused = c.in-Err-run.ensures.refused in
    inl (inr (c.in-Ok.script, c.in-Ok.ensures.0, c.in-Ok.ensures.1, refused.0), refl, refused.1)
