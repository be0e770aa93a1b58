use Rattle.std.proofs.Common.{arith}
use Rattle.wasmi_meter.specs.declared.limiter.Kind.TheVariants.{Bytes, Elements}
use Rattle.wasmi_budget.proofs.tenant.Tenant.held_by_all.Goals as goal

pub overflow_add-result : goal.overflow_add-result
overflow_add-result c = rw c.held-held.ensures (omega (arith, c.requires.fits Bytes))

pub overflow_add-result-2 : goal.overflow_add-result-2
overflow_add-result-2 c = rw c.held-held.ensures (omega (arith, c.requires.fits Elements))
