use Rattle.std.proofs.Common.{refl}
use Rattle.wasmi_budget.proofs.tenant.TenantCappedLimiter.take.Goals as goal

pub returns : goal.returns
returns c = record { takes = rw (c.of.ensures, c.of-2.ensures) at c.take.ensures; rest = refl }
