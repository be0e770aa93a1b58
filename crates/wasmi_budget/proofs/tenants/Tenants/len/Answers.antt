use Rattle.wasmi_budget.proofs.TenantsLemmas.{given}
use Rattle.wasmi_budget.proofs.tenants.Tenants.len.Goals as goal

pub returns : goal.returns
returns c = given c.self.invariant c.self.view_is
