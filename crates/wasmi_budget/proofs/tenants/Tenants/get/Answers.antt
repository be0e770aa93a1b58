use Rattle.std.proofs.Common.{sym}
use Rattle.wasmi_budget.proofs.TenantsLemmas.{its_value, no_value}
use Rattle.wasmi_budget.proofs.tenants.Tenants.get.Goals as goal

pub returns-in_err-place : goal.returns-in_err-place
returns-in_err-place c = rw c.from_residual.ensures (sym (no_value c.self.invariant c.self.view_is
    c.deref.ensures.value _ c.in_err-place.ensures.found))

pub returns : goal.returns
returns c = sym (its_value c.self.invariant c.self.view_is c.deref.ensures.value _ _ c.in_ok-place.ensures.found
    c.index.ensures)
