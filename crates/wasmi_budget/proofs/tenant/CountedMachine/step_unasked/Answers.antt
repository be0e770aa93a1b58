use Rattle.wasmi_budget.proofs.TenantLemmas.{counted_alike, total_unasked}
use Rattle.wasmi_budget.proofs.tenant.CountedMachine.step_unasked.Goals as goal

pub invariant_of-self : goal.invariant_of-self
invariant_of-self c =
    counted_alike c.self.inside.machine c.step_without_tenant.new.machine
    (total_unasked _ _ c.args.call.now _ c.step_without_tenant.ensures.replied) c.self.invariant

pub returns : goal.returns
returns c = record { replied = rw (← c.self.view_is) c.step_without_tenant.ensures.replied }
