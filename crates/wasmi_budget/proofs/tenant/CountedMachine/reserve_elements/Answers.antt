use Rattle.wasmi_budget.proofs.TenantLemmas.{counted_alike, elements_alike}
use Rattle.wasmi_budget.proofs.tenant.CountedMachine.reserve_elements.Goals as goal

pub invariant_of-self : goal.invariant_of-self
invariant_of-self c = counted_alike c.self.inside.machine c.reserve_elements.new.self
    (elements_alike c.args.table c.args.elements c.reserve_elements.result _ _
    (c.reserve_elements.ensures.tables, c.reserve_elements.ensures.rest)) c.self.invariant
