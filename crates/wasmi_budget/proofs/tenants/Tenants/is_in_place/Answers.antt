use Rattle.wasmi_budget.proofs.TenantsLemmas.{in_place}
use Rattle.wasmi_budget.proofs.tenants.Tenants.is_in_place.Goals as goal

pub returns : goal.returns
returns c =
    let placed = in_place c.self.invariant c.self.view_is c.deref.ensures.value _ in
    let own = c.is_own_place.ensures in
    (λ yes. placed.0 (own.0 yes), λ has. own.1 (placed.1 has))
