use Rattle.std.proofs.Common.{refl}
use Rattle.wasmi_budget.proofs.TenantsLemmas.{its_value, listed_removed, no_value, place_within, removed_value}
use Rattle.wasmi_budget.proofs.tenants.Tenants.remove.Goals as goal

pub returns-in_err-place : goal.returns-in_err-place
returns-in_err-place c = rw c.from_residual.ensures (
  no_value c.self.invariant c.self.view_is c.deref.ensures.value _ c.in_err-place.ensures.found,
  refl,
)

pub invariant_of-self : goal.invariant_of-self
invariant_of-self c = rw (c.remove.ensures.items, c.remove-2.ensures.items)
    (listed_removed _ _ _ c.self.invariant _ (place_within c.self.invariant c.self.view_is c.deref.ensures.value _ _
    c.in_ok-place.ensures.found))

pub returns : goal.returns
returns c = (
  its_value c.self.invariant c.self.view_is c.deref.ensures.value _ _ c.in_ok-place.ensures.found
      c.remove-2.ensures.value,
  rw (c.remove.ensures.items, c.remove-2.ensures.items) (removed_value c.self.invariant c.self.view_is
      c.deref.ensures.value _ _ c.in_ok-place.ensures.found),
)
