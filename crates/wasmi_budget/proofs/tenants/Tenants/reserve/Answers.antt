use Rattle.std.proofs.Common.{refl}
use Rattle.wasmi_budget.specs.declared.error.ReserveError.TheVariants.{NoTenant, OutOfMemory}
use Rattle.wasmi_budget.proofs.TenantsLemmas.{becomes_at, found_err, found_ok, its_value, no_value, only_error, value_put_back}
use Rattle.wasmi_budget.proofs.tenants.Tenants.reserve.Goals as goal

pub returns-in_default-clause-no_tenant : goal.returns-in_default-clause-no_tenant
returns-in_default-clause-no_tenant c = (
  λ _. no_value c.self.invariant c.self.view_is c.deref.ensures.value _ c.in_default.ensures.found,
  λ _. refl,
)

pub returns-in_err-reserve : goal.returns-in_err-reserve
returns-in_err-reserve c =
    let at = c.index_mut-counted.ensures.value in
    let there = its_value c.self.invariant c.self.view_is c.deref.ensures.value _ _ c.in-Some.ensures.found at in
    let is = only_error OutOfMemory _ c.from_residual.ensures.1 in
    record {
      reserved = rw is tt;
      no_tenant = found_err _ there NoTenant OutOfMemory _ (λ same. absurd cc) is;
      refused = rw is (value_put_back c.self.invariant c.self.view_is _ _ _ c.in_err-reserve.ensures.refused at);
    }

pub returns : goal.returns
returns c =
    let becomes = becomes_at c.self.invariant c.self.view_is c.deref.ensures.value _ _ c.in-Some.ensures.found
    c.index_mut-counted.ensures.value _ _ c.in_ok-reserve.ensures.reserved in
    record { reserved = becomes; no_tenant = found_ok _ becomes.found _ _; refused = tt }
