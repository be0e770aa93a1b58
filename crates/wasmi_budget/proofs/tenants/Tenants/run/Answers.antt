use Rattle.std.proofs.Common.{refl}
use Rattle.wasmi_budget.specs.declared.error.PoolError.TheVariants.{NoTenant}
use Rattle.wasmi_budget.proofs.PoolLemmas.{is_part}
use Rattle.wasmi_budget.proofs.TenantsLemmas.{its_value, no_value, run_at}
use Rattle.wasmi_budget.proofs.tenants.Tenants.run.Goals as goal

pub returns-in_default-clause-no_tenant : goal.returns-in_default-clause-no_tenant
returns-in_default-clause-no_tenant c = (
  λ _. no_value c.self.invariant c.self.view_is c.deref.ensures.value _ c.in_default.ensures.found,
  λ _. refl,
)

pub run-requires : goal.run-requires
run-requires c = record {
  part = is_part c.requires.kept c.args.index (its_value c.self.invariant c.self.view_is c.deref.ensures.value _ _
      c.in-Some.ensures.found c.index_mut-machine.ensures.value);
}

pub returns : goal.returns
returns c =
    let ran = run_at c.self.invariant c.self.view_is c.deref.ensures.value _ _ c.in-Some.ensures.found
    c.index_mut-machine.ensures.value (λ replies. replies.items) NoTenant (λ same. absurd cc) _ _ c.run.result
    c.requires.kept c.run.ensures.run c.run.ensures.err in
    record { ran = ran.0; no_tenant = ran.1; refused = ran.2; kept = ran.3 }
