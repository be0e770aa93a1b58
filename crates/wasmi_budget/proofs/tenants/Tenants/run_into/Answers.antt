use Rattle.std.proofs.Common.{refl}
use Rattle.wasmi_budget.specs.declared.error.RunIntoError.TheVariants.{NoTenant}
use Rattle.wasmi_budget.proofs.PoolLemmas.{is_part}
use Rattle.wasmi_budget.proofs.TenantsLemmas.{its_value, no_value, on_err_both, run_at}
use Rattle.wasmi_budget.proofs.tenants.Tenants.run_into.Goals as goal

pub returns-in_default-clause-no_tenant : goal.returns-in_default-clause-no_tenant
returns-in_default-clause-no_tenant c = (
  λ _. no_value c.self.invariant c.self.view_is c.deref.ensures.value _ c.in_default.ensures.found,
  λ _. refl,
)

pub run_into-requires : goal.run_into-requires
run_into-requires c = record {
  part = is_part c.requires.kept c.args.index (its_value c.self.invariant c.self.view_is c.deref.ensures.value _ _
      c.in-Some.ensures.found c.index_mut-counted.ensures.value);
}

pub returns : goal.returns
returns c =
    let ran = run_at c.self.invariant c.self.view_is c.deref.ensures.value _ _ c.in-Some.ensures.found
    c.index_mut-counted.ensures.value (λ _. c.run_into.new.replies.items) NoTenant (λ same. absurd cc) _ _
    c.run_into.result c.requires.kept c.run_into.ensures.run c.run_into.ensures.err in
    record {
      ran = ran.0;
      no_tenant = ran.1;
      too_many = c.run_into.ensures.too_many;
      accepted = c.run_into.ensures.accepted;
      refused = on_err_both _ _ _ ran.2 c.run_into.ensures.same;
      capacity = c.run_into.ensures.capacity;
      kept = ran.3;
    }
