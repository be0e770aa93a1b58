use Rattle.std.proofs.Common.{refl}
use Rattle.wasmi_budget.proofs.PoolLemmas.{is_part}
use Rattle.wasmi_budget.proofs.TenantsLemmas.{its_value, no_value, ran_at}
use Rattle.wasmi_budget.proofs.tenants.Tenants.step.Goals as goal

pub returns-in_err-place-clause-stepped : goal.returns-in_err-place-clause-stepped
returns-in_err-place-clause-stepped c = rw c.from_residual.ensures (
  no_value c.self.invariant c.self.view_is c.deref.ensures.value _ c.in_err-place.ensures.found,
  refl,
)

pub step-requires : goal.step-requires
step-requires c = record {
  part = is_part c.requires.kept c.args.index (its_value c.self.invariant c.self.view_is c.deref.ensures.value _ _
      c.in_ok-place.ensures.found c.index_mut.ensures.value);
}

pub returns : goal.returns
returns c =
    let ran = ran_at c.self.invariant c.self.view_is c.deref.ensures.value _ _ c.in_ok-place.ensures.found
    c.index_mut.ensures.value c.requires.kept c.step.ensures.run in
    record { stepped = ran.0; kept = ran.1 }
