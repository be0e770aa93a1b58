use Rattle.std.proofs.Common.{refl}
use Rattle.wasmi_budget.proofs.TenantsLemmas.{becomes_at, no_value}
use Rattle.wasmi_budget.proofs.tenants.Tenants.write.Goals as goal

pub returns-in_err-place : goal.returns-in_err-place
returns-in_err-place c = record {
  stepped = rw c.from_residual.ensures (
    no_value c.self.invariant c.self.view_is c.deref.ensures.value _ c.in_err-place.ensures.found,
    refl,
  );
}

pub returns : goal.returns
returns c =
    let written = c.write.ensures.replied in
    record {
      stepped = (
        written.0,
        written.1,
        becomes_at c.self.invariant c.self.view_is c.deref.ensures.value _ _ c.in_ok-place.ensures.found
            c.index_mut.ensures.value _ _ written.2,
      );
    }
