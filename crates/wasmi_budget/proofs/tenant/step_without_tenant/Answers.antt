use Rattle.wasmi_machine.proofs.StoreLemmas.{changes}
use Rattle.wasmi_budget.proofs.TenantLemmas.{replies_unasked}
use Rattle.wasmi_budget.proofs.tenant.step_without_tenant.Goals as goal

pub returns-in-Store : goal.returns-in-Store
returns-in-Store c = record {
  replied =
      let stored = c.store_item.new.self in
      rw c.in-Store.is (λ tenant. changes (record {
        part = stored.memories;
        effect = c.store_item.ensures.memories;
        after = c.store_item.ensures.rest;
      }));
}

pub returns-in_default : goal.returns-in_default
returns-in_default c = record {
  replied = replies_unasked c.args.call.now c.requires.unasked c.args.machine.now c.step.result c.step.new.self _ _
      c.step.ensures.step;
}
