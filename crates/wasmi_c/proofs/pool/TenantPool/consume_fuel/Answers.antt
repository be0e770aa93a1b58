use Rattle.std.proofs.Common.{rules}
use Rattle.wasmi_c.proofs.TenantLemmas.{tenant_pays}
use Rattle.wasmi_c.proofs.pool.TenantPool.consume_fuel.Goals as goal

pub returns-in-Ok-step-clause-step : goal.returns-in-Ok-step-clause-step
returns-in-Ok-step-clause-step c =
    tenant_pays c.args.self.now c.args.tenant c.in-Some.machine.now (search rules) c.args.amount c.with_number.result
    c.step.new.self c.in-Ok.left c.in-Ok.ensures c.with_number.ensures c.in-Ok-step.field-0
    (rw (← c.self.view_is) c.in-Ok-step.ensures.ran)
