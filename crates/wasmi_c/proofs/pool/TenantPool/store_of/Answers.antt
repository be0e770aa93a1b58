use Rattle.std.proofs.Common.{◌∙◌, sym}
use Rattle.wasmi_c.proofs.Common.{Store}
use Rattle.wasmi_raw.specs.RawVal.{raw_of}
use Rattle.wasmi_c.proofs.TenantLemmas.{tenant_status}
use Rattle.wasmi_c.proofs.pool.TenantPool.store_of.Goals as goal

pub returns-clause-step : goal.returns-clause-step
returns-clause-step c =
    rw (sym c.item_store_numbered.ensures ∙ c.in-Some.is)
    (tenant_status c.args.tenant (Store c.in-Some.op c.args.memory c.args.ptr c.args.offset (raw_of c.args.value))
    c.store_reply.result c.args.self.now c.store_reply.new.self c.store_reply.ensures.step)
