use Rattle.std.proofs.Common.{◌∙◌, sym}
use Rattle.wasmi_c.proofs.Common.{Binary}
use Rattle.wasmi_c.proofs.TenantLemmas.{tenant_status}
use Rattle.wasmi_c.proofs.pool.TenantPool.binary.Goals as goal

pub returns-clause-step : goal.returns-clause-step
returns-clause-step c =
    rw (sym c.vector_binary_numbered.ensures ∙ c.in-Some.is)
    (tenant_status c.args.tenant (Binary c.in-Some.op c.args.dst c.args.a c.args.b) c.reply.result c.args.self.now
    c.reply.new.self c.reply.ensures.step)
