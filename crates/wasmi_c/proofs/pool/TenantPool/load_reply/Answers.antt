use Rattle.std.proofs.Common.{rules}
use Rattle.wasmi_c.proofs.Common.{Load}
use Rattle.wasmi_c.proofs.TenantLemmas.{struct_in_place}
use Rattle.wasmi_c.proofs.pool.TenantPool.load_reply.Goals as goal

pub returns-in-Some : goal.returns-in-Some
returns-in-Some c =
    struct_in_place c.args.self.now c.args.tenant c.in-Some.machine.now (search rules)
    (Load c.args.op c.args.memory c.args.ptr c.args.offset) c.load_item.result c.load_item.ensures c.from_common.result
    c.from_common.ensures
