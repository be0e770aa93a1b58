use Rattle.std.proofs.Common.{rules}
use Rattle.wasmi_c.proofs.Common.{GrowMemory}
use Rattle.wasmi_c.proofs.TenantLemmas.{word_in_place}
use Rattle.wasmi_c.proofs.pool.TenantPool.grow_by_none.Goals as goal

pub returns-in-Some : goal.returns-in-Some
returns-in-Some c =
    word_in_place c.args.self.now c.args.tenant c.in-Some.machine.now (search rules) (GrowMemory c.args.memory 0)
    c.size_reply.result c.size_reply.ensures c.args.number.now (c.leave.result, c.leave.new.word)
    c.leave.ensures.status c.leave.ensures.word
