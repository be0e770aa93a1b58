use Rattle.std.proofs.Common.{rules}
use Rattle.wasmi_c.proofs.Common.{GetFuel}
use Rattle.wasmi_c.proofs.TenantLemmas.{word_in_place}
use Rattle.wasmi_c.proofs.pool.TenantPool.fuel_left.Goals as goal

pub returns-in-Some : goal.returns-in-Some
returns-in-Some c =
    word_in_place c.args.self.now c.args.tenant c.in-Some.machine.now (search rules) GetFuel c.fuel_reply.result
    c.fuel_reply.ensures c.args.left.now (c.leave.result, c.leave.new.word) c.leave.ensures.status c.leave.ensures.word
