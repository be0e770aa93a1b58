use Rattle.std.proofs.Common.{◌∙◌, rules, sym}
use Rattle.wasmi_c.proofs.Common.{Load}
use Rattle.wasmi_c.proofs.TenantLemmas.{word_in_place}
use Rattle.wasmi_c.proofs.pool.TenantPool.load_of.Goals as goal

pub returns-in-Some-machine : goal.returns-in-Some-machine
returns-in-Some-machine c =
    rw (sym c.item_load_numbered.ensures ∙ c.in-Some.is)
    (word_in_place c.args.self.now c.args.tenant c.in-Some-machine.machine.now (search rules)
    (Load c.in-Some.op c.args.memory c.args.ptr c.args.offset) c.load_item.result c.load_item.ensures c.args.value.now
    (c.leave.result, c.leave.new.word) c.leave.ensures.status c.leave.ensures.word)
