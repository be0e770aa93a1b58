use Rattle.std.proofs.Common.{Some}
use Rattle.wasmi_machine.proofs.Common.{optional_rules, world, reply_or_no_such, GrowMemory}
use Rattle.wasmi_machine.proofs.ValidityLemmas.{answer_is_valid}
use Rattle.wasmi_machine.proofs.machine.Machine.grow_memory_lending.Goals as goal

pub invariant_of-self : goal.invariant_of-self
invariant_of-self g c =
    answer_is_valid (optional_rules g.L.ResourceLimiter.rules) (GrowMemory c.args.memory c.args.pages)
    (world c.self.inside.store (Some c.args.limiter.now)) (reply_or_no_such c.grow_memory-reply.result)
    (world c.grow_memory-reply.new.self (Some c.grow_memory-reply.new.limiter)) tt c.self.invariant
    c.grow_memory-reply.ensures

pub returns-clause-step : goal.returns-clause-step
returns-clause-step g c = rw (← c.self.view_is, c.unwrap_or.ensures) c.grow_memory-reply.ensures

pub returns-clause-valid : goal.returns-clause-valid
returns-clause-valid g c = invariant_of-self g c
