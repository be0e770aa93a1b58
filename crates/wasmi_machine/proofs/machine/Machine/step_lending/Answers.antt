use Rattle.std.proofs.Common.{Some}
use Rattle.wasmi_machine.proofs.Common.{optional_rules, world}
use Rattle.wasmi_machine.proofs.ValidityLemmas.{answer_is_valid}
use Rattle.wasmi_machine.proofs.machine.Machine.step_lending.Goals as goal

pub invariant_of-self : goal.invariant_of-self
invariant_of-self g c = answer_is_valid (optional_rules g.L.ResourceLimiter.rules) c.args.call.now
    (world c.self.inside.store (Some c.args.limiter.now)) c.step.result
    (world c.step.new.self (Some c.step.new.limiter)) c.tell_valid.ensures c.self.invariant c.step.ensures

pub returns-clause-step : goal.returns-clause-step
returns-clause-step g c = rw (← c.self.view_is) c.step.ensures

pub returns-clause-valid : goal.returns-clause-valid
returns-clause-valid g c = invariant_of-self g c
