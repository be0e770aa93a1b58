use Rattle.wasmi_c.proofs.MachineLemmas.{kept_by_call}
use Rattle.wasmi_c.proofs.machine.limited_machine.LimitedMachine.reply.Goals as goal

pub invariant_of-self : goal.invariant_of-self
invariant_of-self c =
    (kept_by_call c.quotas_are_kept.ensures c.args.self.now _ _ _ _ c.self.view_is c.self.invariant _ _
    c.step_lending.ensures.step).0

pub returns-clause-step : goal.returns-clause-step
returns-clause-step c = rw (← c.self.view_is) c.step_lending.ensures.step

pub returns-clause-caps : goal.returns-clause-caps
returns-clause-caps c =
    (kept_by_call c.quotas_are_kept.ensures c.args.self.now _ _ _ _ c.self.view_is c.self.invariant _ _
    c.step_lending.ensures.step).1
