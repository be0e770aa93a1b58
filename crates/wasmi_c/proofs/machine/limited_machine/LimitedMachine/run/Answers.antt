use Rattle.wasmi_c.proofs.MachineLemmas.{kept_by_run}
use Rattle.wasmi_c.proofs.machine.limited_machine.LimitedMachine.run.Goals as goal

pub invariant_of-self : goal.invariant_of-self
invariant_of-self c =
    (kept_by_run c.quotas_are_kept.ensures c.args.self.now _ _ _ _ c.self.view_is c.self.invariant c.args.calls.now
    c.run_lending.result c.run_lending.ensures.run c.run_lending.ensures.err).0

pub returns-clause-caps : goal.returns-clause-caps
returns-clause-caps c =
    (kept_by_run c.quotas_are_kept.ensures c.args.self.now _ _ _ _ c.self.view_is c.self.invariant c.args.calls.now
    c.run_lending.result c.run_lending.ensures.run c.run_lending.ensures.err).1
