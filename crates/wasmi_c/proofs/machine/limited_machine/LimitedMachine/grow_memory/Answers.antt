use Rattle.wasmi_machine.specs.declared.calls.Call.TheVariants.{GrowMemory}
use Rattle.wasmi_c.proofs.MachineLemmas.{kept_by_call}
use Rattle.wasmi_c.proofs.machine.limited_machine.LimitedMachine.grow_memory.Goals as goal

pub invariant_of-self : goal.invariant_of-self
invariant_of-self c =
    (kept_by_call c.quotas_are_kept.ensures c.args.self.now _ _ _ _ c.self.view_is c.self.invariant
    (GrowMemory c.args.memory c.args.pages) _ c.grow_memory_lending.ensures.step).0

pub returns-clause-step : goal.returns-clause-step
returns-clause-step c = rw (← c.self.view_is) c.grow_memory_lending.ensures.step

pub returns-clause-caps : goal.returns-clause-caps
returns-clause-caps c =
    (kept_by_call c.quotas_are_kept.ensures c.args.self.now _ _ _ _ c.self.view_is c.self.invariant
    (GrowMemory c.args.memory c.args.pages) _ c.grow_memory_lending.ensures.step).1
