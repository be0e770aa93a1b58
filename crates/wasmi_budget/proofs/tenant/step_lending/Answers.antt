use Rattle.wasmi_budget.proofs.tenant.step_lending.Goals as goal

pub returns-in-GrowMemory : goal.returns-in-GrowMemory
returns-in-GrowMemory c = rw c.in-GrowMemory.is c.grow_memory_lending.ensures.step
