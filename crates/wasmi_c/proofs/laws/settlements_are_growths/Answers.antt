use Rattle.wasmi_c.proofs.Common.{region_growth}
use Rattle.wasmi_store.specs.Memory.{memory_growth}
use Rattle.wasmi_c.proofs.PlacementLemmas.{settled_growth}
use Rattle.wasmi_c.proofs.laws.settlements_are_growths.Goals as goal

pub returns-clause-memories : goal.returns-clause-memories
returns-clause-memories g c pages x = settled_growth _ (memory_growth pages x) x

pub returns-clause-tables : goal.returns-clause-tables
returns-clause-tables g c room n reference x = settled_growth _ (region_growth room n reference x) x
