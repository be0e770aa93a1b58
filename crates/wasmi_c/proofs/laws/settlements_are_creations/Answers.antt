use Rattle.wasmi_c.proofs.Common.{creation_of, new_memory, new_table, creation_in}
use Rattle.wasmi_c.proofs.PlacementLemmas.{settled_creation}
use Rattle.wasmi_c.proofs.laws.settlements_are_creations.Goals as goal

pub returns-clause-memories : goal.returns-clause-memories
returns-clause-memories g c room ty = settled_creation _ (creation_of room ty) (new_memory room ty)

pub returns-clause-tables : goal.returns-clause-tables
returns-clause-tables g c room reference ty = settled_creation _ (creation_in ty room) (new_table ty reference)
