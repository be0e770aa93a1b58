use Rattle.wasmi_region.proofs.memory.grow.Goals as goal

pub returns-clause-grown : goal.returns-clause-grown
returns-clause-grown g c = rw c.fill_range.ensures.filled c.in_ok-old_pages.ensures.grown
