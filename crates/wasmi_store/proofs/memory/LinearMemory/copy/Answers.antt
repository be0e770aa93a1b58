use Rattle.wasmi_store.proofs.WriteLemmas.{writes_unmetered}
use Rattle.wasmi_store.proofs.memory.LinearMemory.copy.Goals as goal

pub returns-in-Some : goal.returns-in-Some
returns-in-Some g c = rw c.in-Some.is c.copy_metered.ensures

pub returns-in-None : goal.returns-in-None
returns-in-None g c = rw c.in-None.is
    (writes_unmetered _ _ _ _ _ _ (rw c.unmetered-off.ensures at c.copy_metered-in-None.ensures))
