use Rattle.wasmi_store.proofs.MemoryLemmas.{sized_refilled}
use Rattle.wasmi_store.proofs.memory.LinearMemory.data_mut.Goals as goal

pub invariant_of-self-lent : goal.invariant_of-self-lent
invariant_of-self-lent g c w = sized_refilled _ _ w c.self.invariant
