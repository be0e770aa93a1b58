use Rattle.wasmi_store.specs.Write.{copied}
use Rattle.wasmi_store.proofs.WriteLemmas.{memory_writes}
use Rattle.wasmi_store.proofs.memory.LinearMemory.init_metered.Goals as goal

pub returns : goal.returns
returns g c = memory_writes c.args.self.now
    (λ bytes. copied bytes c.args.dst c.args.segment.now c.args.src c.args.len) c.args.len _ c.data_mut.ensures.value
    c.copy_items.ensures.len (rw (c.from-src.ensures, c.from-len.ensures) at c.copy_items.ensures.written)
