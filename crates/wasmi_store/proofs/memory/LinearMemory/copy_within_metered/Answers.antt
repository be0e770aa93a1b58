use Rattle.std.proofs.Common.{refl}
use Rattle.wasmi_store.specs.Write.{copied}
use Rattle.wasmi_store.proofs.WriteLemmas.{memory_writes}
use Rattle.wasmi_store.proofs.memory.LinearMemory.copy_within_metered.Goals as goal

pub returns : goal.returns
returns g c = let lent = c.data_mut.ensures.value in memory_writes c.args.self.now
    (λ bytes. copied bytes c.args.dst c.args.self.now.bytes c.args.src c.args.len) c.args.len _
    refl (rw lent at c.copy_items_within.ensures.len) (rw lent at c.copy_items_within.ensures.written)
