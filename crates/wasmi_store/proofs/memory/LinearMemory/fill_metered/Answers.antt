use Rattle.wasmi_store.specs.Write.{filled}
use Rattle.wasmi_store.proofs.WriteLemmas.{memory_writes}
use Rattle.wasmi_store.proofs.memory.LinearMemory.fill_metered.Goals as goal

pub returns : goal.returns
returns g c = memory_writes c.args.self.now (λ bytes. filled bytes c.args.dst c.args.value c.args.len) c.args.len _
    c.data_mut.ensures.value c.fill_items.ensures.len c.fill_items.ensures.written
