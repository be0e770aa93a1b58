use Rattle.std.proofs.Common.{refl}
use Rattle.wasmi_machine.specs.State.{live_at}
use Rattle.wasmi_machine.proofs.RangeLemmas.{range_of_bytes}
use Rattle.wasmi_machine.proofs.StoreLemmas.{answers_at, memories_reserved, acts_kept, asks_kept, alters_kept, replies}
use Rattle.wasmi_machine.proofs.store.MachineStore.step_memory.Goals as goal

pub returns-in-NewMemory : goal.returns-in-NewMemory
returns-in-NewMemory g c = record {
  step = answers_at _ _ _ _ c.in-NewMemory.is c.self.view_is
      (asks_kept memories_reserved _ c.create.ensures.reserved refl c.create.ensures.made c.create.ensures.room);
}

pub returns-in-NewLentMemory : goal.returns-in-NewLentMemory
returns-in-NewLentMemory g c = record {
  step = answers_at _ _ _ _ c.in-NewLentMemory.is c.self-in-NewLentMemory.view_is
      (asks_kept memories_reserved _ c.create_lent.ensures.reserved refl c.create_lent.ensures.made
      c.create_lent.ensures.room);
}

pub returns-in-GrowMemory : goal.returns-in-GrowMemory
returns-in-GrowMemory g c = record { step = answers_at _ _ _ _ c.in-GrowMemory.is refl c.grow_memory.ensures }

pub returns-in-DropMemory : goal.returns-in-DropMemory
returns-in-DropMemory g c = record {
  step = answers_at _ _ _ _ c.in-DropMemory.is c.self-in-DropMemory.view_is
      (alters_kept memories_reserved _ c.drop_live.ensures.reserved refl c.drop_live.ensures.dropped);
}

pub returns-in-Read : goal.returns-in-Read
returns-in-Read g c = record { step = rw (c.in-Read.is, ← c.self-in-Read.view_is) (replies c.read.ensures) }

pub returns-in-Write : goal.returns-in-Write
returns-in-Write g c = record {
  step = answers_at _ _ _ _ c.in-Write.is c.self-in-Write.view_is
      (alters_kept memories_reserved _ c.write.ensures.reserved refl
      (rw c.deref.ensures.value at c.write.ensures.written));
}

pub returns-in-Load : goal.returns-in-Load
returns-in-Load g c = record { step = rw (c.in-Load.is, ← c.self-in-Load.view_is) (replies c.load.ensures) }

pub returns-in-Store : goal.returns-in-Store
returns-in-Store g c = record {
  step = answers_at _ _ _ _ c.in-Store.is c.self-in-Store.view_is
      (alters_kept memories_reserved _ c.store.ensures.reserved refl c.store.ensures.stored);
}

pub returns-in-FillMemory : goal.returns-in-FillMemory
returns-in-FillMemory g c = record {
  step = answers_at _ _ _ _ c.in-FillMemory.is c.self-in-FillMemory.view_is
      (acts_kept memories_reserved _ c.fill.ensures.reserved refl c.fill.ensures.filled);
}

pub returns-in-CopyMemory : goal.returns-in-CopyMemory
returns-in-CopyMemory g c = record {
  step = answers_at _ _ _ _ c.in-CopyMemory.is c.self-in-CopyMemory.view_is
      (acts_kept memories_reserved _ c.copy.ensures.reserved refl (
        c.copy.ensures.copied.0,
        range_of_bytes (live_at c.self-in-CopyMemory.inside.memories.slots.items c.in-CopyMemory.src_memory)
            c.in-CopyMemory.dst_memory c.in-CopyMemory.dst c.in-CopyMemory.src c.in-CopyMemory.len _ _ _ _
            c.copy.ensures.copied.1,
      ));
}

pub returns-in-InitMemory : goal.returns-in-InitMemory
returns-in-InitMemory g c = record {
  step = answers_at _ _ _ _ c.in-InitMemory.is c.self-in-InitMemory.view_is
      (acts_kept memories_reserved _ c.init.ensures.reserved refl
      (rw c.get-segment.ensures at c.init.ensures.copied));
}
