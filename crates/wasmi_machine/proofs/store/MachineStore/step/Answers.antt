use Rattle.std.proofs.Common.{Some, rules}
use Rattle.wasmi_machine.proofs.StoreLemmas.{changes, alters, replies}
use Rattle.wasmi_machine.proofs.store.MachineStore.step.Goals as goal

pub returns-in-SetFuel : goal.returns-in-SetFuel
returns-in-SetFuel g c = rw (c.in-SetFuel.is, ← c.self.view_is) (changes (search rules))

pub returns-in-GetFuel : goal.returns-in-GetFuel
returns-in-GetFuel g c = rw c.in-GetFuel.is (replies (search rules))

pub returns-in-NewSegment : goal.returns-in-NewSegment
returns-in-NewSegment g c =
    rw (c.in-NewSegment.is, ← c.self-in-NewSegment.view_is, c.create_segment.ensures.reserved)
    (alters _ (rw c.deref.ensures.value at c.create_segment.ensures.made))

pub returns-in-DropItems : goal.returns-in-DropItems
returns-in-DropItems g c =
    rw (c.in-DropItems.is, ← c.self-in-DropItems.view_is, c.drop_items.ensures.reserved)
    (alters _ c.drop_items.ensures.dropped)

pub returns-in-NewData : goal.returns-in-NewData
returns-in-NewData g c =
    rw (c.in-NewData.is, ← c.self-in-NewData.view_is, c.create_data.ensures.reserved)
    (alters _ (rw c.deref-in-NewData.ensures.value at c.create_data.ensures.made))

pub returns-in-DropData : goal.returns-in-DropData
returns-in-DropData g c =
    rw (c.in-DropData.is, ← c.self-in-DropData.view_is, c.drop_data.ensures.reserved)
    (alters _ c.drop_data.ensures.dropped)

pub returns-in-NewGlobal : goal.returns-in-NewGlobal
returns-in-NewGlobal g c =
    rw (c.in-NewGlobal.is, ← c.self-in-NewGlobal.view_is, c.create_global.ensures.reserved)
    (alters _ c.create_global.ensures.made)

pub returns-in-SetGlobal : goal.returns-in-SetGlobal
returns-in-SetGlobal g c =
    rw (c.in-SetGlobal.is, ← c.self-in-SetGlobal.view_is, c.set_global.ensures.reserved)
    (alters _ c.set_global.ensures.set)

pub returns-in-GetGlobal : goal.returns-in-GetGlobal
returns-in-GetGlobal g c = rw (c.in-GetGlobal.is, ← c.self-in-GetGlobal.view_is)
    (replies (rw c.as_slice.ensures at c.get_global.ensures))

pub returns-in-VectorLoad : goal.returns-in-VectorLoad
returns-in-VectorLoad g c =
    (0, 0, rw c.unwrap_or-in-VectorLoad.ensures (c.step_vector_access.ensures.step (Some c.args.limiter.now)))

pub returns-in_default : goal.returns-in_default
returns-in_default g c =
    (0, 0, rw c.unwrap_or.ensures (c.step_register.ensures.step (Some c.args.limiter.now)))

pub returns-in-NewTable : goal.returns-in-NewTable
returns-in-NewTable g c = rw c.unwrap_or-in-NewTable.ensures c.step_table.ensures.step

pub returns-in-NewMemory : goal.returns-in-NewMemory
returns-in-NewMemory g c = rw c.unwrap_or-in-NewMemory.ensures c.step_memory.ensures.step
