use Rattle.std.proofs.Common.{refl}
use Rattle.wasmi_machine.proofs.StoreLemmas.{answers_at, tables_reserved, acts, acts_kept, asks_kept, alters_kept, replies}
use Rattle.wasmi_machine.proofs.Common.{live_at, Table}
use Rattle.wasmi_machine.proofs.RangeLemmas.{range_from}
use Rattle.wasmi_machine.proofs.store.MachineStore.step_table.Goals as goal

pub returns-in-NewTable : goal.returns-in-NewTable
returns-in-NewTable g c = record {
  step = answers_at _ _ _ _ c.in-NewTable.is c.self.view_is
      (asks_kept tables_reserved _ c.create.ensures.reserved refl c.create.ensures.made c.create.ensures.room);
}

pub returns-in-GrowTable : goal.returns-in-GrowTable
returns-in-GrowTable g c = record {
  step = answers_at _ _ _ _ c.in-GrowTable.is c.self.view_is
      (rw c.grow.ensures.reserved (acts _ c.grow.ensures.grown));
}

pub returns-in-DropTable : goal.returns-in-DropTable
returns-in-DropTable g c = record {
  step = answers_at _ _ _ _ c.in-DropTable.is c.self.view_is
      (alters_kept tables_reserved _ c.drop_live.ensures.reserved refl c.drop_live.ensures.dropped);
}

pub returns-in-GetElement : goal.returns-in-GetElement
returns-in-GetElement g c = record { step = rw (c.in-GetElement.is, ← c.self.view_is) (replies c.get.ensures) }

pub returns-in-SetElement : goal.returns-in-SetElement
returns-in-SetElement g c = record {
  step = answers_at _ _ _ _ c.in-SetElement.is c.self.view_is
      (alters_kept tables_reserved _ c.set.ensures.reserved refl c.set.ensures.set);
}

pub returns-in-InitTable : goal.returns-in-InitTable
returns-in-InitTable g c = record {
  step = answers_at _ _ _ _ c.in-InitTable.is c.self.view_is
      (acts_kept tables_reserved _ c.init.ensures.reserved refl (rw c.get-segment.ensures at c.init.ensures.copied));
}

pub returns-in-CopyTable : goal.returns-in-CopyTable
returns-in-CopyTable g c = record {
  step = answers_at _ _ _ _ c.in-CopyTable.is c.self.view_is
      (acts_kept tables_reserved _ c.copy.ensures.reserved refl (
        c.copy.ensures.copied.0,
        range_from Table (live_at c.self.inside.tables.slots.items c.in-CopyTable.src_table) c.in-CopyTable.dst_table _ _
            _ _ _ c.copy.ensures.copied.1,
      ));
}

pub returns-in-FillTable : goal.returns-in-FillTable
returns-in-FillTable g c = record {
  step = answers_at _ _ _ _ c.in-FillTable.is c.self.view_is
      (acts_kept tables_reserved _ c.fill.ensures.reserved refl c.fill.ensures.filled);
}
