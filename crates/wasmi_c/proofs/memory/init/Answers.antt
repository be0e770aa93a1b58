use Rattle.std.proofs.Common.{refl}
use Rattle.wasmi_c.specs.MemoryCalls.{copied_range}
use Rattle.wasmi_c.proofs.PlacementLemmas.{written_with}
use Rattle.wasmi_c.proofs.memory.init.Goals as goal

pub returns : goal.returns
returns c = written_with (copied_range c.args.bytes.now) c.args.range.now c.args.memory.now c.in-Some._ty _ _ _
    c.copy-written.new.fuel c.copy-written.result _ c.in-Some.ensures c.store_left.ensures
    (rw c.fuel-fuel.ensures at c.copy-written.ensures) c.copy-written.auto.bytes refl
    (c.leave_write.ensures.status, c.leave_write.ensures.number)
