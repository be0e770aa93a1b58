use Rattle.std.proofs.Common.{refl}
use Rattle.wasmi_c.specs.MemoryCalls.{filled_range}
use Rattle.wasmi_c.proofs.PlacementLemmas.{written_with}
use Rattle.wasmi_c.proofs.memory.fill.Goals as goal

pub returns : goal.returns
returns c = written_with (filled_range c.args.value) c.args.range.now c.args.memory.now c.in-Some._ty _ _ _
    c.fill-written.new.fuel c.fill-written.result _ c.in-Some.ensures c.store_left.ensures
    (rw c.fuel-fuel.ensures at c.fill-written.ensures) c.fill-written.auto.bytes refl
    (c.leave_write.ensures.status, c.leave_write.ensures.number)
