use Rattle.std.proofs.Common.{refl}
use Rattle.wasmi_c.specs.MemoryCalls.{copied_range}
use Rattle.wasmi_c.proofs.PlacementLemmas.{written_with}
use Rattle.wasmi_c.proofs.memory.copy_within.Goals as goal

pub returns : goal.returns
returns c = written_with (λ r bytes. copied_range bytes r bytes) c.args.range.now c.args.memory.now c.in-Some._ty _ _ _
    c.copy_within-written.new.fuel c.copy_within-written.result _ c.in-Some.ensures c.store_left.ensures
    (rw c.fuel-fuel.ensures at c.copy_within-written.ensures) c.copy_within-written.auto.bytes refl
    (c.leave_write.ensures.status, c.leave_write.ensures.number)
