use Rattle.std.proofs.Common.{refl, arith}
use Rattle.std.proofs.lemmas.List.Sums.{sum_by_more, sum-map}
use Rattle.std.proofs.lemmas.List.{take_all}
use Rattle.wasmi_machine.proofs.Common.{slot_count}
use Rattle.wasmi_machine.proofs.slots.Slots.total.Goals as goal

pub loop-slot-preserved : goal.loop-slot-preserved
loop-slot-preserved g c =
    let below = rw c.as_slice-slot-items.ensures at c.loop-slot-test.true in
    let here = rw c.as_slice-slot-items.ensures at c.slot-item.is in
    let more = sum_by_more (slot_count g.T.Counted.count) _ _ c.slot-item.result below in
    record {
      is = rw (more, ← here, ← c.count.ensures, ← c.loop-slot.invariant.is) refl;
      small = omega (arith, c.loop-slot.invariant.small, c.count.type_inv);
    }

pub returns : goal.returns
returns g c =
    let below = rw c.as_slice-slot-items.ensures at c.loop-slot-test.false in
    rw (sum-map, c.loop-slot.invariant.is, take_all c.loop-slot.slot-index c.args.self.now.slots.items below) refl
