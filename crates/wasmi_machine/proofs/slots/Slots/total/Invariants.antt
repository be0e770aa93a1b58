use Rattle.std.proofs.Common.{◌≡◌, ◌≤◌, ◌*◌, ◌^◌, ◌-◌, ℕ, take}
use Rattle.wasmi_machine.proofs.Common.{sum_by, slot_count}
use Rattle.wasmi_machine.proofs.slots.Slots.total.Given as goal

-- the sum so far, and that it fits
pub record SumSoFar (total sum index : ℕ) : Type 0 where
  pub is : total ≡ sum
  pub small : total ≤ index * (2 ^ 64 - 1)

abbrev pub invariant-loop-slot : goal.invariant-loop-slot
invariant-loop-slot g l =
    SumSoFar l.total (sum_by (slot_count g.T.Counted.count) (take l.slot-index l.self.slots.items)) l.slot-index
