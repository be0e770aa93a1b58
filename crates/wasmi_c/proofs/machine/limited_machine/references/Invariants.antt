use Rattle.std.proofs.Common.{◌≡◌, ◌≤◌, length, take, vec_len}
use Rattle.std.specs.Vec.{vec_capacity}
use Rattle.wasmi_c.proofs.machine.limited_machine.references.Given as goal

-- the references so far are copied, and there is room for the rest
abbrev pub invariant-loop-item : goal.invariant-loop-item
invariant-loop-item l = record {
  copied : l.copy.items ≡ take l.item-index l.items;
  count : vec_len l.copy ≡ l.item-index;
  room : length l.items ≤ vec_capacity l.copy;
}
