use Rattle.std.proofs.Common.{◌≡◌, ℕ, ◌<◌, get_or}
use Rattle.wasmi_c.proofs.Common.{replaced_value, RawVal}
use Rattle.wasmi_c.proofs.instruction.lanes.replace_each_by_op.Given as goal

abbrev pub invariant-loop-i : goal.invariant-loop-i
invariant-loop-i l =
    (k : ℕ) (x y z : RawVal) → k < l.i
    → get_or l.values k z ≡ replaced_value l.fn.op (get_or l.a k x) (get_or l.items k y)
