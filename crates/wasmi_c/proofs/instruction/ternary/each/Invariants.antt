use Rattle.std.proofs.Common.{◌≡◌, ℕ, ◌<◌, get_or}
use Rattle.wasmi_c.proofs.Common.{ternary_value, RawVal}
use Rattle.wasmi_c.proofs.instruction.ternary.each.Given as goal

abbrev pub invariant-loop-i : goal.invariant-loop-i
invariant-loop-i l =
    (k : ℕ) (x y z u : RawVal) → k < l.i
    → get_or l.values k u ≡ ternary_value l.op (get_or l.a k x) (get_or l.b k y) (get_or l.c k z)
