use Rattle.std.proofs.Common.{◌≡◌, ℕ, ◌<◌, get_or}
use Rattle.wasmi_c.proofs.Common.{unary_value, RawVal}
use Rattle.wasmi_c.proofs.instruction.unary.Unary.each.Given as goal

abbrev pub invariant-loop-i : goal.invariant-loop-i
invariant-loop-i l =
    (k : ℕ) (x y : RawVal) → k < l.i
    → get_or l.values k y ≡ unary_value l.self (get_or l.a k x)
