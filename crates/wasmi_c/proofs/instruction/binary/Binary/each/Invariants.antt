use Rattle.std.proofs.Common.{◌≡◌, ℕ, ◌<◌, get_or}
use Rattle.wasmi_c.proofs.Common.{binary_outcome, RawVal}
use Rattle.wasmi_c.specs.declared.instruction.result.InstructionResult.{InstructionResult}
use Rattle.wasmi_c.proofs.instruction.binary.Binary.each.Given as goal

abbrev pub invariant-loop-i : goal.invariant-loop-i
invariant-loop-i l =
    (k : ℕ) (x y : RawVal) (z : InstructionResult) → k < l.i
    → get_or l.results k z ≡ binary_outcome l.self (get_or l.a k x) (get_or l.b k y)
