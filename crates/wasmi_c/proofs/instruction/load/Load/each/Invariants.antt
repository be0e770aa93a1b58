use Rattle.std.proofs.Common.{◌≡◌, ℕ, ◌<◌, get_or}
use Rattle.wasmi_c.specs.Instruction.{load_outcome}
use Rattle.wasmi_c.specs.declared.instruction.result.InstructionResult.{InstructionResult}
use Rattle.wasmi_c.proofs.instruction.load.Load.each.Given as goal

abbrev pub invariant-loop-i : goal.invariant-loop-i
invariant-loop-i l =
    (k : ℕ) (x : ℕ) (y : InstructionResult) → k < l.i
    → get_or l.results k y ≡ load_outcome l.self l.memory l.offset (get_or l.ptrs k x)
