use Rattle.wasmi_c.proofs.InstructionLemmas.{AreLanes}
use Rattle.wasmi_c.proofs.instruction.shuffle.lanes_of.Given as goal

abbrev pub invariant-loop-i : goal.invariant-loop-i
invariant-loop-i l = AreLanes l.indices l.lanes l.i
