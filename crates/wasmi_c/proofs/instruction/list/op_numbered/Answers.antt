use Rattle.std.proofs.Common.{arith}
use Rattle.std.proofs.lemmas.Grind.{common_steps}
use Rattle.wasmi_c.specs.Instruction.{op_numbered}
use Rattle.wasmi_c.proofs.InstructionLemmas.{places}
use Rattle.wasmi_c.proofs.instruction.list.op_numbered.Goals as goal

pub returns : goal.returns
unfolding op_numbered
returns c c' = grind (arith, common_steps, places)
