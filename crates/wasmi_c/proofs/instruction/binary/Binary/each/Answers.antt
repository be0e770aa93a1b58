use Rattle.std.proofs.Common.{arith}
use Rattle.std.proofs.lemmas.Grind.{common_steps}
use Rattle.wasmi_c.proofs.Common.{binary_outcome}
use Rattle.wasmi_c.proofs.InstructionLemmas.{arrays, each_two_written}
use Rattle.wasmi_c.proofs.instruction.binary.Binary.each.Goals as goal

pub loop-i-preserved : goal.loop-i-preserved
unfolding binary_outcome
loop-i-preserved c = λ k x y z below. grind (arith, common_steps, arrays, c.loop-i.invariant k x y z)

pub returns : goal.returns
returns c =
    each_two_written (binary_outcome c.args.self) c.args.a.now c.args.b.now c.args.results.now c.loop-i.results
    c.if-b-a.false c.if-results-a.false c.loop-i.auto.results
    (λ k x y z below. c.loop-i.invariant k x y z (omega arith))
