use Rattle.std.proofs.Common.{arith}
use Rattle.std.proofs.lemmas.Grind.{common_steps}
use Rattle.wasmi_c.proofs.Common.{ternary_value}
use Rattle.wasmi_c.proofs.InstructionLemmas.{arrays, each_three_written}
use Rattle.wasmi_c.proofs.instruction.ternary.each.Goals as goal

pub loop-i-preserved : goal.loop-i-preserved
loop-i-preserved c = λ k x y z u below. grind (arith, common_steps, arrays, c.loop-i.invariant k x y z u)

pub returns : goal.returns
returns c =
    each_three_written (ternary_value c.args.op) c.args.a.now c.args.b.now c.args.c.now c.args.values.now c.loop-i.values
    c.if-b-a.false c.if-c-a.false c.if-values-a.false c.loop-i.auto.values
    (λ k x y z u below. c.loop-i.invariant k x y z u (omega arith))
