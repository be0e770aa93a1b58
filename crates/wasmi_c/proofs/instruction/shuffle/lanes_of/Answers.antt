use Rattle.std.proofs.Common.{◌≡◌, ◌≤◌, ◌∙◌, length, get_or, arith, rules}
use Rattle.std.proofs.lemmas.Grind.{common_steps}
use Rattle.wasmi_c.proofs.InstructionLemmas.{lanes_there, no_lanes}
use Rattle.wasmi_c.proofs.instruction.shuffle.lanes_of.Goals as goal

pub returns-in_err-lanes-2 : goal.returns-in_err-lanes-2
returns-in_err-lanes-2 c =
    let long : length c.args.indices ≡ 16 = search rules in
    let past : 32 ≤ get_or c.args.indices c.loop-i.i 0 = grind arith in
    c.from_residual-in_err-lanes-2.ensures ∙ no_lanes c.args.indices c.loop-i.i (omega arith) past

pub loop-i-preserved : goal.loop-i-preserved
loop-i-preserved c = grind (arith, common_steps)

pub returns : goal.returns
returns c = lanes_there _ c.loop-i.lanes _ (search rules) c.loop-i-test.false c.loop-i.invariant
