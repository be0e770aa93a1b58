use Rattle.std.proofs.Common.{refl}
use Rattle.wasmi_law_tests.proofs.RunsLemmas.{same_parts, turn_with}
use Rattle.wasmi_law_tests.proofs.runs.call_refused.Goals as goal

pub returns-clause-contents : goal.returns-clause-contents
returns-clause-contents g c =
    λ refused. (c.refusals_keep_contents.ensures.turn _ _ _ c.step_lending.ensures.step.2 refused).contents

pub returns-clause-spare : goal.returns-clause-spare
returns-clause-spare g c =
    λ refused. (c.refusals_keep_contents.ensures.turn _ _ _ c.step_lending.ensures.step.2 refused).spare

pub returns-clause-meter : goal.returns-clause-meter
returns-clause-meter g c =
    let step = c.step_lending.ensures.step in
    λ refused. (
      turn_with c.args.call.now c.step_lending.result step.0 step.1,
      record { calls_of = refl; replies_of = refl },
      step.2,
      (c.refusals_keep_contents.ensures.turn _ _ _ step.2 refused).meter,
    )

pub returns-clause-machine : goal.returns-clause-machine
returns-clause-machine g c =
    λ plain. (same_parts (c.plain_refusals_change_nothing.ensures.turn _ _ _ c.step_lending.ensures.step.2 plain)).0

pub returns-clause-limiter : goal.returns-clause-limiter
returns-clause-limiter g c =
    λ plain. (same_parts (c.plain_refusals_change_nothing.ensures.turn _ _ _ c.step_lending.ensures.step.2 plain)).1

pub returns-clause-others : goal.returns-clause-others
returns-clause-others g c =
    λ nowhere refused. same_parts
    (c.plain_refusals_change_nothing.ensures.others _ _ _ c.step_lending.ensures.step.2 nowhere refused)
