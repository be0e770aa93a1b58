use Rattle.wasmi_law_tests.proofs.Common.{optional_rules}
use Rattle.wasmi_law_tests.proofs.RunsLemmas.{if_ok_too, stays_valid}
use Rattle.wasmi_law_tests.proofs.runs.run_valid.Goals as goal

pub returns-clause-turns : goal.returns-clause-turns
returns-clause-turns g c =
    if_ok_too c.run_lending.result c.run_lending.ensures.run (λ replies ran. (
      ran.0,
      record { calls_of = ran.1; replies_of = ran.2 },
      stays_valid (optional_rules g.L.ResourceLimiter.rules) c.runs_keep_validity.ensures _ ran.0 _
          c.states_are_valid.ensures (rw ran.1 c.requires.valid) ran.3,
    ))

pub returns-clause-after : goal.returns-clause-after
returns-clause-after g c =
    if_ok_too c.run_lending.result c.run_lending.ensures.run (λ replies ran.
    c.runs_keep_validity.ensures _ ran.0 _ c.states_are_valid.ensures (rw ran.1 c.requires.valid) ran.3)
