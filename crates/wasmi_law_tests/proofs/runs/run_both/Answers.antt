use Rattle.wasmi_law_tests.proofs.RunsLemmas.{if_ok_too}
use Rattle.wasmi_law_tests.proofs.runs.run_both.Goals as goal

pub returns-clause-calls : goal.returns-clause-calls
returns-clause-calls g c =
    if_ok_too c.run_lending-first.result c.run_lending-first.ensures.run (λ first ran.
    if_ok_too c.run_lending-second.result c.run_lending-second.ensures.run (λ second after.
    c.runs_join.ensures.calls c.args.calls.now c.args.more.now _ _ _ first.items second.items ran after))

pub returns-clause-turns : goal.returns-clause-turns
returns-clause-turns g c =
    if_ok_too c.run_lending-first.result c.run_lending-first.ensures.run (λ replies first.
    if_ok_too c.run_lending-second.result c.run_lending-second.ensures.run (λ replies' second. (
      first.0,
      second.0,
      record { calls_of = first.1; replies_of = first.2 },
      record { calls_of = second.1; replies_of = second.2 },
      c.runs_join.ensures.turns _ first.0 _ second.0 _ first.3 second.3,
    )))
