use Rattle.wasmi_law_tests.proofs.RunsLemmas.{if_ok_too, same_parts}
use Rattle.wasmi_law_tests.proofs.runs.run_refused.Goals as goal

pub returns-clause-turns : goal.returns-clause-turns
returns-clause-turns g c =
    if_ok_too c.run_lending.result c.run_lending.ensures.run (λ replies ran.
    (ran.0, record { calls_of = ran.1; replies_of = ran.2 }, c.refusals_keep_contents.ensures.run _ ran.0 _ ran.3))

pub returns-clause-all : goal.returns-clause-all
returns-clause-all g c =
    if_ok_too c.run_lending.result c.run_lending.ensures.run (λ replies ran refused.
    c.refusals_keep_contents.ensures.all_refused _ ran.0 _ ran.3 (rw ran.2 refused))

pub returns-clause-plain : goal.returns-clause-plain
returns-clause-plain g c =
    if_ok_too c.run_lending.result c.run_lending.ensures.run (λ replies ran plain.
    same_parts (c.plain_refusals_change_nothing.ensures.run _ ran.0 _ ran.3 (rw ran.2 plain)))
