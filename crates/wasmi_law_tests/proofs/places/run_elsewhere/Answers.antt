use Rattle.wasmi_law_tests.proofs.RunsLemmas.{by_result}
use Rattle.wasmi_laws.proofs.LocationLemmas.{later_same}
use Rattle.wasmi_law_tests.proofs.places.run_elsewhere.Goals as goal

pub returns-clause-stays : goal.returns-clause-stays
returns-clause-stays g c =
    λ location leave. by_result c.run_lending.result c.run_lending.ensures.run c.run_lending.ensures.err
    (λ replies ran. c.others_stay.ensures.run _ ran.0 _ ran.3 location (rw ran.1 leave))
    (λ same. rw same.0 (λ x found. found))

pub returns-clause-later : goal.returns-clause-later
returns-clause-later g c =
    λ location x found. by_result c.run_lending.result c.run_lending.ensures.run c.run_lending.ensures.err
    (λ replies ran. c.indices_last.ensures.later _ ran.0 _ ran.3 location x found)
    (λ same. rw same.0 (x, found, later_same location x))

pub returns-clause-live : goal.returns-clause-live
returns-clause-live g c =
    λ location drop has. by_result c.run_lending.result c.run_lending.ensures.run c.run_lending.ensures.err
    (λ replies ran. c.indices_last.ensures.live _ ran.0 _ ran.3 location (rw ran.1 drop) has) (λ same. rw same.0 has)
