use Rattle.std.proofs.Common.{arith}
use Rattle.wasmi_law_tests.proofs.Common.{optional_rules}
use Rattle.wasmi_law_tests.proofs.RunsLemmas.{if_ok_too, by_result}
use Rattle.wasmi_law_tests.proofs.RegionsLemmas.{grows_in_regions}
use Rattle.wasmi_law_tests.proofs.runs.run_exchanged.Goals as goal

pub returns-clause-exchanged : goal.returns-clause-exchanged
returns-clause-exchanged g c =
    if_ok_too c.run_lending.result c.run_lending.ensures.run (λ replies ran.
    (ran.0, record { calls_of = ran.1; replies_of = ran.2 }, c.growths_are_permitted.ensures.run _ ran.0 _ ran.3))

pub returns-clause-regions : goal.returns-clause-regions
returns-clause-regions g c =
    if_ok_too c.run_lending.result c.run_lending.ensures.run (λ replies ran. (
      ran.0,
      record { calls_of = ran.1; replies_of = ran.2 },
      grows_in_regions (optional_rules g.L.ResourceLimiter.rules) c.lent_growths_succeed.ensures _ ran.0 _ ran.3,
    ))

pub returns-clause-permitted : goal.returns-clause-permitted
returns-clause-permitted g c =
    if_ok_too c.run_lending.result c.run_lending.ensures.run (λ replies ran shown.
    (ran.0, ran.1, ran.2, c.replies_permit.ensures _ ran.0 _ (rw ran.2 shown) ran.3))

pub returns-clause-sizes : goal.returns-clause-sizes
returns-clause-sizes g c =
    by_result c.run_lending.result c.run_lending.ensures.run c.run_lending.ensures.err
    (λ replies ran. c.sizes_never_shrink.ensures.sizes _ ran.0 _ ran.3)
    (λ same kind k n found. rw same.0 (n, found, omega arith))

pub returns-clause-totals : goal.returns-clause-totals
returns-clause-totals g c =
    by_result c.run_lending.result c.run_lending.ensures.run c.run_lending.ensures.err
    (λ replies ran. c.sizes_never_shrink.ensures.totals _ ran.0 _ ran.3) (λ same kind. rw same.0 (omega arith))
