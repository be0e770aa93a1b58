use Rattle.std.proofs.Common.{arith}
use Rattle.wasmi_law_tests.proofs.RunsLemmas.{if_ok_too, by_result}
use Rattle.wasmi_law_tests.proofs.runs.run_billed.Goals as goal

pub returns-clause-billed : goal.returns-clause-billed
returns-clause-billed g c =
    if_ok_too c.run_lending.result c.run_lending.ensures.run (λ replies ran. (
      ran.0,
      record { calls_of = ran.1; replies_of = ran.2 },
      ran.3,
      λ left on. c.fuel_balances.ensures _ left on ran.0 _ ran.3,
    ))

pub returns-clause-bounded : goal.returns-clause-bounded
returns-clause-bounded g c =
    if_ok_too c.run_lending.result c.run_lending.ensures.run (λ replies ran. (
      ran.0,
      record { calls_of = ran.1; replies_of = ran.2 },
      ran.3,
      λ left on rated. c.fuel_bounds_writing.ensures _ left on rated ran.0 _ ran.3,
    ))

pub returns-clause-spent : goal.returns-clause-spent
returns-clause-spent g c = λ sets_no_fuel. if_ok_too c.run_lending.result c.run_lending.ensures.run (λ replies ran. (
  ran.0,
  record { calls_of = ran.1; replies_of = ran.2 },
  ran.3,
  λ left on. c.charges_are_spent.ensures _ left on ran.0 _ ran.3 (rw ran.1 sets_no_fuel),
))

pub returns-clause-costs : goal.returns-clause-costs
returns-clause-costs g c =
    by_result c.run_lending.result c.run_lending.ensures.run c.run_lending.ensures.err
    (λ replies ran. c.meters_are_kept.ensures.costs _ ran.0 _ ran.3) (λ same. rw same.0)

pub returns-clause-switch : goal.returns-clause-switch
returns-clause-switch g c =
    by_result c.run_lending.result c.run_lending.ensures.run c.run_lending.ensures.err
    (λ replies ran. c.meters_are_kept.ensures.switch _ ran.0 _ ran.3) (λ same. rw same.0)

pub returns-clause-fuel : goal.returns-clause-fuel
returns-clause-fuel g c =
    λ others. by_result c.run_lending.result c.run_lending.ensures.run c.run_lending.ensures.err
    (λ replies ran. c.meters_are_kept.ensures.fuel _ ran.0 _ ran.3 (rw ran.1 others)) (λ same. rw same.0 (omega arith))
