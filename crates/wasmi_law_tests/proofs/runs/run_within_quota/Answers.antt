use Rattle.wasmi_law_tests.proofs.Common.{same_Some}
use Rattle.wasmi_law_tests.proofs.RunsLemmas.{by_result, if_ok_too}
use Rattle.wasmi_laws.proofs.RunsLemmas.{held_within}
use Rattle.wasmi_law_tests.proofs.runs.run_within_quota.Goals as goal

pub returns-clause-held : goal.returns-clause-held
returns-clause-held c = λ held.
    by_result c.run_lending.result c.run_lending.ensures.run c.run_lending.ensures.err
    (λ replies ran.
    let after = c.totals_are_held.ensures _ _ held ran.0 _ ran.3 in
    rw (same_Some c.run_lending.new.limiter after.0 after.1) after.2)
    (λ same. rw (same.0, same.1) held)

pub returns-clause-caps : goal.returns-clause-caps
returns-clause-caps c = λ held within.
    let capped =
    held_within c.run_lending.new.machine c.args.quota.now c.run_lending.new.limiter (returns-clause-held c held) in
    by_result c.run_lending.result c.run_lending.ensures.run c.run_lending.ensures.err
    (λ replies ran.
    let after = c.quotas_stay_within.ensures _ _ within ran.0 _ ran.3 in
    let is = same_Some c.run_lending.new.limiter after.0 after.1 in capped (rw is after.2) (rw is after.3))
    (λ same. capped (rw same.1 within) (λ kind. rw same.1))

pub returns-clause-turns : goal.returns-clause-turns
returns-clause-turns c = λ held within. if_ok_too c.run_lending.result c.run_lending.ensures.run (λ replies ran. (
  ran.0,
  record { calls_of = ran.1; replies_of = ran.2 },
  c.caps_hold_in_runs.ensures _ _ held within ran.0 _ ran.3,
))

pub returns-clause-enough : goal.returns-clause-enough
returns-clause-enough c = λ others. if_ok_too c.run_lending.result c.run_lending.ensures.run (λ replies ran has more. (
  ran.0,
  ran.1,
  ran.2,
  c.more_fuel_changes_nothing.ensures c.limiters_accept_notices.ensures.quota more _ ran.0 _ (rw ran.1 others)
      (rw ran.2 has) ran.3,
))
