use Rattle.wasmi_meter.specs.Limiter.{optional_rules}
use Rattle.wasmi_law_tests.proofs.RunsLemmas.{if_ok_too, fitting_runs, made_owned}
use Rattle.wasmi_law_tests.proofs.runs.run_in_regions.Goals as goal

pub returns-clause-owned : goal.returns-clause-owned
returns-clause-owned g c = λ fits. if_ok_too c.run_lending.result c.run_lending.ensures.run (λ replies ran. (
  ran.0,
  ran.1,
  ran.2,
  c.lent_runs_are_owned.ensures _ ran.0 _
      (fitting_runs (optional_rules g.L.ResourceLimiter.rules) _ ran.0 _ (rw ran.1 fits) ran.3),
))

pub returns-clause-made : goal.returns-clause-made
returns-clause-made g c = λ ty call region. if_ok_too c.run_lending.result c.run_lending.ensures.run (λ replies ran.
    made_owned (optional_rules g.L.ResourceLimiter.rules) c.lent_creations_are_owned.ensures ty c.args.calls.now
    _ _ replies.items call region ran)

pub returns-clause-parts : goal.returns-clause-parts
returns-clause-parts g c =
    if_ok_too c.run_lending.result c.run_lending.ensures.run (λ replies ran first rest is.
    c.runs_are_cut.ensures.calls first rest _ replies.items _ (rw is at ran))
