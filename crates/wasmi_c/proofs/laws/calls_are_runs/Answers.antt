use Rattle.wasmi_c.proofs.laws.calls_are_runs.Goals as goal

pub returns-clause-join : goal.returns-clause-join
returns-clause-join c =
    λ calls calls' u v w replies replies'. c.runs_join.ensures.calls calls calls' _ _ _ replies replies'
