use Rattle.wasmi_meter.specs.Limiter.{optional_rules}
use Rattle.wasmi_machine.proofs.StoreLemmas.{runs_joined, runs_of_calls_joined}
use Rattle.wasmi_machine.proofs.laws.runs_join.Goals as goal

pub returns-clause-turns : goal.returns-clause-turns
returns-clause-turns g c = runs_joined (optional_rules g.L.ResourceLimiter.rules)

pub returns-clause-calls : goal.returns-clause-calls
returns-clause-calls g c = runs_of_calls_joined (optional_rules g.L.ResourceLimiter.rules)
