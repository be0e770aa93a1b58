use Rattle.wasmi_meter.specs.Limiter.{optional_rules}
use Rattle.wasmi_machine.proofs.LentMemoryLemmas as lent
use Rattle.wasmi_machine.proofs.laws.lent_growths_succeed.Goals as goal

pub returns : goal.returns
returns g c = lent.lent_growth_succeeds (optional_rules g.L.ResourceLimiter.rules)
