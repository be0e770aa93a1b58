use Rattle.wasmi_meter.specs.Limiter.{optional_rules}
use Rattle.wasmi_machine.proofs.LentMemoryLemmas as lent
use Rattle.wasmi_machine.proofs.laws.lent_creations_are_owned.Goals as goal

pub returns : goal.returns
returns g c = lent.creation_is_owned (optional_rules g.L.ResourceLimiter.rules)
