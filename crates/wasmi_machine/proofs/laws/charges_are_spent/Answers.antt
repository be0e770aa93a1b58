use Rattle.wasmi_meter.specs.Limiter.{optional_rules}
use Rattle.wasmi_machine.proofs.WritingLemmas as writing
use Rattle.wasmi_machine.proofs.laws.charges_are_spent.Goals as goal

pub returns : goal.returns
returns g c = writing.charges_are_spent (optional_rules g.L.ResourceLimiter.rules)
