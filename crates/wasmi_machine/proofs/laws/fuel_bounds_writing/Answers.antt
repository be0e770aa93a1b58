use Rattle.wasmi_meter.specs.Limiter.{optional_rules}
use Rattle.wasmi_machine.proofs.WritingLemmas as writing
use Rattle.wasmi_machine.proofs.laws.fuel_bounds_writing.Goals as goal

pub returns : goal.returns
returns g c = writing.writing_is_bounded (optional_rules g.L.ResourceLimiter.rules)
