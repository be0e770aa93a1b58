use Rattle.wasmi_meter.specs.Limiter.{optional_rules}
use Rattle.wasmi_machine.proofs.DeterminismLemmas as determinism
use Rattle.wasmi_machine.proofs.laws.runs_are_one.Goals as goal

pub returns : goal.returns
returns g c once = determinism.runs_are_one (optional_rules g.L.ResourceLimiter.rules)
    (determinism.optional_unique g.L.ResourceLimiter.rules once)
