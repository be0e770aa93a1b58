use Rattle.wasmi_laws.proofs.MoreFuelLemmas as richer
use Rattle.wasmi_laws.proofs.more_fuel_changes_nothing.Goals as goal

pub returns : goal.returns
returns g c = richer.more_fuel_changes_nothing g.L.ResourceLimiter.rules
