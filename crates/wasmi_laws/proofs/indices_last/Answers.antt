use Rattle.wasmi_meter.specs.Limiter.{optional_rules}
use Rattle.wasmi_laws.proofs.LocationLemmas as location
use Rattle.wasmi_laws.proofs.indices_last.Goals as goal

pub returns-clause-later : goal.returns-clause-later
returns-clause-later g c = location.indices_last (optional_rules g.L.ResourceLimiter.rules)

pub returns-clause-live : goal.returns-clause-live
returns-clause-live g c = location.live_until_dropped (optional_rules g.L.ResourceLimiter.rules)
