use Rattle.wasmi_meter.specs.Limiter.{optional_rules}
use Rattle.wasmi_laws.proofs.PlacesLemmas as read_back
use Rattle.wasmi_laws.proofs.stores_are_read_back.Goals as goal

pub returns-clause-read : goal.returns-clause-read
returns-clause-read g c = read_back.stores_are_read_back (optional_rules g.L.ResourceLimiter.rules)

pub returns-clause-others : goal.returns-clause-others
returns-clause-others g c = read_back.stores_keep_other_bytes (optional_rules g.L.ResourceLimiter.rules)
