use Rattle.wasmi_meter.specs.Limiter.{optional_rules}
use Rattle.wasmi_laws.proofs.ReservedLemmas as reserved
use Rattle.wasmi_laws.proofs.reserved_suffices.Goals as goal

pub returns-clause-turn : goal.returns-clause-turn
returns-clause-turn g c = reserved.reserved_calls_succeed (optional_rules g.L.ResourceLimiter.rules)

pub returns-clause-run : goal.returns-clause-run
returns-clause-run g c = reserved.reserved_runs_succeed (optional_rules g.L.ResourceLimiter.rules)

pub returns-clause-slots : goal.returns-clause-slots
returns-clause-slots g c = reserved.slots_suffice
