use Rattle.wasmi_meter.specs.Limiter.{optional_rules}
use Rattle.wasmi_machine.proofs.ExchangeLemmas as exchange
use Rattle.wasmi_machine.proofs.laws.growths_are_permitted.Goals as goal

pub returns-clause-turn : goal.returns-clause-turn
returns-clause-turn g c = exchange.growths_are_permitted (optional_rules g.L.ResourceLimiter.rules)

pub returns-clause-run : goal.returns-clause-run
returns-clause-run g c = exchange.run_growths_are_permitted (optional_rules g.L.ResourceLimiter.rules)
