use Rattle.wasmi_meter.specs.Limiter.{optional_rules}
use Rattle.wasmi_machine.proofs.AccountLemmas as account
use Rattle.wasmi_machine.proofs.laws.fuel_balances.Goals as goal

pub returns : goal.returns
returns g c = account.fuel_balances (optional_rules g.L.ResourceLimiter.rules)
