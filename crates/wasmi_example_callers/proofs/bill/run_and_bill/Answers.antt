use Rattle.std.proofs.Common.{ap, arith, unwrap_or}
use Rattle.wasmi_meter.specs.Limiter.{optional_rules}
use Rattle.wasmi_example_callers.proofs.HostLemmas.{ran_billed}
use Rattle.wasmi_example_callers.proofs.bill.run_and_bill.Goals as goal

pub returns-clause-bill : goal.returns-clause-bill
returns-clause-bill g c =
    ran_billed (optional_rules g.L.ResourceLimiter.rules) c.charges_are_spent.ensures c.args.calls.now _ _ _ _
    (omega arith) c.requires.sets_no_fuel c.in_ok-replies.ensures.run

pub returns-clause-off : goal.returns-clause-off
returns-clause-off g c = λ off. omega (arith, ap (λ o. unwrap_or o 0) off)
