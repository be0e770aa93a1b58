use Rattle.wasmi_machine.proofs.HoldingLemmas as holding
use Rattle.wasmi_machine.proofs.laws.totals_are_held.Goals as goal

pub returns : goal.returns
returns g c = holding.totals_are_held g.L.ResourceLimiter.rules g.L.Reserving.holdings
    (record { reserves = g.met.L.Reserving.reserves; gives_back = g.met.L.Reserving.gives_back })
