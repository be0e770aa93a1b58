use Rattle.wasmi_machine.specs.State.{world}
use Rattle.wasmi_machine.proofs.HoldingLemmas.{run_holds}
use Rattle.wasmi_machine.proofs.running.run_reserving.Goals as goal

pub returns-clause-held : goal.returns-clause-held
returns-clause-held g c = run_holds g.L.ResourceLimiter.rules g.L.Reserving.holdings
    (record { reserves = g.met.L.Reserving.reserves; gives_back = g.met.L.Reserving.gives_back })
    (λ replies. replies.items) (world c.args.machine.now c.args.limiter.now)
    (world c.run_lending.new.machine c.run_lending.new.limiter) _ c.requires.totals _
    c.run_lending.ensures.run c.run_lending.ensures.err
