use Rattle.std.proofs.Common.{◌≡◌}
use Rattle.std.proofs.lemmas.Result.{on_err_weaker}
use Rattle.wasmi_machine.specs.State.{world}
use Rattle.wasmi_machine.proofs.HoldingLemmas.{run_holds}
use Rattle.wasmi_machine.proofs.running.run_into_reserving.Goals as goal

pub returns-clause-held : goal.returns-clause-held
returns-clause-held g c = run_holds g.L.ResourceLimiter.rules g.L.Reserving.holdings
    (record { reserves = g.met.L.Reserving.reserves; gives_back = g.met.L.Reserving.gives_back })
    (λ _. c.run_into_lending.new.replies.items) (world c.args.machine.now c.args.limiter.now)
    (world c.run_into_lending.new.machine c.run_into_lending.new.limiter) _ c.requires.totals _
    c.run_into_lending.ensures.run (on_err_weaker {Q = (c.run_into_lending.new.machine ≡ c.args.machine.now)
    × (c.run_into_lending.new.limiter ≡ c.args.limiter.now)} _ (λ same. (same.0, same.1)) c.run_into_lending.ensures.err)
