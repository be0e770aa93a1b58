use Rattle.std.proofs.Common.{Some}
use Rattle.wasmi_machine.specs.State.{world}
use Rattle.wasmi_law_tests.proofs.reserved.call_reserved.Goals as goal

pub returns : goal.returns
returns g c =
    let (charge, written, step) = c.step_lending.ensures.step in
    record {
      has = c.reserved_suffices.ensures.turn (world c.args.machine.now (Some c.args.limiter.now))
          (record { call = c.args.call.now; reply = c.step_lending.result; charge = charge; written = written })
          (world c.step_lending.new.self (Some c.step_lending.new.limiter)) step c.requires.needs;
    }
