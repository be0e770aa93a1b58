use Rattle.std.proofs.Common.{Some}
use Rattle.wasmi_law_tests.proofs.Common.{on_ok_weaker, world}
use Rattle.wasmi_law_tests.proofs.reserved.run_with_slots.Goals as goal

pub returns : goal.returns
returns g c =
    let calls = c.args.calls.now in
    record {
      has = on_ok_weaker c.reserve-reserved.result (λ reserved. on_ok_weaker c.run_into_lending.result
          (c.reserved_suffices.ensures.run calls (world c.reserve-reserved.new.self (Some c.args.limiter.now))
          c.run_into_lending.new.replies.items
          (world c.run_into_lending.new.machine (Some c.run_into_lending.new.limiter))
          (rw reserved (c.reserved_suffices.ensures.slots c.args.machine.now c.args.slots calls c.requires.fits)))
          c.run_into_lending.ensures.run) c.reserve-reserved.ensures.reserved;
    }
