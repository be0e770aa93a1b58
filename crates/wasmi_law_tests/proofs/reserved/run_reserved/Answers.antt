use Rattle.std.proofs.Common.{Some}
use Rattle.wasmi_machine.specs.State.{world}
use Rattle.wasmi_law_tests.proofs.ReservedLemmas.{accepted}
use Rattle.wasmi_law_tests.proofs.reserved.run_reserved.Goals as goal

pub returns-clause-made : goal.returns-clause-made
returns-clause-made g c = accepted c.run_into_lending.result (c.run_into_lending.ensures.accepted.1 c.requires.room)

pub returns-clause-run : goal.returns-clause-run
returns-clause-run g c = rw (returns-clause-made g c) at c.run_into_lending.ensures.run

pub returns-clause-has : goal.returns-clause-has
returns-clause-has g c = c.reserved_suffices.ensures.run c.args.calls.now
    (world c.args.machine.now (Some c.args.limiter.now)) c.run_into_lending.new.replies.items
    (world c.run_into_lending.new.machine (Some c.run_into_lending.new.limiter)) c.requires.reserved
    (returns-clause-run g c)
