use Rattle.std.proofs.Common.{Some}
use Rattle.wasmi_law_tests.proofs.Common.{world}
use Rattle.wasmi_law_tests.proofs.places.call_elsewhere.Goals as goal

pub returns-clause-stays : goal.returns-clause-stays
returns-clause-stays g c = λ location leaves.
    c.others_stay.ensures.turn _ _ _ c.step_lending.ensures.step.2 location leaves

pub returns-clause-bytes : goal.returns-clause-bytes
returns-clause-bytes g c =
    λ it stores done.
    let t = world c.args.machine.now (Some c.args.limiter.now) in
    let u = world c.step_lending.new.self (Some c.step_lending.new.limiter) in
    c.stores_are_read_back.ensures.others it t u (rw (stores, done) at c.step_lending.ensures.step)
