use Rattle.std.proofs.Common.{Some}
use Rattle.wasmi_law_tests.proofs.Common.{world}
use Rattle.wasmi_law_tests.proofs.RunsLemmas.{if_ok_too}
use Rattle.wasmi_law_tests.proofs.places.load_stored.Goals as goal

pub returns : goal.returns
returns g c =
    λ it stores loads leave. if_ok_too c.run_lending-replies.result c.run_lending-replies.ensures.run (λ replies ran done.
    let t = world c.args.machine.now (Some c.args.limiter.now) in
    let u = world c.step_lending-stored.new.self (Some c.step_lending-stored.new.limiter) in
    let v = world c.run_lending-replies.new.machine (Some c.run_lending-replies.new.limiter) in
    let w = world c.step_lending-loaded.new.self (Some c.step_lending-loaded.new.limiter) in
    (c.stores_are_read_back.ensures.read it t u v w ran.0 c.step_lending-loaded.result
    (rw (stores, done) at c.step_lending-stored.ensures.step) ran.3 (rw ran.1 leave)
    (rw loads at c.step_lending-loaded.ensures.step)).0)
