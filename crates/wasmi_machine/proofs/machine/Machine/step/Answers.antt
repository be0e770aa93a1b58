use Rattle.wasmi_machine.proofs.RevealingLemmas.{step_lent}
use Rattle.wasmi_machine.proofs.machine.Machine.step.Goals as goal

pub returns : goal.returns
returns g c =
    let seen = step_lent g.L.ResourceLimiter.rules c.args.limiter.now c.step_lending.new.limiter c.args.self.now
    c.step_lending.new.self c.args.call.now c.step_lending.result c.step_lending.ensures.step in
    record { loan = seen.0; step = seen.1; valid = c.step_lending.ensures.valid }
