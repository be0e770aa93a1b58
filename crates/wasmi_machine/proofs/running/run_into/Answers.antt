use Rattle.wasmi_machine.proofs.RevealingLemmas.{run_lent}
use Rattle.wasmi_machine.proofs.running.run_into.Goals as goal

pub returns-clause-loan : goal.returns-clause-loan
returns-clause-loan g c = (run_lent g.L.ResourceLimiter.rules _ _ _ _ (λ _. c.run_into_lending.new.replies.items) _ _
    c.run_into_lending.ensures.run c.run_into_lending.ensures.err (λ same. same.1)).0

pub returns-clause-run : goal.returns-clause-run
returns-clause-run g c = (run_lent g.L.ResourceLimiter.rules _ _ _ _ (λ _. c.run_into_lending.new.replies.items) _ _
    c.run_into_lending.ensures.run c.run_into_lending.ensures.err (λ same. same.1)).1
