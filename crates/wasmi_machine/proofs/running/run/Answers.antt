use Rattle.wasmi_machine.proofs.RevealingLemmas.{run_lent}
use Rattle.wasmi_machine.proofs.running.run.Goals as goal

pub returns-clause-loan : goal.returns-clause-loan
returns-clause-loan g c = (run_lent g.L.ResourceLimiter.rules _ _ _ _ (λ replies. replies.items) _ _
    c.run_lending.ensures.run c.run_lending.ensures.err (λ same. same.1)).0

pub returns-clause-run : goal.returns-clause-run
returns-clause-run g c = (run_lent g.L.ResourceLimiter.rules _ _ _ _ (λ replies. replies.items) _ _
    c.run_lending.ensures.run c.run_lending.ensures.err (λ same. same.1)).1
