use Rattle.wasmi_machine.proofs.ToldLemmas as told
use Rattle.wasmi_machine.proofs.laws.replies_tell.Goals as goal

pub returns : goal.returns
returns g c accepts = told.told_runs g.L.ResourceLimiter.rules accepts
