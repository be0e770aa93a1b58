use Rattle.wasmi_script.proofs.DecidedLemmas.{quiet_lists_decide}
use Rattle.wasmi_script.proofs.laws.quiet_lists_decide_replies.Goals as goal

pub returns-clause-replies : goal.returns-clause-replies
returns-clause-replies c = quiet_lists_decide
