use Rattle.wasmi_meter.specs.Limiter.{optional_rules}
use Rattle.wasmi_machine.proofs.RefusalLemmas as refusal
use Rattle.wasmi_machine.proofs.StoreLemmas.{each_turn}
use Rattle.wasmi_machine.proofs.laws.refusals_keep_contents.Goals as goal

pub returns-clause-turn : goal.returns-clause-turn
returns-clause-turn g c = refusal.refusals_keep_contents (optional_rules g.L.ResourceLimiter.rules)

pub returns-clause-run : goal.returns-clause-run
returns-clause-run g c = each_turn (optional_rules g.L.ResourceLimiter.rules) _
    (refusal.refusals_keep_contents (optional_rules g.L.ResourceLimiter.rules))

pub returns-clause-all_refused : goal.returns-clause-all_refused
returns-clause-all_refused g c = refusal.refused_run_keeps_contents (optional_rules g.L.ResourceLimiter.rules)
