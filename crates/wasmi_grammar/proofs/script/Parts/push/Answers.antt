use Rattle.wasmi_grammar.proofs.PartsLemmas.{one_call}
use Rattle.wasmi_grammar.proofs.script.Parts.push.Goals as goal

pub returns : goal.returns
returns c =
    rw (← c.self.view_is)
    (one_call _ _ c.args.call _ c.self.inside.start c.self.inside.tenant c.self.invariant c.in_ok-push.ensures.items)
