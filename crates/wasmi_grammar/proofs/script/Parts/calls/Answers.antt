use Rattle.std.proofs.Common.{◌∙◌}
use Rattle.wasmi_grammar.proofs.PartsLemmas.{all_calls}
use Rattle.wasmi_grammar.proofs.script.Parts.calls.Goals as goal

pub returns : goal.returns
returns c =
    rw (← c.self.view_is)
    (c.deref.ensures.value ∙ all_calls _ _ c.self.inside.start c.self.inside.tenant c.self.invariant.follow)
