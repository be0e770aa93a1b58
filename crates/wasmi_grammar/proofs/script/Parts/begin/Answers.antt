use Rattle.std.proofs.Common.{arith, refl}
use Rattle.wasmi_grammar.proofs.PartsLemmas.{follow_more}
use Rattle.wasmi_grammar.proofs.script.Parts.begin.Goals as goal

pub invariant_of-self-2 : goal.invariant_of-self-2
invariant_of-self-2 c =
    let counted = c.self.inside.calls.ok.0 in
    record {
      follow = rw c.in_ok-push.ensures.items (follow_more 0 _ _ _ c.self.invariant.follow refl
          (omega (arith, c.self.invariant.within, c.len-end.ensures, counted)));
      within = omega (arith, c.len-end.ensures, counted);
    }
