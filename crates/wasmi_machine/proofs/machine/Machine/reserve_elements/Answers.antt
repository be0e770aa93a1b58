use Rattle.wasmi_machine.proofs.StepsLemmas.{valid_by}
use Rattle.wasmi_machine.proofs.TableEffectsLemmas.{reserves_valid}
use Rattle.wasmi_machine.proofs.machine.Machine.reserve_elements.Goals as goal

pub invariant_of-self : goal.invariant_of-self
invariant_of-self c =
    valid_by _ _ (λ v. v) (reserves_valid c.args.table c.args.elements _ _ _ c.reserve-reply.ensures.elements) (λ v. v)
    (λ v. v) (rw (← c.self-inside.view_is) at c.self.invariant)
