use Rattle.wasmi_machine.proofs.MemoryEffectsLemmas.{write_facts}
use Rattle.wasmi_machine.proofs.StepsLemmas.{valid_by}
use Rattle.wasmi_machine.proofs.machine.Machine.write.Goals as goal

pub invariant_of-self : goal.invariant_of-self
invariant_of-self c =
    valid_by _ _ ((write_facts _ _ _ _).keeps _ _ c.write-reply.ensures.written).1 (λ v. v) (λ v. v) (λ v. v)
    (rw (← c.self-inside.view_is) at c.self.invariant)
