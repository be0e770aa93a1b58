use Rattle.std.proofs.Common.{◌+◌, Some}
use Rattle.wasmi_machine.proofs.MemoryEffectsLemmas.{vector_store_facts}
use Rattle.wasmi_machine.proofs.StepsLemmas.{valid_by}
use Rattle.wasmi_ops.specs.LoadStoreOps.{stored_bytes}
use Rattle.wasmi_machine.proofs.machine.Machine.store_item.Goals as goal

pub invariant_of-self : goal.invariant_of-self
invariant_of-self c =
    let bytes = stored_bytes c.args.op c.args.value in
    valid_by _ _ ((vector_store_facts c.args.memory (c.args.ptr + c.args.offset) (Some bytes) _).keeps _ _
    c.store-reply.ensures.stored).1 (λ v. v) (λ v. v) (λ v. v) (rw (← c.self-inside.view_is) at c.self.invariant)
