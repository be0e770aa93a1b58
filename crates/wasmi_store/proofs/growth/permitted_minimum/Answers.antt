use Rattle.wasmi_store.proofs.Common.{err_from_is_err_and, optional_rules}
use Rattle.wasmi_store.proofs.MemoryLemmas.{minimum_overflows, minimum_denied}
use Rattle.wasmi_store.proofs.growth.permitted_minimum.Goals as goal

pub returns-in_default-clause-permitted : goal.returns-in_default-clause-permitted
returns-in_default-clause-permitted g c =
    minimum_overflows (optional_rules g.L.ResourceLimiter.rules) c.args.ty _ c.in_default.ensures.size

pub returns-in_err-permission-clause-permitted : goal.returns-in_err-permission-clause-permitted
returns-in_err-permission-clause-permitted g c =
    let p = err_from_is_err_and c.from_residual.result c.from_residual.ensures.1 in
    rw (p.1, p.2) (
    minimum_denied (optional_rules g.L.ResourceLimiter.rules) c.args.ty _ c.in-Some.size c.in-Some.ensures.size _
    c.maximum_size.ensures _ _ c.memory_growing-answer.ensures.asked _ c.in_err-permission.ensures
    )
