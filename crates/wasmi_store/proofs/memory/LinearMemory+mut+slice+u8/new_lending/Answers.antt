use Rattle.std.proofs.Common.{Some, refl}
use Rattle.wasmi_store.proofs.Common.{err_from_is_err_and, optional_rules, new_memory}
use Rattle.wasmi_store.specs.Buffer.{Owned}
use Rattle.wasmi_store.specs.Memory.{creation_of}
use Rattle.wasmi_store.proofs.GrowthLemmas.{makes_refused}
use Rattle.wasmi_store.proofs.MemoryLemmas.{making_reaches, sized_zeros}
use Rattle.wasmi_store.proofs.memory.LinearMemory+mut+slice+u8.new_lending.Goals as goal

pub returns-in_err-size : goal.returns-in_err-size
returns-in_err-size g c =
    let p = err_from_is_err_and c.from_residual.result c.from_residual.ensures.1 in
    rw (p.1, p.2) (c.in_err-size.ensures.permitted Owned)

pub returns-in-Err : goal.returns-in-Err
returns-in-Err g c =
    let rules = optional_rules g.L.ResourceLimiter.rules in
    makes_refused rules (creation_of Owned c.args.ty) (new_memory Owned c.args.ty) (Some c.args.limiter.now)
    (Some c.permitted_minimum.new.limiter)
    (making_reaches rules Owned c.args.ty _ _ c.in_ok-size.size c.in_ok-size.ensures.permitted refl)
    _ c.in-Err.ensures.err _ (Some c.tell.new.limiter) c.tell.ensures

pub invariant_of-result : goal.invariant_of-result
invariant_of-result g c = sized_zeros _ Owned _ _ c.in-Ok.ensures.ok c.in_ok-size.ensures.sized
