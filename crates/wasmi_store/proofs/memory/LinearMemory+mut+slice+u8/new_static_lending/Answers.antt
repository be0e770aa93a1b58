use Rattle.std.proofs.Common.{Some}
use Rattle.wasmi_store.proofs.Common.{err_from_is_err_and, optional_rules}
use Rattle.wasmi_store.specs.Buffer.{Lent}
use Rattle.wasmi_store.proofs.MemoryLemmas.{makes_short, sized_zeros}
use Rattle.wasmi_store.proofs.memory.LinearMemory+mut+slice+u8.new_static_lending.Goals as goal

pub returns-in_err-size : goal.returns-in_err-size
returns-in_err-size g c =
    let p = err_from_is_err_and c.from_residual.result c.from_residual.ensures.1 in
    rw (p.1, p.2) (c.in_err-size.ensures.permitted (Lent c.args.region.now))

pub returns-in-Err : goal.returns-in-Err
returns-in-Err g c =
    let e = c.in-Err.ensures.err in
    makes_short (optional_rules g.L.ResourceLimiter.rules)
    (Lent c.args.region.now) c.args.ty (Some c.args.limiter.now) (Some c.permitted_minimum.new.limiter)
    c.in_ok-size.size c.in_ok-size.ensures.permitted e.0 _ (Some c.tell.new.limiter)
    (rw e.1 at c.tell.ensures)

pub invariant_of-result : goal.invariant_of-result
invariant_of-result g c = sized_zeros _ (Lent c.args.region.now) _ _ c.in-Ok.ensures.ok.1 c.in_ok-size.ensures.sized
