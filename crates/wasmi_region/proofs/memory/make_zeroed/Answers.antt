use Rattle.std.proofs.Common.{arith}
use Rattle.wasmi_region.proofs.Common.{err_from_is_err_and, lent_limiter, loan_kept, optional_rules, makes_lent, makes_short}
use Rattle.std.proofs.lemmas.Bool.Decides.{nat_tests}
use Rattle.wasmi_store.specs.Buffer.{Lent}
use Rattle.wasmi_store.specs.Memory.{creation_of, new_memory}
use Rattle.wasmi_region.proofs.memory.make_zeroed.Goals as goal

pub returns-in_err-size-clause-made : goal.returns-in_err-size-clause-made
returns-in_err-size-clause-made g c =
    let p = err_from_is_err_and c.from_residual.result c.from_residual.ensures.1 in
    let room = Lent c.args.region.now in
    rw (p.1, p.2) (makes_lent g.L.ResourceLimiter.rules c.args.limiter.now c.permitted_minimum.new.limiter
    (creation_of room c.args.ty) (new_memory room c.args.ty) _ (c.in_err-size.ensures.permitted room)).1

pub returns-in_err-size-clause-loan : goal.returns-in_err-size-clause-loan
returns-in_err-size-clause-loan g c =
    let room = Lent c.args.region.now in
    (makes_lent g.L.ResourceLimiter.rules c.args.limiter.now c.permitted_minimum.new.limiter
    (creation_of room c.args.ty) (new_memory room c.args.ty) _ (c.in_err-size.ensures.permitted room)).0

pub returns-then-region-size-clause-made : goal.returns-then-region-size-clause-made
returns-then-region-size-clause-made g c =
    let permitted = c.in_ok-size.ensures.permitted in
    let told = c.tell.ensures in
    makes_short (optional_rules g.L.ResourceLimiter.rules) (Lent c.args.region.now) c.args.ty _
    (lent_limiter c.permitted_minimum.new.limiter) _ (permitted.0, permitted.1, permitted.2.1)
    (grind (arith, nat_tests)) _ (lent_limiter c.tell.new.limiter) (told.0, told.1.1, told.2)

pub returns-then-region-size-clause-loan : goal.returns-then-region-size-clause-loan
returns-then-region-size-clause-loan g c =
    loan_kept _ c.permitted_minimum.new.limiter _ c.in_ok-size.ensures.permitted.2.0 c.tell.ensures.1.0
