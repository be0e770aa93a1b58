use Rattle.std.proofs.Common.{◌∙◌, arith, refl}
use Rattle.wasmi_region.proofs.Common.{err_from_is_err_and, lent_limiter, loan_kept, optional_rules, creation_in, new_table, permitted_by, makes_denied, makes_refused, same_as_itself}
use Rattle.wasmi_store.proofs.TableLemmas.{making_asked}
use Rattle.wasmi_region.proofs.table.make.Goals as goal

pub returns-in_err-permission-clause-made : goal.returns-in_err-permission-clause-made
returns-in_err-permission-clause-made g c =
    let p = err_from_is_err_and c.from_residual.result c.from_residual.ensures.1 in
    let asked = making_asked c.args.ty _ (same_as_itself c.args.ty.element) _
    (c.in-Ok.ensures.1 ∙ c.minimum.ensures.value) _ c.maximum_size.ensures in
    rw (p.1, p.2) (makes_denied (optional_rules g.L.ResourceLimiter.rules) (creation_in c.args.ty _)
    (new_table c.args.ty c.args.reference) _ _ asked _ _ c.table_growing-answer.ensures.asked _
    c.in_err-permission.ensures)

pub returns-then-region-size-clause-made : goal.returns-then-region-size-clause-made
returns-then-region-size-clause-made g c =
    let rules = optional_rules g.L.ResourceLimiter.rules in
    let asked = making_asked c.args.ty _ (same_as_itself c.args.ty.element) _
    (c.in-Ok.ensures.1 ∙ c.minimum.ensures.value) _ c.maximum_size.ensures in
    let asks = rw c.in_ok-permission.ensures at c.table_growing-answer.ensures.asked in
    let told = c.tell.ensures in
    makes_refused rules (creation_in c.args.ty _) (new_table c.args.ty c.args.reference) _ _
    (record { permits = permitted_by rules (creation_in c.args.ty _) _ asked _ _ asks; late = refl }) _
    (refl, omega (arith, c.if-region-size.true, c.in-Ok.ensures.1 ∙ c.minimum.ensures.value)) _
    (lent_limiter c.tell.new.limiter) (told.0, told.1.1, told.2)

pub returns-then-region-size-clause-loan : goal.returns-then-region-size-clause-loan
returns-then-region-size-clause-loan g c = loan_kept _ _ _ c.table_growing-answer.ensures.loan c.tell.ensures.1.0
