use Rattle.std.proofs.Common.{Some, ◌∙◌, refl}
use Rattle.wasmi_store.proofs.Common.{ElementTypeMismatch, cond-false, err_from_is_err_and, optional_rules, new_table}
use Rattle.wasmi_store.specs.Table.{creation_of}
use Rattle.wasmi_store.proofs.GrowthLemmas.{permitted_by, makes_denied, makes_refused, makes_unasked}
use Rattle.wasmi_store.proofs.TableLemmas.{making_asked}
use Rattle.wasmi_store.proofs.table.Table.new_lending.Goals as goal

pub returns-in_err-ensure_element_type_matches : goal.returns-in_err-ensure_element_type_matches
returns-in_err-ensure_element_type_matches g c =
    let p = err_from_is_err_and c.from_residual.result c.from_residual.ensures.1 in
    let e = c.in_err-ensure_element_type_matches.ensures in
    rw (p.1, p.2, e.0) (makes_unasked (optional_rules g.L.ResourceLimiter.rules)
    (creation_of c.args.ty c.args.init.ty) (new_table c.args.ty c.args.init.raw) _ ElementTypeMismatch (cond-false _ _ _ e.1))

pub returns-in_err-permission : goal.returns-in_err-permission
returns-in_err-permission g c =
    let p = err_from_is_err_and c.from_residual-in_err-permission.result c.from_residual-in_err-permission.ensures.1 in
    rw (p.1, p.2) (
    makes_denied (optional_rules g.L.ResourceLimiter.rules) (creation_of c.args.ty c.args.init.ty)
    (new_table c.args.ty c.args.init.raw) (Some c.args.limiter.now) _
    (making_asked c.args.ty c.args.init.ty c.in_ok-ensure_element_type_matches.ensures
    c.in-Ok.size (c.in-Ok.ensures.1 ∙ c.minimum.ensures.value) c.maximum_size.result c.maximum_size.ensures)
    _ (Some c.table_growing-answer.new.self) c.table_growing-answer.ensures.asked _ c.in_err-permission.ensures
    )

pub returns-in-Err : goal.returns-in-Err
returns-in-Err g c =
    let rules = optional_rules g.L.ResourceLimiter.rules in
    let creation = creation_of c.args.ty c.args.init.ty in
    let asked = making_asked c.args.ty c.args.init.ty c.in_ok-ensure_element_type_matches.ensures
    c.in-Ok.size (c.in-Ok.ensures.1 ∙ c.minimum.ensures.value) c.maximum_size.result c.maximum_size.ensures in
    makes_refused rules creation (new_table c.args.ty c.args.init.raw) (Some c.args.limiter.now)
    (Some c.table_growing-answer.new.self)
    (record {
      permits = permitted_by rules creation _ asked (Some c.args.limiter.now) (Some c.table_growing-answer.new.self)
          (rw c.in_ok-permission.ensures at c.table_growing-answer.ensures.asked);
      late = refl;
    }) _ refl _ (Some c.tell.new.limiter) c.tell.ensures
