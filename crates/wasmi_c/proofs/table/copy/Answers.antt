use Rattle.std.proofs.Common.{◌∙◌, refl, inr}
use Rattle.wasmi_c.proofs.Common.{copy_of, table_in, length-take-le}
use Rattle.wasmi_c.proofs.PlacementLemmas.{table_written_with}
use Rattle.wasmi_c.proofs.table.copy.Goals as goal

pub returns : goal.returns
returns c =
    let range = c.args.range.now in
    let source_ty = c.in-Some-type_if_valid.source_ty in
    let source = table_in source_ty c.args.source_region.now c.args.source.now.size in
    let written = table_written_with (copy_of range.to range.from range.count source)
    c.in-Some.ty c.args.table.now.size _ _ _ c.copy-written.new.fuel c.copy-written.result _ c.store_left.ensures
    (rw c.fuel-fuel.ensures at c.copy-written.ensures) (c.copy-written.auto.elements ∙ length-take-le _ _ c.in-Some.ensures.within)
    refl (c.leave_write.ensures.status, c.leave_write.ensures.number) in
    inr (c.in-Some.ty, source_ty, c.in-Some.ensures, c.in-Some-type_if_valid.ensures, written)
