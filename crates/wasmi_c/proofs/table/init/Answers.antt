use Rattle.std.proofs.Common.{◌∙◌, refl, inr}
use Rattle.wasmi_c.proofs.Common.{initialization_of, items_of, length-take-le}
use Rattle.wasmi_c.proofs.PlacementLemmas.{table_written_with}
use Rattle.wasmi_c.proofs.table.init.Goals as goal

pub returns : goal.returns
returns c =
    let range = c.args.range.now in
    let written = table_written_with (initialization_of range.to range.from range.count (items_of c.in-Some.ty c.args.items.now))
    c.in-Some.ty c.args.table.now.size _ _ _ c.init-written.new.fuel c.init-written.result _ c.store_left.ensures
    (rw c.fuel-fuel.ensures at c.init-written.ensures) (c.init-written.auto.elements ∙ length-take-le _ _ c.in-Some.ensures.within)
    refl (c.leave_write.ensures.status, c.leave_write.ensures.number) in
    inr (c.in-Some.ty, c.in-Some.ensures, written)
