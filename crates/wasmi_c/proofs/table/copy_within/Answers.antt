use Rattle.std.proofs.Common.{◌∙◌, refl, inr}
use Rattle.wasmi_c.proofs.Common.{copy_of, table_in, length-take-le}
use Rattle.wasmi_c.proofs.PlacementLemmas.{table_written_with}
use Rattle.wasmi_c.proofs.table.copy_within.Goals as goal

pub returns : goal.returns
returns c =
    let range = c.args.range.now in
    let written = table_written_with (copy_of range.to range.from range.count (table_in c.in-Some.ty c.args.region.now c.args.table.now.size))
    c.in-Some.ty c.args.table.now.size _ _ _ c.copy_within-written.new.fuel c.copy_within-written.result _ c.store_left.ensures
    (rw c.fuel-fuel.ensures at c.copy_within-written.ensures) (c.copy_within-written.auto.elements ∙ length-take-le _ _ c.in-Some.ensures.within)
    refl (c.leave_write.ensures.status, c.leave_write.ensures.number) in
    inr (c.in-Some.ty, c.in-Some.ensures, written)
