use Rattle.std.proofs.Common.{refl, inr, rules}
use Rattle.wasmi_store.specs.Table.{raw_filling_of}
use Rattle.wasmi_c.proofs.PlacementLemmas.{table_written_with}
use Rattle.wasmi_c.proofs.table.fill.Goals as goal

pub returns : goal.returns
returns c =
    let written = table_written_with (raw_filling_of c.args.range.now.to c.args.reference c.args.range.now.count)
    c.in-Some.ty c.args.table.now.size _ _ c.fill-written.new.elements c.fill-written.new.fuel c.fill-written.result _
    c.store_left.ensures (rw c.fuel-fuel.ensures at c.fill-written.ensures) (search rules) refl
    (c.leave_write.ensures.status, c.leave_write.ensures.number) in
    inr (c.in-Some.ty, c.in-Some.ensures, written)
