use Rattle.std.proofs.Common.{Some}
use Rattle.wasmi_region.proofs.Common.{copy_of, table_of, charging, same_as_itself, writes_elements}
use Rattle.wasmi_region.proofs.table.copy_within.Goals as goal

pub returns : goal.returns
returns c = charging (copy_of c.args.dst c.args.src c.args.len (table_of c.args.ty c.args.elements.now))
    (writes_elements (table_of c.args.ty c.args.elements.now) _ _ _ (Some c.args.len) _ _ _ _
    (same_as_itself c.args.ty.element) c.copy_items_within.ensures.written)
