use Rattle.std.proofs.Common.{Some}
use Rattle.wasmi_region.proofs.Common.{copy_of, table_of, charging, writes_elements}
use Rattle.wasmi_region.proofs.table.copy.Goals as goal

pub returns : goal.returns
returns c = charging (copy_of c.args.dst c.args.src c.args.len (table_of c.args.source c.args.items.now))
    (writes_elements (table_of c.args.ty c.args.elements.now) _ _ _ (Some c.args.len) _ _ _ _
    (rw c.element.ensures at c.in_ok-ensure_element_type_matches.ensures) c.copy_items.ensures.written)
