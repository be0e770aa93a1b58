use Rattle.std.proofs.Common.{None, Some}
use Rattle.std.specs.Prelude.{nat_eq, if◌then◌else◌}
use Rattle.wasmi_region.proofs.Common.{initialization_of, table_of, charging, same_as_itself, writes_elements, items_of}
use Rattle.wasmi_region.proofs.table.init.Goals as goal

pub returns : goal.returns
returns c = charging (initialization_of c.args.dst c.args.src c.args.len (items_of c.args.ty c.args.items.now))
    (writes_elements (table_of c.args.ty c.args.elements.now) _ _ _ (if nat_eq c.args.len 0 then None else Some c.args.len)
    _ _ _ _ (same_as_itself c.args.ty.element) c.init_elements.ensures.written)
