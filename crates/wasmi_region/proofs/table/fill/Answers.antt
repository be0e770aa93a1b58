use Rattle.std.proofs.Common.{Some, refl, true}
use Rattle.wasmi_meter.specs.declared.error.TableError.TheVariants.{FillOutOfBounds}
use Rattle.wasmi_region.proofs.Common.{raw_filling_of, table_of, charging, writes_elements}
use Rattle.wasmi_store.specs.Write.{filled}
use Rattle.wasmi_region.proofs.table.fill.Goals as goal

pub returns : goal.returns
returns c = charging (raw_filling_of c.args.dst c.args.reference c.args.len)
    (writes_elements (table_of c.args.ty c.args.elements.now) true (filled c.args.elements.now c.args.dst c.args.reference c.args.len) FillOutOfBounds
    (Some c.args.len) _ _ _ _ refl c.fill_items.ensures.written)
