use Rattle.std.proofs.Common.{Some, refl}
use Rattle.wasmi_store.proofs.TableLemmas.{same_as_itself}
use Rattle.wasmi_store.proofs.WriteLemmas.{table_writes, writes_elements}
use Rattle.wasmi_store.proofs.table.Table.copy_within_metered.Goals as goal

pub returns : goal.returns
returns c =
    let lent = c.as_mut_slice-elements.ensures.value in
    rw (← c.self.view_is) (table_writes _ _ c.self.inside.elements _ refl (rw lent at c.copy_items_within.ensures.len)
    (writes_elements _ _ _ _ (Some c.args.len) _ _ _ _ (same_as_itself c.self.inside.ty.element)
    (rw lent at c.copy_items_within.ensures.written)))
