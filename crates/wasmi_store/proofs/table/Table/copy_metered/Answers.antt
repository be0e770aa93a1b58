use Rattle.std.proofs.Common.{Some}
use Rattle.wasmi_store.proofs.WriteLemmas.{table_kept, table_writes, writes_elements}
use Rattle.wasmi_store.proofs.table.Table.copy_metered.Goals as goal

pub returns : goal.returns
returns c = rw (← c.self.view_is, ← c.src_table.view_is) (table_writes _ _ c.self.inside.elements _
    c.as_mut_slice-elements.ensures.value c.copy_items.ensures.len (writes_elements _ _ _ _ (Some c.args.len) _ _ _ _
    (rw c.element.ensures at c.in_ok-ensure_element_type_matches.ensures)
    (rw c.as_slice-items.ensures.value at c.copy_items.ensures.written)))

pub invariant_of-self : goal.invariant_of-self
invariant_of-self c =
    table_kept c.self.inside.elements _ c.as_mut_slice-elements.ensures.value c.copy_items.ensures.len c.self.invariant
