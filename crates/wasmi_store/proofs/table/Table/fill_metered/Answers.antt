use Rattle.std.proofs.Common.{Some}
use Rattle.wasmi_store.proofs.WriteLemmas.{table_kept, table_writes, writes_elements}
use Rattle.wasmi_store.proofs.table.Table.fill_metered.Goals as goal

pub returns : goal.returns
returns c = rw (← c.self.view_is) (table_writes _ _ c.self.inside.elements _ c.as_mut_slice-elements.ensures.value c.fill_items.ensures.len
    (writes_elements _ _ _ _ (Some c.args.len) _ _ _ _ c.in_ok-ensure_element_type_matches.ensures c.fill_items.ensures.written))

pub invariant_of-self : goal.invariant_of-self
invariant_of-self c =
    table_kept c.self.inside.elements _ c.as_mut_slice-elements.ensures.value c.fill_items.ensures.len c.self.invariant
