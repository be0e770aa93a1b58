use Rattle.std.proofs.Common.{None, Some}
use Rattle.std.specs.Prelude.{nat_eq, if◌then◌else◌}
use Rattle.wasmi_store.proofs.WriteLemmas.{table_kept, table_writes, writes_elements}
use Rattle.wasmi_store.proofs.table.Table.init_metered.Goals as goal

pub returns : goal.returns
returns c = rw (← c.self.view_is) (table_writes _ _ c.self.inside.elements _ c.as_mut_slice.ensures.value
    c.init_elements.ensures.len (writes_elements _ _ _ _ (if nat_eq c.args.len 0 then None else Some c.args.len) _ _ _ _
    (rw c.ty.ensures at c.in_ok-ensure_element_type_matches.ensures)
    (rw (c.items-items.ensures, c.from-src.ensures, c.from-len.ensures) at c.init_elements.ensures.written)))

pub invariant_of-self : goal.invariant_of-self
invariant_of-self c =
    table_kept c.self.inside.elements _ c.as_mut_slice.ensures.value c.init_elements.ensures.len c.self.invariant
