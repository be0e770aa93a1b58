use Rattle.std.proofs.Common.{Some, refl, true}
use Rattle.wasmi_store.proofs.Common.{FillOutOfBounds, filled}
use Rattle.wasmi_store.proofs.WriteLemmas.{table_kept, table_with, table_writes, writes_elements, writes_unmetered}
use Rattle.wasmi_store.proofs.table.Table.fill_raw.Goals as goal

pub returns-in-Some : goal.returns-in-Some
returns-in-Some c =
    let lent = c.as_mut_slice.result.now in
    rw (c.in-Some.is, ← c.self.view_is) (table_writes _ _ c.self.inside.elements _ c.as_mut_slice.ensures.value
    c.fill_items.ensures.len (writes_elements (table_with _ _ lent) true (filled lent c.args.dst c.args.val c.args.len)
    FillOutOfBounds (Some c.args.len) _ _ _ _ refl c.fill_items.ensures.written))

pub returns-in-None : goal.returns-in-None
returns-in-None c =
    let lent = c.as_mut_slice-in-None.result.now in
    rw (c.in-None.is, ← c.self.view_is) (writes_unmetered _ _ _ _ _ _ (table_writes _ _ c.self.inside.elements _
    c.as_mut_slice-in-None.ensures.value c.fill_items-in-None.ensures.len (writes_elements (table_with _ _ lent) true
    (filled lent c.args.dst c.args.val c.args.len) FillOutOfBounds (Some c.args.len) _ _ _ _ refl
    (rw c.unmetered-off.ensures at c.fill_items-in-None.ensures.written))))

pub invariant_of-self : goal.invariant_of-self
invariant_of-self c =
    table_kept c.self.inside.elements _ c.as_mut_slice.ensures.value c.fill_items.ensures.len c.self.invariant

pub invariant_of-self-in-None : goal.invariant_of-self-in-None
invariant_of-self-in-None c =
    table_kept c.self.inside.elements _ c.as_mut_slice-in-None.ensures.value c.fill_items-in-None.ensures.len
    c.self.invariant
