use Rattle.std.proofs.Common.{◌≡◌, [], ◌-◌, ◌≤◌, length}
use Rattle.std.specs.Vec.{vec_capacity}
use Rattle.wasmi_types.proofs.ReadingLemmas.{SoFar}
use Rattle.wasmi_store.specs.Segment.{most_items}
use Rattle.wasmi_store.proofs.table.element.ElementSegment.read.Given as goal

abbrev pub invariant-items : goal.invariant-items
invariant-items g l = record {
  read : SoFar g.I.Iterator.next_gives g.I.Iterator.can_next l.initial.items []
      (length l.read.items) l.items l.read.items;
  short : length l.read.items ≤ most_items;
  free : length l.read.items ≡ 0 → vec_capacity l.read ≡ 0;
}

abbrev pub decreases-items : goal.decreases-items
decreases-items g l = most_items - length l.read.items
