use Rattle.std.proofs.Common.{Iter, List, Result, Ok, Err, inr, refl, rules, ℕ, ◌≡◌}
use Rattle.std.specs.Iterator.Adapters.{copied_source, copied_steps}
use Rattle.std.specs.Slice.Iter.{iter_rest, iter_steps}
use Rattle.std.specs.declared.iter.Copied.{Copied}
use Rattle.wasmi_machine.proofs.Common.{SegmentValue, IsReadingOf, RefType}
use Rattle.wasmi_store.specs.declared.table.element.SegmentError.{SegmentError}
use Rattle.wasmi_machine.specs.ValueEffects.{IsSegmentOf}
use Rattle.wasmi_machine.proofs.ValueEffectsLemmas.{segment_read}
use Rattle.wasmi_machine.proofs.values.create_segment.Goals as goal

-- what is read of copies of items is the segment of these
copies_read : {ty : RefType} {items : List ℕ} {source : Iter ℕ} {copies : Copied (Iter ℕ)}
    {answer : Result SegmentValue SegmentError}
    → IsReadingOf (λ x i. i ≡ x) (copied_steps iter_steps) ty copies answer → copied_source copies ≡ source
    → iter_rest source ≡ items → IsSegmentOf ty items answer
copies_read {ty} {answer} read of_source rest = rw (read.made, of_source, rest) at
    (segment_read ty read.before read.after answer read.reads)

pub returns-in-Ok-clause-made : goal.returns-in-Ok-clause-made
returns-in-Ok-clause-made c = inr (
  Ok c.in-Ok.segment,
  rw c.in-Ok.is at (copies_read c.new.ensures.reading c.copied.ensures.source c.iter.ensures.rest),
  (search rules, search rules),
)

pub returns-in-Err-clause-made : goal.returns-in-Err-clause-made
returns-in-Err-clause-made c = inr (
  Err c.in-Err.error,
  rw c.in-Err.is at (copies_read c.new.ensures.reading c.copied.ensures.source c.iter.ensures.rest),
  (refl, search rules),
)
