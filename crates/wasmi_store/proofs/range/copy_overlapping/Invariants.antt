use Rattle.std.proofs.Common.{◌-◌, ◌≡◌, ◌+◌, ◌≤◌, drop}
use lib.Seq.{paste}
use Rattle.wasmi_store.proofs.range.copy_overlapping.Given as goal

abbrev pub invariant-loop-done : goal.invariant-loop-done
invariant-loop-done g l = record {
  within : l.done ≤ l.len;
  copied : l.elements ≡ paste l.fn.elements l.dst (drop l.src l.fn.elements) l.done;
}

abbrev pub decreases-loop-done : goal.decreases-loop-done
decreases-loop-done g l = l.len - l.done

abbrev pub invariant-loop-left : goal.invariant-loop-left
invariant-loop-left g l = record {
  within : l.left ≤ l.len;
  copied : l.elements ≡ paste l.fn.elements (l.dst + l.left) (drop (l.src + l.left) l.fn.elements) (l.len - l.left);
}

abbrev pub decreases-loop-left : goal.decreases-loop-left
decreases-loop-left g l = l.left
