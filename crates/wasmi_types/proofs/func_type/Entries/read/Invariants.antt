use Rattle.std.proofs.Common.{◌-◌}
use Rattle.wasmi_types.proofs.ReadingLemmas.{SoFar}
use Rattle.wasmi_types.proofs.func_type.Entries.read.Given as goal

abbrev pub invariant-loop-count : goal.invariant-loop-count
invariant-loop-count g l =
    SoFar g.I.Iterator.next_gives g.I.Iterator.can_next l.initial.types l.initial.self l.count l.types l.self

abbrev pub decreases-loop-count : goal.decreases-loop-count
decreases-loop-count g l = 1000 - l.count
