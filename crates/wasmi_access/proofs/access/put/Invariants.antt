use Rattle.std.proofs.Common.{◌≡◌}
use lib.Seq.{paste}
use Rattle.wasmi_access.proofs.access.put.Given as goal

abbrev pub invariant-loop-i : goal.invariant-loop-i
invariant-loop-i g l = l.memory ≡ paste l.fn.memory l.address l.bytes l.i
