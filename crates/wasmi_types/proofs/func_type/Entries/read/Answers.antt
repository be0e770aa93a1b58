use Rattle.std.proofs.Common.{inr, refl}
use Rattle.wasmi_types.proofs.ReadingLemmas.{SoFar-next, SoFar-refused}
use Rattle.wasmi_types.proofs.func_type.Entries.read.Goals as goal

pub returns-in-Err-clause-err : goal.returns-in-Err-clause-err
returns-in-Err-clause-err g c =
    let e = c.in-Err.ensures.read in
    inr (refl, SoFar-refused c.loop-count.invariant c.loop-count-test.true e.0 e.1 e.2)

pub loop-count-preserved : goal.loop-count-preserved
loop-count-preserved g c =
    let e = rw c.in-Ok-true.field-0-test at c.in-Ok-true.ensures.read in
    SoFar-next c.loop-count.invariant e.0 e.1 e.2 e.3
