use Rattle.wasmi_store.proofs.Common.{OutOfFuel}
use Rattle.wasmi_store.proofs.RangeLemmas.{none_copied}
use Rattle.wasmi_store.proofs.WriteLemmas.{free_write}
use Rattle.wasmi_store.proofs.bulk.init_elements.Goals as goal

pub returns-then-lies_within-2-clause-written : goal.returns-then-lies_within-2-clause-written
returns-then-lies_within-2-clause-written g c = rw c.if-len-eq0.true (free_write OutOfFuel _ _ _
    (none_copied c.args.elements.now c.args.items.now _ _ c.if-lies_within.ensures c.if-lies_within-2.ensures))
