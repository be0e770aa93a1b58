use Rattle.wasmi_machine.proofs.ToldLemmas as told
use Rattle.wasmi_machine.proofs.laws.replies_are_one.Goals as goal

pub returns : goal.returns
returns g c once accepts calls w replies replies' v v' has has' ran ran' =
    told.replies_are_one g.L.ResourceLimiter.rules accepts once calls w
    (record { replies = replies; after = v; has = has; ran = ran })
    (record { replies = replies'; after = v'; has = has'; ran = ran' })
