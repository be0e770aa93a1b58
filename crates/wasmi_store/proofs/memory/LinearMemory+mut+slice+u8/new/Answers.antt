use Rattle.wasmi_store.proofs.Common.{new_memory}
use Rattle.wasmi_store.specs.Buffer.{Owned}
use Rattle.wasmi_store.specs.Memory.{creation_of}
use Rattle.wasmi_store.proofs.GrowthLemmas.{makes_lent}
use Rattle.wasmi_store.proofs.memory.LinearMemory+mut+slice+u8.new.Goals as goal

pub returns : goal.returns
returns g c =
    let seen = makes_lent g.L.ResourceLimiter.rules c.args.limiter.now c.new_lending.new.limiter
    (creation_of Owned c.args.ty) (new_memory Owned c.args.ty) _ c.new_lending.ensures in
    record { loan = seen.0; made = seen.1 }
