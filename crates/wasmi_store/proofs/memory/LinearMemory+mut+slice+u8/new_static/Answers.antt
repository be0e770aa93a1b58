use Rattle.wasmi_store.proofs.Common.{new_memory}
use Rattle.wasmi_store.specs.Buffer.{Lent}
use Rattle.wasmi_store.specs.Memory.{creation_of}
use Rattle.wasmi_store.proofs.GrowthLemmas.{makes_lent}
use Rattle.wasmi_store.proofs.memory.LinearMemory+mut+slice+u8.new_static.Goals as goal

pub returns : goal.returns
returns g c =
    let room = Lent c.args.region.now in
    let seen = makes_lent g.L.ResourceLimiter.rules c.args.limiter.now c.new_static_lending.new.limiter
    (creation_of room c.args.ty) (new_memory room c.args.ty) _ c.new_static_lending.ensures in
    record { loan = seen.0; made = seen.1 }
