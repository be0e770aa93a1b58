use Rattle.std.proofs.Common.{Some}
use Rattle.wasmi_store.proofs.GrowthLemmas.{grows_lent}
use Rattle.wasmi_store.specs.Memory.{memory_growth}
use Rattle.wasmi_store.proofs.memory.LinearMemory.grow_metered.Goals as goal

pub returns : goal.returns
returns g c =
    let grown = c.grow_lending.ensures in
    let seen = grows_lent g.L.ResourceLimiter.rules c.args.limiter.now c.grow_lending.new.limiter c.args.self.now
    c.grow_lending.new.self (Some c.args.fuel.now) (Some c.grow_lending.new.fuel)
    (memory_growth c.args.additional c.args.self.now) _ _ grown.1 in
    record { loan = seen.0; grown = (grown.0, seen.1) }
