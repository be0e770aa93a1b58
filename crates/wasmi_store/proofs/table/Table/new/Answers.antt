use Rattle.wasmi_store.proofs.Common.{new_table}
use Rattle.wasmi_store.specs.Table.{creation_of}
use Rattle.wasmi_store.proofs.GrowthLemmas.{makes_lent}
use Rattle.wasmi_store.proofs.table.Table.new.Goals as goal

pub returns : goal.returns
returns g c =
    let seen = makes_lent g.L.ResourceLimiter.rules c.args.limiter.now c.new_lending.new.limiter
    (creation_of c.args.ty c.args.init.ty) (new_table c.args.ty c.args.init.raw) _ c.new_lending.ensures in
    record { loan = seen.0; made = seen.1 }
