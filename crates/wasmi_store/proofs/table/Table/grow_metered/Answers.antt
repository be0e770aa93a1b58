use Rattle.std.proofs.Common.{Some}
use Rattle.wasmi_store.proofs.TableLemmas.{grows_lent}
use Rattle.wasmi_store.proofs.table.Table.grow_metered.Goals as goal

pub returns : goal.returns
returns g c =
    let grown = c.grow_lending.ensures in
    let seen = grows_lent g.L.ResourceLimiter.rules c.args.limiter.now c.grow_lending.new.limiter c.args.self.now
    c.grow_lending.new.self (Some c.args.fuel.now) (Some c.grow_lending.new.fuel) c.args.delta
    c.args.init _ _ grown.1 in
    record { loan = seen.0; grown = (grown.0, seen.1) }
