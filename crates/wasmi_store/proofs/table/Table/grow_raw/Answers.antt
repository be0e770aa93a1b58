use Rattle.std.proofs.Common.{Some}
use Rattle.wasmi_store.proofs.GrowthLemmas.{grows_lent, grows_unmetered}
use Rattle.wasmi_store.specs.Table.{growth_of, table_growth}
use Rattle.wasmi_store.proofs.table.Table.grow_raw.Goals as goal

pub returns-in-Some : goal.returns-in-Some
returns-in-Some g c =
    let grown = c.grow_raw_metered.ensures in
    let seen = grows_lent g.L.ResourceLimiter.rules c.args.limiter.now c.grow_raw_metered.new.limiter c.args.self.now
    c.grow_raw_metered.new.self (Some c.in-Some.fuel.now) (Some c.grow_raw_metered.new.fuel)
    (table_growth c.args.delta c.args.init c.args.self.now) _ _ grown.1 in
    rw c.in-Some.is (record { loan = seen.0; grown = (grown.0, seen.1) })

pub returns-in-None : goal.returns-in-None
returns-in-None g c =
    let grown = rw c.unmetered-off.ensures at c.grow_raw_metered-in-None.ensures in
    let new = c.grow_raw_metered-in-None.new in
    let seen = grows_lent g.L.ResourceLimiter.rules c.args.limiter.now new.limiter c.args.self.now new.self _
    (Some new.fuel) (table_growth c.args.delta c.args.init c.args.self.now) _ _ grown.1 in
    rw c.in-None.is (record {
      loan = seen.0;
      grown = (grown.0, grows_unmetered _ _ _ (growth_of c.args.self.now c.args.delta c.args.init) _ _ _ _ _ seen.1);
    })
