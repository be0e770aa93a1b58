use Rattle.std.proofs.Common.{length}
use Rattle.wasmi_region.specs.Table.{table_in}
use Rattle.wasmi_c.specs.Placement.{limiter_after}
use Rattle.wasmi_c.specs.TableCalls.{by_elements, of_table}
use Rattle.wasmi_c.proofs.PlacementLemmas.{under}
use Rattle.wasmi_law_tests.proofs.hosts.grow_table_as_answered.Goals as goal

pub returns : goal.returns
returns g c =
    let growth = rw c.reset.ensures at c.grow_under.ensures.grown in
    let answered = c.grow_under.new.limiter in
    let law = c.settlements_are_growths.ensures.tables (length c.args.region.now) c.args.delta c.args.reference
    (table_in c.args.ty c.args.region.now c.args.table.now.size) _ _ _ c.args.answers.now answered in
    record {
      grown = λ l allows. under of_table (by_elements c.args.delta c.args.reference) c.args.ty growth l.before
          (limiter_after answered l) (law l growth.result growth.grows.0 growth.grows.1 allows);
    }
