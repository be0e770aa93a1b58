use Rattle.wasmi_c.specs.TableCalls.{by_elements, of_table}
use Rattle.wasmi_c.proofs.PlacementLemmas.{by_quota, keeps_quota}
use Rattle.wasmi_c.proofs.table.grow.Goals as goal

pub returns-clause-grown : goal.returns-clause-grown
returns-clause-grown c =
    by_quota of_table (by_elements c.args.delta c.args.reference) c.in-Some.ty _ _ c.in-Some.ensures
    c.grow_under.ensures.grown

pub returns-clause-quota : goal.returns-clause-quota
returns-clause-quota c =
    keeps_quota of_table (by_elements c.args.delta c.args.reference) c.in-Some.ty c.grow_under.ensures.grown
