use Rattle.std.proofs.Common.{◌<◌, arith, length, rules}
use Rattle.wasmi_script.proofs.PrintingLemmas.{in_part, prints_then, prints_front}
use Rattle.wasmi_script.proofs.OutcomesLemmas.{one_tenant, tenants_whole}
use Rattle.wasmi_script.proofs.printing.print_tenants.Goals as goal

pub returns-in_err-print_tenant : goal.returns-in_err-print_tenant
returns-in_err-print_tenant g c =
    let inside : c.loop-index.index < length c.args.pool.now.machines =
    omega (arith, c.loop-index-test.true, c.len-index-end.ensures.value) in
    in_part g.W.Write.contents _ _ _ _ (search rules)
    (prints_front g.W.Write.contents _ _ _ _ _ _ _ (tenants_whole c.args.pool.now.machines c.loop-index.index inside)
    c.loop-index.invariant c.in_err-print_tenant.ensures.1)

pub loop-index-preserved : goal.loop-index-preserved
loop-index-preserved g c =
    let inside : c.loop-index.index < length c.args.pool.now.machines =
    omega (arith, c.loop-index-test.true, c.len-index-end.ensures.value) in
    prints_then g.W.Write.contents _ _ _ _ _ _ (one_tenant c.args.pool.now.machines c.loop-index.index inside)
    c.loop-index.invariant c.in_ok-print_tenant.ensures.0
