use Rattle.std.proofs.Common.{take}
use Rattle.wasmi_script.proofs.Common.{tenants_text, Prints}
use Rattle.wasmi_script.proofs.printing.print_tenants.Given as goal

abbrev pub invariant-loop-index : goal.invariant-loop-index
invariant-loop-index g l =
    Prints g.W.Write.contents l.fn.printer l.printer (tenants_text (take l.index l.pool.machines))
