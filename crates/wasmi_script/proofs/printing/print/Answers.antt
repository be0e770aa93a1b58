use Rattle.std.proofs.Common.{refl}
use Rattle.wasmi_script.proofs.PrintingLemmas.{all_sent, front_sent, still}
use Rattle.wasmi_script.proofs.printing.print.Goals as goal

pub returns-clause-ok : goal.returns-clause-ok
returns-clause-ok g c = search (all_sent g.W.Write.contents)

pub returns-clause-flushed : goal.returns-clause-flushed
returns-clause-flushed g c = search (still g.W.Write.contents g.W.Output.is_flushed)

pub returns-clause-front : goal.returns-clause-front
returns-clause-front g c =
    front_sent g.W.Write.contents _ _ _ _ _ _ _ _ c.print_outcome-printed.ensures c.flush-flushed.ensures.sent
    c.new.ensures refl assumption
