use Rattle.wasmi_script.specs.Printing.{Prints}
use Rattle.wasmi_script.proofs.OutcomesLemmas.{reply_front}
use Rattle.wasmi_script.proofs.printing.print_reply.Given as goal

-- the head and the numbers so far were printed
abbrev pub invariant-loop-byte : goal.invariant-loop-byte
invariant-loop-byte g l =
    Prints g.W.Write.contents l.fn.printer l.printer (reply_front l.call l.reply l.byte-items l.byte-index)
