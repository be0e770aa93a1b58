use Rattle.std.proofs.Common.{flat_map}
use Rattle.wasmi_script.proofs.Common.{reply_text, Prints, line}
use Rattle.wasmi_script.proofs.printing.print_replies.Given as goal

abbrev pub invariant-loop-call : goal.invariant-loop-call
invariant-loop-call g l =
    Prints g.W.Write.contents l.fn.printer l.printer
    (flat_map (λ turn. line (reply_text turn.0.now turn.1.now)) l.yielded)
