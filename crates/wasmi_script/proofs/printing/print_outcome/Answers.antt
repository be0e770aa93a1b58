use Rattle.std.proofs.Common.{◌≡◌, ◌++◌, List, rules, sym}
use Rattle.wasmi_script.proofs.Common.{Call, Reply, held_text, replies_text}
use Rattle.wasmi_script.specs.declared.replaying.Held.{Held}
use Rattle.wasmi_script.proofs.LengthLemmas.{error_short}
use Rattle.wasmi_script.proofs.PrintingLemmas.{in_part, last_part, prints_first}
use Rattle.wasmi_script.proofs.printing.print_outcome.Goals as goal

pub print_line-requires : goal.print_line-requires
print_line-requires g c = record { short = error_short c.in-Err.error }

-- the lines of equal replies to equal calls, and of what is held
same_lines : (calls calls' : List Call) (replies replies' : List Reply) (held : Held) → calls' ≡ calls
    → replies' ≡ replies
    → replies_text calls replies ++ held_text held ≡ replies_text calls' replies' ++ held_text held
same_lines calls calls' replies replies' held is are = λ i. replies_text (sym is i) (sym are i) ++ held_text held

pub returns-in_err-print_replies-in-Ok : goal.returns-in_err-print_replies-in-Ok
returns-in_err-print_replies-in-Ok g c =
    rw c.in-Ok.is (in_part g.W.Write.contents _ _ _ _ (search rules) (prints_first g.W.Write.contents _ _ _ _ _
    (same_lines _ _ _ _ c.in-Ok.replayed.ran.held c.calls-calls.ensures c.deref.ensures.value)
    c.in_err-print_replies-in-Ok.ensures.1))

pub returns-in_ok-print_replies-in-Ok : goal.returns-in_ok-print_replies-in-Ok
returns-in_ok-print_replies-in-Ok g c =
    let same = same_lines _ _ _ _ c.in-Ok.replayed.ran.held c.calls-calls.ensures c.deref.ensures.value in
    rw c.in-Ok.is (last_part g.W.Write.contents c.print_held.result _ _ _ _ _ _ same
    c.in_ok-print_replies-in-Ok.ensures.0 c.print_held.ensures)
