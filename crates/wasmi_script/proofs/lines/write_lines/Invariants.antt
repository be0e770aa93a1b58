use Rattle.std.proofs.Common.{flat_map}
use Rattle.wasmi_script.proofs.Common.{AddsToFront, line, reply_text}
use Rattle.wasmi_script.proofs.lines.write_lines.Given as goal

-- the lines so far are written
abbrev pub invariant-loop-call : goal.invariant-loop-call
invariant-loop-call l =
    AddsToFront (flat_map (λ turn. line (reply_text turn.0.now turn.1.now)) l.yielded) l.initial.bytes l.initial.end
    l.bytes l.end
