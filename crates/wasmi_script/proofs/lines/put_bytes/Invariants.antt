use Rattle.std.proofs.Common.{take}
use Rattle.wasmi_script.proofs.Common.{AddsToFront, bytes_text}
use Rattle.wasmi_script.proofs.lines.put_bytes.Given as goal

-- the numbers so far are written
abbrev pub invariant-loop-byte : goal.invariant-loop-byte
invariant-loop-byte l = AddsToFront (bytes_text (take l.byte-index l.told)) l.initial.bytes l.initial.end l.bytes l.end
