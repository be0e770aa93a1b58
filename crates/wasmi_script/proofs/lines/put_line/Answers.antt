use Rattle.wasmi_script.proofs.PrintingLemmas.{adds_then}
use Rattle.wasmi_script.proofs.lines.put_line.Goals as goal

pub returns : goal.returns
returns c =
    rw (← c.of.ensures, ← c.bytes_of.ensures)
    (adds_then _ _ _ _ _ _ _ _ (adds_then _ _ _ _ _ _ _ _ c.put-worded.ensures c.put_bytes-told.ensures) c.put.ensures)
