use Rattle.std.proofs.Common.{◌≡◌, ◌++◌, codes, get_or, rules}
use Rattle.wasmi_script.proofs.Common.{decimal}
use Rattle.wasmi_script.proofs.PrintingLemmas.{adds_then, texts_more}
use Rattle.wasmi_script.proofs.lines.put_bytes.Goals as goal

pub loop-byte-preserved : goal.loop-byte-preserved
loop-byte-preserved c =
    let told = c.args.told.now in
    let number : c.from.result ≡ get_or told c.loop-byte.byte-index 0 = search rules in
    rw (texts_more (λ byte. codes " " ++ decimal byte) told c.loop-byte.byte-index 0 c.loop-byte-test.true, ← number)
    (adds_then _ _ _ _ _ _ _ _ c.loop-byte.invariant
    (adds_then _ _ _ _ _ _ _ _ c.put-spaced.ensures c.put_number-end.ensures))
