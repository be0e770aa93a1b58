use Rattle.std.proofs.Common.{◌++◌, codes, get_or, append_assoc, rules}
use Rattle.wasmi_script.specs.Texts.{bytes_in, bytes_text, head_text}
use Rattle.wasmi_script.proofs.LengthLemmas.{byte_short, head_short}
use Rattle.wasmi_script.proofs.OutcomesLemmas.{byte_text, reply_at, reply_more, reply_whole}
use Rattle.wasmi_script.proofs.PrintingLemmas.{in_part, last_part, prints_then, prints_first, prints_front}
use Rattle.wasmi_script.proofs.printing.print_reply.Goals as goal

pub print-requires : goal.print-requires
print-requires g c = record { short = head_short c.args.call.now c.args.reply.now }

pub returns-in_err-print : goal.returns-in_err-print
returns-in_err-print g c =
    let head = head_text c.args.call.now c.args.reply.now in
    let numbers = bytes_text (bytes_in c.args.reply.now) in
    in_part g.W.Write.contents _ _ _ _ (search rules)
    (prints_first g.W.Write.contents _ _ head (numbers ++ codes "\n") _ (append_assoc head numbers (codes "\n"))
    c.in_err-print.ensures.front)

pub returns-in_err-print-2 : goal.returns-in_err-print-2
returns-in_err-print-2 g c =
    in_part g.W.Write.contents _ _ _ _ (search rules) (prints_front g.W.Write.contents _ _ _ _ _ _ _
    (reply_at c.args.call.now c.args.reply.now c.bytes_of-byte-items.result.now c.loop-byte.byte-index
    c.bytes_of-byte-items.ensures c.loop-byte-test.true) c.loop-byte.invariant c.in_err-print-2.ensures.front)

pub loop-byte-preserved : goal.loop-byte-preserved
loop-byte-preserved g c =
    let bytes = c.bytes_of-byte-items.result.now in
    prints_then g.W.Write.contents _ _ _ _ (byte_text (get_or bytes c.loop-byte.byte-index 0)) _
    (reply_more c.args.call.now c.args.reply.now bytes c.loop-byte.byte-index c.loop-byte-test.true)
    c.loop-byte.invariant c.in_ok-print-2.ensures.ok

pub returns : goal.returns
returns g c =
    let whole = reply_whole c.args.call.now c.args.reply.now _ _ c.bytes_of-byte-items.ensures c.loop-byte-test.false in
    last_part g.W.Write.contents c.print-2.result _ _ _ _ _ _ whole c.loop-byte.invariant
    (c.print-2.ensures.ok, c.print-2.ensures.front)

pub print-requires-in-loop-byte : goal.print-requires-in-loop-byte
print-requires-in-loop-byte g c = record { short = byte_short _ }
