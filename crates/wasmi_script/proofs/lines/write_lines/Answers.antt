use Rattle.std.proofs.lemmas.Iterator.{YieldsList-from_slice, YieldsList-from_zip}
use Rattle.std.proofs.lemmas.Iterator.Consumers.{YieldsList-end}
use Rattle.std.proofs.lemmas.List.Folds.{flat_map-map}
use Rattle.wasmi_script.proofs.OutcomesLemmas.{turn_of, turn_text}
use Rattle.wasmi_script.proofs.PrintingLemmas.{adds_more, fills}
use Rattle.wasmi_script.proofs.lines.write_lines.Goals as goal

pub loop-call-preserved : goal.loop-call-preserved
loop-call-preserved c =
    adds_more (λ turn. turn_text (turn_of turn)) c.loop-call.yielded (c.in-Some.call, c.in-Some.reply) _ _ _ _ _ _
    c.loop-call.invariant c.put_line-end.ensures

pub returns : goal.returns
returns c =
    let road = YieldsList-from_zip {s = c.into_iter-call-iterator.result} (YieldsList-from_slice c.args.calls.now cc)
    (YieldsList-from_slice c.args.replies.now cc) in
    let all = YieldsList-end road c.loop-call.yielded c.loop-call.call-iterator c.loop-call.yielded_by _ c.next.new.self
    c.in-None.is c.next.ensures.steps in
    let written = fills _ _ _ _ c.loop-call.invariant in
    let has = rw (← flat_map-map turn_text turn_of c.loop-call.yielded, all.0) at written in
    record { front = has.front; length = has.count }
