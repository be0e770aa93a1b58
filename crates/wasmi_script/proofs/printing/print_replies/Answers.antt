use Rattle.std.proofs.Common.{Bor, rules}
use Rattle.wasmi_script.proofs.Common.{zip, Call, Reply}
use Rattle.std.proofs.lemmas.Iterator.{YieldsList-from_slice, YieldsList-from_zip}
use Rattle.std.proofs.lemmas.Iterator.Consumers.{YieldsList-so_far, YieldsList-turn, YieldsList-end}
use Rattle.wasmi_script.proofs.OutcomesLemmas.{turn_of, turn_text}
use Rattle.wasmi_script.proofs.PrintingLemmas.{in_part, yields_more, yields_front, yields_all}
use Rattle.wasmi_script.proofs.printing.print_replies.Goals as goal

pub loop-call-preserved : goal.loop-call-preserved
loop-call-preserved g c =
    yields_more g.W.Write.contents turn_text turn_of (zip c.args.calls.now c.args.replies.now) _ _ _
    c.loop-call.yielded (c.in-Some.call, c.in-Some.reply) c.loop-call.invariant c.in_ok-print_reply.ensures.0

pub returns-in_err-print_reply : goal.returns-in_err-print_reply
returns-in_err-print_reply g c =
    let turn : Bor Call × Bor Reply = (c.in-Some.call, c.in-Some.reply) in
    let road = YieldsList-from_zip {s = c.into_iter-call-iterator.result} (YieldsList-from_slice c.args.calls.now cc)
    (YieldsList-from_slice c.args.replies.now cc) in
    let here = YieldsList-turn road c.loop-call.yielded c.loop-call.call-iterator c.loop-call.yielded_by _
    c.next.new.self turn c.in-Some.is c.next.ensures.steps in
    let before = YieldsList-so_far road c.loop-call.yielded c.loop-call.call-iterator c.loop-call.yielded_by in
    in_part g.W.Write.contents _ _ _ _ (search rules)
    (yields_front g.W.Write.contents turn_text turn_of (zip c.args.calls.now c.args.replies.now) _ _ _
    c.loop-call.yielded turn (before, here.0, here.1) c.loop-call.invariant c.in_err-print_reply.ensures.1)

pub returns : goal.returns
returns g c =
    let road = YieldsList-from_zip {s = c.into_iter-call-iterator.result} (YieldsList-from_slice c.args.calls.now cc)
    (YieldsList-from_slice c.args.replies.now cc) in
    let all = YieldsList-end road c.loop-call.yielded c.loop-call.call-iterator c.loop-call.yielded_by _ c.next.new.self
    c.in-None.is c.next.ensures.steps in (
      yields_all g.W.Write.contents turn_text turn_of (zip c.args.calls.now c.args.replies.now) _ _ c.loop-call.yielded
          all.0 c.loop-call.invariant,
      tt,
    )
