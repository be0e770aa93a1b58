use Rattle.std.proofs.Common.{sym, ◌∙◌}
use Rattle.wasmi_law_tests.proofs.RunsLemmas.{if_ok_too, same_parts}
use Rattle.wasmi_machine.proofs.ToldLemmas.{replies_have}
use Rattle.wasmi_law_tests.proofs.runs.run_twice.Goals as goal

pub returns-clause-same : goal.returns-clause-same
returns-clause-same c =
    if_ok_too c.run_lending-first.result c.run_lending-first.ensures.run (λ replies first.
    if_ok_too c.run_lending-second.result c.run_lending-second.ensures.run (λ replies' after has.
    let second = rw (c.requires.machines, c.requires.quotas) at after in
    let one = c.replies_are_one.ensures c.limiters_leave_no_choice.ensures.quota c.limiters_accept_notices.ensures.quota
    c.args.calls.now _ replies.items replies'.items _ _ has.0 has.1 first second in
    let parts = same_parts one.1 in
    (one.0, parts.0, parts.1)))

pub returns-clause-turns : goal.returns-clause-turns
returns-clause-turns c =
    if_ok_too c.run_lending-first.result c.run_lending-first.ensures.run (λ replies first.
    if_ok_too c.run_lending-second.result c.run_lending-second.ensures.run (λ replies' after has.
    let second = rw (c.requires.machines, c.requires.quotas) at after in
    let have = replies_have first.0 replies.items first.2 has.0 in
    let have' = replies_have second.0 replies'.items second.2 has.1 in
    let tells = c.replies_tell.ensures c.limiters_accept_notices.ensures.quota in
    let one = c.runs_are_one.ensures c.limiters_leave_no_choice.ensures.quota _ first.0 second.0 _ _ (first.1 ∙ sym second.1)
    have have' (tells _ first.0 _ have first.3) (tells _ second.0 _ have' second.3) in
    (first.0, first.3, rw one.0 second.3)))
