use Rattle.std.proofs.Common.{◌∙◌}
use Rattle.wasmi_law_tests.proofs.RunsLemmas.{by_result, if_ok_too, alone_after}
use Rattle.wasmi_law_tests.proofs.runs.run_within.Goals as goal

pub returns-clause-caps : goal.returns-clause-caps
returns-clause-caps c =
    by_result c.run.result c.run.ensures.ran c.run.ensures.refused (λ replies ran. rw ran.after) (λ same. rw same)

pub returns-clause-later : goal.returns-clause-later
returns-clause-later c = λ turns later ran.
    let after = c.caps_hold.ensures c.run.new.self c.run.ensures.within turns later ran in
    (after.0 ∙ returns-clause-caps c, after.1)

pub returns-clause-alone : goal.returns-clause-alone
returns-clause-alone c =
    if_ok_too c.run.result c.run.ensures.ran (λ replies ran shown.
    alone_after c.permitted_runs_as_alone.ensures c.args.pool.now c.args.index c.args.calls.now replies.items
    c.run.new.self (c.replies_permit.ensures _ _ _ replies.items _ shown ran))

pub returns-clause-beside : goal.returns-clause-beside
returns-clause-beside c =
    if_ok_too c.run.result c.run.ensures.ran (λ replies ran shown.
    let permitted = c.replies_permit.ensures _ _ _ replies.items _ shown ran in
    let turns = permitted.ran in (
      permitted.machine,
      permitted.machine',
      permitted.tenant',
      permitted.found,
      (turns.0, turns.1, turns.2, c.others_do_not_show.ensures _ _ _ _ turns.0 turns.3),
    ))
