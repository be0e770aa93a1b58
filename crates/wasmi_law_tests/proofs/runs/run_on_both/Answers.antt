use Rattle.wasmi_law_tests.proofs.RunsLemmas.{if_ok_too, pools_same}
use Rattle.wasmi_law_tests.proofs.runs.run_on_both.Goals as goal

pub returns : goal.returns
returns c = record {
  same =
      if_ok_too c.run-first.result c.run-first.ensures.ran (λ replies first.
      if_ok_too c.run-second.result c.run-second.ensures.ran (λ replies' second has.
      pools_same c.replies_are_one.ensures c.tenants_leave_no_choice.ensures.choice c.tenants_leave_no_choice.ensures.notices
      c.args.pool.now c.run-first.new.self c.run-second.new.self c.args.index c.args.calls.now
      (record { replies = replies.items; has = has.0; ran = first })
      (record { replies = replies'.items; has = has.1; ran = rw c.requires.pools at second })));
}
