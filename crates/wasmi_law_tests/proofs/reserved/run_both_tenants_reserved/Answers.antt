use Rattle.wasmi_law_tests.proofs.Common.{on_ok_weaker}
use Rattle.wasmi_law_tests.proofs.ReservedLemmas.{run_with_memory}
use Rattle.wasmi_law_tests.proofs.RunsLemmas.{pools_same}
use Rattle.wasmi_law_tests.proofs.reserved.run_both_tenants_reserved.Goals as goal

pub returns : goal.returns
returns c = record {
  same = on_ok_weaker c.run_into-first.result (λ first. on_ok_weaker c.run_into.result (λ ran.
      let second = rw c.requires.pools at ran in
      let once = c.tenants_leave_no_choice.ensures in
      let pool = c.args.pool.now in
      let index = c.args.index in
      let calls = c.args.calls.now in
      pools_same c.replies_are_one.ensures once.choice once.notices pool c.run_into-first.new.self c.run_into.new.self index
      calls
      (run_with_memory c.reserved_suffices.ensures.run pool index calls c.run_into-first.new.replies.items c.run_into-first.new.self
      c.requires.reserved first)
      (run_with_memory c.reserved_suffices.ensures.run pool index calls c.run_into.new.replies.items
      c.run_into.new.self c.requires.reserved second)) c.run_into.ensures.ran) c.run_into-first.ensures.ran;
}
