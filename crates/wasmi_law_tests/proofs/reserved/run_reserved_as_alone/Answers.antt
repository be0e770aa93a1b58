use Rattle.wasmi_law_tests.proofs.Common.{on_ok_weaker}
use Rattle.wasmi_law_tests.proofs.ReservedLemmas.{as_alone}
use Rattle.wasmi_law_tests.proofs.RunsLemmas.{alone_after}
use Rattle.wasmi_law_tests.proofs.reserved.run_reserved_as_alone.Goals as goal

pub returns : goal.returns
returns c = record {
  same = on_ok_weaker c.run_into-first.result (λ first. on_ok_weaker c.run_into.result (λ ran shown.
      let once = c.tenants_leave_no_choice.ensures in
      let pool = c.args.pool.now in
      let index = c.args.index in
      let calls = c.args.calls.now in
      let replies = c.run_into-first.new.replies.items in
      as_alone c.replies_are_one.ensures once.choice once.notices c.reserved_suffices.ensures.run pool c.run_into-first.new.self
      c.args.alone.now c.run_into.new.self index calls replies c.run_into.new.replies.items c.requires.machine
      c.requires.reserved
      (alone_after c.permitted_runs_as_alone.ensures pool index calls replies c.run_into-first.new.self
      (c.replies_permit.ensures pool index calls replies c.run_into-first.new.self shown first)) ran)
      c.run_into.ensures.ran) c.run_into-first.ensures.ran;
}
