use Rattle.std.proofs.Common.{Some}
use Rattle.wasmi_law_tests.proofs.Common.{on_ok_weaker, world}
use Rattle.wasmi_law_tests.proofs.RunsLemmas.{same_parts}
use Rattle.wasmi_law_tests.proofs.reserved.run_both_reserved.Goals as goal

pub returns : goal.returns
returns c = record {
  same = on_ok_weaker c.run_into_lending-first.result (λ first. on_ok_weaker c.run_into_lending.result (λ ran.
      let w = world c.args.machine.now (Some c.args.quota.now) in
      let second = rw (c.requires.machines, c.requires.quotas) at ran in
      let has = c.reserved_suffices.ensures.run c.args.calls.now w c.run_into_lending-first.new.replies.items _
      c.requires.reserved first in
      let has' = c.reserved_suffices.ensures.run c.args.calls.now w c.run_into_lending.new.replies.items _
      c.requires.reserved second in
      let one = c.replies_are_one.ensures c.limiters_leave_no_choice.ensures.quota c.limiters_accept_notices.ensures.quota
      c.args.calls.now w c.run_into_lending-first.new.replies.items c.run_into_lending.new.replies.items _ _ has has'
      first second in
      let parts = same_parts one.1 in
      (one.0, parts.0, parts.1)) c.run_into_lending.ensures.run) c.run_into_lending-first.ensures.run;
}
