use Rattle.wasmi_machine.proofs.Common.{length-append, optional_rules}
use Rattle.wasmi_machine.proofs.StoreLemmas.{run_more}
use Rattle.wasmi_machine.proofs.running.run_into_lending.Goals as goal

-- the call is answered after those before it
pub loop-call-preserved : goal.loop-call-preserved
loop-call-preserved g c =
    let pushed = c.push.ensures.added in
    record {
      ran = rw pushed
          (run_more (optional_rules g.L.ResourceLimiter.rules) _ _ c.call-item.result _ _ _ _ _ c.loop-call-test.true
          c.call-item.is c.loop-call.invariant.ran c.step_lending-reply.ensures.step);
      valid = c.step_lending-reply.ensures.valid;
      count = rw (pushed, length-append, c.loop-call.invariant.count);
      room = rw pushed c.loop-call.invariant.room;
      same = rw pushed c.loop-call.invariant.same;
    }
