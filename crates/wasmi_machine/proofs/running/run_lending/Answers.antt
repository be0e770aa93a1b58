use Rattle.wasmi_machine.proofs.Common.{optional_rules}
use Rattle.std.proofs.Common.{◌+◌, ◌∙◌, ap, arith}
use Rattle.wasmi_machine.proofs.StoreLemmas.{run_more}
use Rattle.wasmi_machine.proofs.running.run_lending.Goals as goal

-- the call is answered after those before it
pub loop-call-preserved : goal.loop-call-preserved
loop-call-preserved g c =
    record {
      ran = rw c.push_reserved.ensures.items
          (run_more (optional_rules g.L.ResourceLimiter.rules) _ _ c.call-item.result _ _ _ _ _ c.loop-call-test.true
          c.call-item.is c.loop-call.invariant.ran c.step_lending-reply.ensures.step);
      valid = c.step_lending-reply.ensures.valid;
      count = c.push_reserved.ensures.len ∙ ap (λ n. n + 1) c.loop-call.invariant.count;
      room = omega (arith, c.push_reserved.ensures.capacity);
    }
