use Rattle.std.proofs.Common.{Some, ◌≡◌, ◌≤◌, length, take, vec_len}
use Rattle.std.specs.Vec.{vec_capacity}
use Rattle.wasmi_machine.proofs.Common.{optional_rules, IsValid, world, IsRunOf}
use Rattle.wasmi_machine.proofs.running.run_lending.Given as goal

-- the calls so far are a run, and there is room for the replies to the rest
abbrev pub invariant-loop-call : goal.invariant-loop-call
invariant-loop-call g l = record {
  ran : IsRunOf (optional_rules g.L.ResourceLimiter.rules) (take l.call-index l.calls)
      (world l.fn.machine (Some l.fn.limiter)) l.replies.items (world l.machine (Some l.limiter));
  valid : IsValid l.machine;
  count : vec_len l.replies ≡ l.call-index;
  room : length l.calls ≤ vec_capacity l.replies;
}
