use Rattle.std.proofs.Common.{◌≡◌, length, take}
use Rattle.wasmi_meter.specs.AnyLimiter.{caps_of}
use Rattle.wasmi_c.specs.Machine.Calls.{InTurn, RepliesToStruct}
use Rattle.wasmi_c.proofs.machine.limited_machine.LimitedMachine.run_into.Given as goal

-- the calls so far are replied to in turn, within the caps
abbrev pub invariant-loop-i : goal.invariant-loop-i
invariant-loop-i l = record {
  ran : InTurn RepliesToStruct (take l.i l.calls) l.fn.self (take l.i l.replies) l.self;
  caps : caps_of l.self.limiter ≡ caps_of l.fn.self.limiter;
  places : length l.replies ≡ length l.calls;
}
