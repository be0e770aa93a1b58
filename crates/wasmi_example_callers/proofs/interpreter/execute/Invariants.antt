use Rattle.std.proofs.Common.{Some, List}
use Rattle.wasmi_meter.specs.Limiter.{optional_rules}
use Rattle.wasmi_core.specs.State.{Turn, world}
use Rattle.wasmi_example_callers.specs.Interpreter.{Reaches}
use Rattle.wasmi_example_callers.proofs.interpreter.execute.Given as goal

-- the instructions so far lead from the first place to this one
abbrev pub invariant-loop-executed : goal.invariant-loop-executed
invariant-loop-executed g l = (turns : List Turn)
    × Reaches (optional_rules g.L.ResourceLimiter.rules) l.program (world l.fn.machine (Some l.fn.limiter)) l.executed
    l.place turns (world l.machine (Some l.limiter))
