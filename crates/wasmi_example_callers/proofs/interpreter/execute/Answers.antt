use Rattle.std.proofs.Common.{◌≡◌, Some, None, ◌++◌, refl, arith, add-one}
use Rattle.wasmi_meter.specs.Limiter.{optional_rules}
use Rattle.wasmi_core.specs.State.{world}
use Rattle.wasmi_example_callers.proofs.InterpreterLemmas.{execution, execution_run}
use Rattle.wasmi_example_callers.proofs.interpreter.execute.Goals as goal

pub returns-in-Err-clause-executed : goal.returns-in-Err-clause-executed
returns-in-Err-clause-executed g c =
    execution (optional_rules g.L.ResourceLimiter.rules) c.runs_join.ensures.turns c.charges_are_spent.ensures
    c.fuel_bounds_writing.ensures c.args.program.now (world c.args.machine.now (Some c.args.limiter.now))
    (c.loop-executed.invariant.0 ++ c.in-Err.ensures.0)
    (record { ending = Some c.in-Err.ending; place = c.loop-executed.place; executed = c.loop-executed.executed })
    (world c.step.new.machine (Some c.step.new.limiter)) (
      c.loop-executed.invariant.0,
      world c.loop-executed.machine (Some c.loop-executed.limiter),
      c.loop-executed.invariant.1,
      (c.in-Err.ensures.0, c.in-Err.ensures.1, refl),
    )

pub returns-in-Err-clause-run : goal.returns-in-Err-clause-run
returns-in-Err-clause-run g c =
    execution_run (optional_rules g.L.ResourceLimiter.rules) c.runs_join.ensures.turns c.charges_are_spent.ensures
    c.fuel_bounds_writing.ensures c.args.program.now (world c.args.machine.now (Some c.args.limiter.now)) _
    (record { ending = Some c.in-Err.ending; place = c.loop-executed.place; executed = c.loop-executed.executed })
    _ (returns-in-Err-clause-executed g c).1

pub returns-clause-executed : goal.returns-clause-executed
returns-clause-executed g c =
    let all : c.loop-executed.executed ≡ c.args.steps = omega arith in
    execution (optional_rules g.L.ResourceLimiter.rules) c.runs_join.ensures.turns c.charges_are_spent.ensures
    c.fuel_bounds_writing.ensures c.args.program.now (world c.args.machine.now (Some c.args.limiter.now))
    c.loop-executed.invariant.0 (record { ending = None; place = c.loop-executed.place; executed = c.args.steps })
    (world c.loop-executed.machine (Some c.loop-executed.limiter)) (
      c.loop-executed.invariant.0,
      world c.loop-executed.machine (Some c.loop-executed.limiter),
      rw all at c.loop-executed.invariant.1,
      (refl, refl),
    )

pub returns-clause-run : goal.returns-clause-run
returns-clause-run g c =
    execution_run (optional_rules g.L.ResourceLimiter.rules) c.runs_join.ensures.turns c.charges_are_spent.ensures
    c.fuel_bounds_writing.ensures c.args.program.now (world c.args.machine.now (Some c.args.limiter.now)) _
    (record { ending = None; place = c.loop-executed.place; executed = c.args.steps }) _ (returns-clause-executed g c).1

pub loop-executed-preserved : goal.loop-executed-preserved
loop-executed-preserved g c = (
  c.loop-executed.invariant.0 ++ c.in-Ok.ensures.0,
  rw (add-one c.loop-executed.executed) (
    c.loop-executed.place,
    c.loop-executed.invariant.0,
    world c.loop-executed.machine (Some c.loop-executed.limiter),
    c.loop-executed.invariant.1,
    c.in-Ok.ensures.0,
    c.in-Ok.ensures.1,
    refl,
  ),
)
