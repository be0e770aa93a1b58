use Rattle.std.proofs.Common.{◌≡◌, ◌∙◌, Some, [], ◌∷◌, ap, refl, sym}
use Rattle.wasmi_core.specs.Calls.{GrowMemory, SetRegister}
use Rattle.wasmi_example_callers.specs.Interpreter.{grow_result}
use Rattle.wasmi_example_callers.proofs.InterpreterLemmas.{no_result}
use Rattle.wasmi_example_callers.proofs.interpreter.grow.Goals.{in-Number, in-Memory}
use Rattle.wasmi_example_callers.proofs.interpreter.grow.Goals as goal

pub returns-in_default : goal.returns-in_default
returns-in_default g c =
    let (charge, written, step) = c.step_lending.ensures.step in (
      record { call = GrowMemory 0 c.args.pages; reply = c.step_lending.result; charge = charge; written = written } ∷ [],
      (_, step, refl),
      (
        c.step_lending.result,
        rw (no_result _ c.in_default.not-Number c.in_default.not-Memory)
            (record { calls_of = refl; replies_of = refl }, refl),
      ),
    )

pub returns : goal.returns
returns g c =
    let size = c.match-step_lending.size in
    let is : grow_result c.step_lending.result ≡ Some size = elim c.match-step_lending.branch [
      | in-Number w ↦ ap grow_result w.in-Number.is ∙ ap Some (sym w.size-is)
      | in-Memory w ↦ ap grow_result w.in-Memory.is ∙ ap Some (sym w.size-is)
    ] in
    let (charge, written, step) = c.step_lending.ensures.step in
    let (charge', written', step') = c.step_lending-2.ensures.step in (
      record { call = GrowMemory 0 c.args.pages; reply = c.step_lending.result; charge = charge; written = written }
          ∷ record {
            call = SetRegister c.args.dst c.from-value.result;
            reply = c.step_lending-2.result;
            charge = charge';
            written = written';
          } ∷ [],
      (_, step, (_, step', refl)),
      (c.step_lending.result, rw is (record { calls_of = rw c.from-value.ensures; replies_of = refl })),
    )
