use Rattle.std.proofs.Common.{[], ◌∷◌, refl}
use Rattle.wasmi_example_callers.proofs.interpreter.act.Goals as goal

pub returns-in-Calls : goal.returns-in-Calls
returns-in-Calls g c =
    let (charge, written, step) = c.step_lending.ensures.step in (
      record { call = c.in-Calls.call; reply = c.step_lending.result; charge = charge; written = written } ∷ [],
      (_, step, refl),
      rw c.in-Calls.is (c.step_lending.result, record { calls_of = refl; replies_of = refl }, c.place_after.ensures),
    )
