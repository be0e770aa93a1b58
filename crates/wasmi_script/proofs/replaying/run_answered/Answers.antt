use Rattle.std.proofs.Common.{◌≡◌, Some, refl, rules, ap}
use Rattle.wasmi_meter.specs.AnswerList.{new_answers}
use Rattle.wasmi_script.proofs.ScriptRunsLemmas.{run_from, starts}
use Rattle.wasmi_script.proofs.replaying.run_answered.Goals as goal

pub returns : goal.returns
returns c =
    let start = starts c.args.header.now c.in_ok-machine.machine _ _ c.in_ok-machine.ensures
    c.as_mut.ensures.value c.in_ok-region.ensures in
    let new : c.new-limiter.result ≡ new_answers c.args.answers.now = search rules in (
      refl,
      _,
      run_from _ _ _ _ _ _ _ _ start (ap (λ l. Some l) new) c.in_ok-replies.ensures.run,
    )
