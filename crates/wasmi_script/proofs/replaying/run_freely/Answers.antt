use Rattle.std.proofs.Common.{refl, ap}
use Rattle.std.specs.Option.{option_copied_mut}
use Rattle.wasmi_script.proofs.ScriptRunsLemmas.{run_from, starts}
use Rattle.wasmi_script.proofs.replaying.run_freely.Goals as goal

pub returns : goal.returns
returns c =
    let start = starts c.args.header.now c.in_ok-machine.machine _ _ c.in_ok-machine.ensures
    c.as_mut.ensures.value c.in_ok-region.ensures in (
      refl,
      _,
      run_from _ _ _ _ _ _ _ _ start (ap option_copied_mut c.default-limiter.ensures) c.in_ok-replies.ensures.run,
    )
