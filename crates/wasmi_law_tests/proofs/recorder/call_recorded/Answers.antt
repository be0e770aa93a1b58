use Rattle.wasmi_law_tests.proofs.Common.{optional_rules, sizes}
use Rattle.wasmi_machine.specs.Exchange.{place_of}
use Rattle.wasmi_law_tests.specs.Limiters.{recorder_rules}
use Rattle.wasmi_law_tests.proofs.RunsLemmas.{if_ok_too, one_turn}
use Rattle.wasmi_law_tests.proofs.LimitersLemmas.{traced}
use Rattle.wasmi_law_tests.proofs.recorder.call_recorded.Goals as goal

pub returns : goal.returns
returns c = record {
  trace =
      if_ok_too c.run_lending.result c.run_lending.ensures.run (λ replies ran.
      let one = one_turn (optional_rules recorder_rules) c.args.calls.now _ _ replies.items c.requires.one ran in
      let passed = c.growths_are_permitted.ensures.turn _ one.0 _ one.3 in
      traced c.args.recorder.now c.run_lending.new.limiter (sizes c.args.machine.now)
      (sizes c.run_lending.new.machine) (place_of one.0.call) passed.exchange passed.passes passed.grows);
}
