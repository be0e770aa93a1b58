use Rattle.std.proofs.Common.{◌∙◌}
use Rattle.wasmi_c.proofs.Common.{length-set, RepliesToStruct}
use Rattle.wasmi_c.proofs.MachineLemmas.{next_in_turn}
use Rattle.wasmi_c.proofs.machine.limited_machine.LimitedMachine.run_into.Goals as goal

pub loop-i-preserved : goal.loop-i-preserved
loop-i-preserved c = record {
  ran = next_in_turn RepliesToStruct c.args.calls.now c.loop-i.i _ c.args.self.now c.loop-i.replies
      c.reply_to_struct.result c.loop-i.self c.reply_to_struct.new.self c.loop-i.invariant.ran c.loop-i-test.true
      c.loop-i.invariant.places c.reply_to_struct.ensures.step;
  caps = c.reply_to_struct.ensures.caps ∙ c.loop-i.invariant.caps;
  places = length-set _ _ _ ∙ c.loop-i.invariant.places;
}
