use Rattle.std.proofs.Common.{inr}
use Rattle.wasmi_c.specs.Machine.Calls.{RepliesToCopy, RepliesToItems}
use Rattle.wasmi_c.proofs.machine.limited_machine.LimitedMachine.new_data.Goals as goal

pub returns-clause-step : goal.returns-clause-step
unfolding RepliesToCopy RepliesToItems
returns-clause-step c = inr (c.in-Ok.copy, c.in-Ok.ensures.items, c.reply_in_struct.ensures.step)
