use Rattle.std.proofs.Common.{◌∙◌, inr, sym}
use Rattle.wasmi_c.specs.Machine.Calls.{RepliesToCopy, RepliesToItems}
use Rattle.wasmi_c.proofs.machine.limited_machine.LimitedMachine.new_segment.Goals as goal

pub returns-clause-step : goal.returns-clause-step
unfolding RepliesToCopy RepliesToItems
returns-clause-step c =
    rw (sym c.reference_type.ensures ∙ c.in-Some.is)
    (inr (c.in-Ok.items, c.in-Ok.ensures, c.reply_in_struct.ensures.step))
