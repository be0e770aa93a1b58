use Rattle.std.proofs.Common.{◌∙◌, ap, refl}
use Rattle.wasmi_c.proofs.TenantLemmas.{status_is}
use Rattle.wasmi_c.specs.declared.machine.reply_struct.ReplyStruct.{ReplyStruct}
use Rattle.wasmi_c.proofs.machine.limited_machine.LimitedMachine.reserve_elements.Goals as goal

pub returns-clause-step : goal.returns-clause-step
returns-clause-step c = rw (← c.self.view_is) (
  c.reserve_elements-reply.result,
  c.reserve_elements-reply.new.self,
  (c.reserve_elements-reply.ensures.tables, c.reserve_elements-reply.ensures.rest),
  ap (λ (reply : ReplyStruct). reply.status) c.from_reply.ensures ∙ status_is c.reserve_elements-reply.result,
  refl,
)
