use Rattle.std.proofs.Common.{◌∙◌, inr, sym}
use Rattle.wasmi_c.specs.Pool.{TenantRepliesToCopy, TenantRepliesToItems}
use Rattle.wasmi_c.proofs.pool.TenantPool.new_segment.Goals as goal

pub returns-clause-step : goal.returns-clause-step
unfolding TenantRepliesToCopy TenantRepliesToItems
returns-clause-step c =
    rw (sym c.reference_type.ensures ∙ c.in-Some.is) (inr (c.in-Ok.items, c.in-Ok.ensures, c.reply.ensures.step))
