use Rattle.std.proofs.Common.{inr}
use Rattle.wasmi_c.specs.Pool.{TenantRepliesToCopy, TenantRepliesToItems}
use Rattle.wasmi_c.proofs.pool.TenantPool.new_data.Goals as goal

pub returns-clause-step : goal.returns-clause-step
unfolding TenantRepliesToCopy TenantRepliesToItems
returns-clause-step c = inr (c.in-Ok.copy, c.in-Ok.ensures.items, c.reply.ensures.step)
