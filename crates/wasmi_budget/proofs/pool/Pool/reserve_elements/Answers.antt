use Rattle.std.proofs.Common.{refl}
use Rattle.wasmi_budget.specs.Pool.{pool_of}
use Rattle.wasmi_budget.proofs.PoolLemmas.{alike_kept, becomes_alike}
use Rattle.wasmi_budget.proofs.TenantLemmas.{elements_alike}
use Rattle.wasmi_budget.proofs.pool.Pool.reserve_elements.Goals as goal

pub invariant_of-self-2 : goal.invariant_of-self-2
invariant_of-self-2 c = alike_kept (becomes_alike (elements_alike c.args.table c.args.elements c.in-Some.reply)
    {pool = pool_of c.self.inside.caps c.self.inside.tenants} (refl, c.in-Some.ensures.reserved)) _ c.self.invariant

pub returns-clause-within : goal.returns-clause-within
returns-clause-within c = (invariant_of-self-2 c).within
