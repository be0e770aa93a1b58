use Rattle.std.proofs.Common.{ap}
use Rattle.wasmi_meter.specs.declared.limiter.Kind.TheVariants.{Bytes, Elements}
use Rattle.wasmi_budget.specs.Pool.{pool_of}
use Rattle.wasmi_budget.proofs.PoolLemmas.{held_at_most, kept_removed}
use Rattle.wasmi_budget.proofs.pool.Pool.remove.Goals as goal

pub overflow_sub-self : goal.overflow_sub-self
overflow_sub-self c =
    held_at_most c.args.index c.self.invariant c.in_ok-machine.ensures.0
    (rw c.machine.view_is at c.machine.invariant) Bytes

pub overflow_sub-self-2 : goal.overflow_sub-self-2
overflow_sub-self-2 c =
    held_at_most c.args.index c.self.invariant c.in_ok-machine.ensures.0
    (rw c.machine.view_is at c.machine.invariant) Elements

pub invariant_of-self-2 : goal.invariant_of-self-2
invariant_of-self-2 c = kept_removed _ _ c.args.index c.in_ok-machine.field-0 _ _ c.self.invariant
    (record {
      found = c.in_ok-machine.ensures.0;
      removed = ap (pool_of c.self.inside.caps) c.in_ok-machine.ensures.1;
    })
    (rw c.machine.view_is at c.machine.invariant)

pub returns-clause-removed : goal.returns-clause-removed
returns-clause-removed c = rw (← c.self.view_is, c.machine.view_is) (record {
  found = c.in_ok-machine.ensures.0;
  removed = ap (pool_of c.self.inside.caps) c.in_ok-machine.ensures.1;
})

pub returns-clause-within : goal.returns-clause-within
returns-clause-within c = (invariant_of-self-2 c).within
