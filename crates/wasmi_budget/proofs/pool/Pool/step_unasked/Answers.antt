use Rattle.wasmi_budget.proofs.PoolLemmas.{unasked_kept, unasked_runs}
use Rattle.wasmi_budget.proofs.pool.Pool.step_unasked.Goals as goal

pub invariant_of-self-2 : goal.invariant_of-self-2
invariant_of-self-2 c = unasked_kept c.self.invariant c.args.index c.args.call.now _ _ c.in-Some.ensures.stepped

pub returns-clause-ran : goal.returns-clause-ran
returns-clause-ran c = rw (← c.self.view_is)
    (unasked_runs c.self.invariant c.args.index c.args.call.now _ _ c.in-Some.ensures.stepped)

pub returns-clause-within : goal.returns-clause-within
returns-clause-within c = (invariant_of-self-2 c).within
