use Rattle.wasmi_machine.specs.declared.calls.Call.TheVariants.{Write}
use Rattle.wasmi_budget.proofs.PoolLemmas.{unasked_kept, unasked_runs}
use Rattle.wasmi_budget.proofs.pool.Pool.write.Goals as goal

pub invariant_of-self-2 : goal.invariant_of-self-2
invariant_of-self-2 c =
    let written = c.in-Some.ensures.stepped in
    unasked_kept c.self.invariant c.args.index (Write c.args.memory c.args.offset written.0) c.in-Some.reply _
    written.2

pub returns-clause-ran : goal.returns-clause-ran
returns-clause-ran c =
    let written = c.in-Some.ensures.stepped in (
      written.0,
      written.1,
      rw (← c.self.view_is) (unasked_runs c.self.invariant c.args.index
          (Write c.args.memory c.args.offset written.0) c.in-Some.reply _ written.2),
    )

pub returns-clause-within : goal.returns-clause-within
returns-clause-within c = (invariant_of-self-2 c).within
