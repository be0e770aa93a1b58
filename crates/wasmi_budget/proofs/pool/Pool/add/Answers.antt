use Rattle.std.proofs.Common.{arith}
use Rattle.wasmi_budget.proofs.PoolLemmas.{kept_added}
use Rattle.wasmi_budget.proofs.pool.Pool.add.Goals as goal

pub invariant_of-self-2 : goal.invariant_of-self-2
invariant_of-self-2 c =
    kept_added _ _ c.args.machine c.self.invariant
    (record {
      bytes = omega (arith, c.total_bytes.ensures, c.if-total_bytes-gt0.false);
      elements = omega (arith, c.total_elements.ensures, c.if-total_elements-gt0.false);
    }) c.push.new.self c.in_default.ensures.added

pub returns-clause-within : goal.returns-clause-within
returns-clause-within c = (invariant_of-self-2 c).within
