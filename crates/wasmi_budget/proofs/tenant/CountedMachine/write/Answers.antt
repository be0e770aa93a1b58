use Rattle.std.proofs.Common.{rules}
use Rattle.wasmi_machine.specs.declared.calls.Call.TheVariants.{Write}
use Rattle.wasmi_budget.proofs.TenantLemmas.{counted_alike, total_unasked, write_unasked}
use Rattle.wasmi_budget.proofs.tenant.CountedMachine.write.Goals as goal

pub invariant_of-self : goal.invariant_of-self
invariant_of-self c =
    let written = write_unasked c.args.memory c.args.offset c.args.bytes.now (search rules) c.self.inside.machine
    c.write.result c.write.new.self c.write.ensures.memories c.write.ensures.rest in
    counted_alike c.self.inside.machine c.write.new.self
    (total_unasked _ _ (Write c.args.memory c.args.offset written.0) c.write.result written.2) c.self.invariant

pub returns : goal.returns
returns c = record {
  replied = rw (← c.self.view_is) (write_unasked c.args.memory c.args.offset c.args.bytes.now (search rules)
      c.self.inside.machine c.write.result c.write.new.self c.write.ensures.memories c.write.ensures.rest);
}
