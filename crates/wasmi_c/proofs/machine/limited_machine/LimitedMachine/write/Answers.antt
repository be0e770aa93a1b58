use Rattle.std.proofs.Common.{rules}
use Rattle.wasmi_c.specs.Machine.Calls.{RepliesToItems}
use Rattle.wasmi_c.proofs.MachineLemmas.{machine_writes}
use Rattle.wasmi_c.proofs.machine.limited_machine.LimitedMachine.write.Goals as goal

pub returns-clause-step : goal.returns-clause-step
unfolding RepliesToItems
returns-clause-step c =
    let written = machine_writes c.args.self.now _ _ c.self.view_is c.args.memory c.args.offset c.args.bytes.now
    (search rules) c.write.result c.write.new.self c.write.ensures.memories c.write.ensures.rest in
    (written.0, written.1, (c.write.result, written.2, c.from_common.ensures))
