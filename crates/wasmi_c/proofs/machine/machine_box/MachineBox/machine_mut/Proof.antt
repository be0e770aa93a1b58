-- `machine_mut` lends the machine, and the box follows it.
use Rattle.wasmi_c.proofs.Common.{tables_of, machine_row}
use Rattle.wasmi_c.proofs.HeldBoxLemmas.{lends_value, machine_holder}
use Rattle.wasmi_c.proofs.machine.limited_machine.LimitedMachine.TheLaws.{the_row_laws}
use Rattle.wasmi_c.specs.contracts.machine.machine_box.MachineBox.machine_mut.Key.{name as #self}
use Rattle.wasmi_c.proofs.machine.machine_box.MachineBox.machine_mut.Statement as stated
use Rattle.wasmi_c.proofs.machine.machine_box.MachineBox.machine_mut.Code as code

pub machine_mut_spec : {M : Type 1} → stated.statement M
unfolding tables_of
machine_mut_spec 𝓤 𝓛 𝓜 𝓡 wired =
    lends_value machine_row the_row_laws machine_holder _ _ 𝓛 𝓜 𝓡 #self (code.unfolded 𝓤 𝓛.H 𝓜 𝓡 wired)
