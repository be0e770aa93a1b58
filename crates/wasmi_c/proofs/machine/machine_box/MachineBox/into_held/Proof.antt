-- `into_held` moves two fields, and what they own goes with them.
use Rattle.wasmi_c.proofs.Common.{tables_of, yes}
use Rattle.wasmi_c.proofs.HeldBoxLemmas.{held_holder, moves, machine_holder, machine_in_box as E}
use Rattle.wasmi_c.specs.contracts.machine.machine_box.MachineBox.into_held.Key.{name as #self}
use Rattle.wasmi_c.proofs.machine.machine_box.MachineBox.into_held.Statement as stated
use Rattle.wasmi_c.proofs.machine.machine_box.MachineBox.into_held.Code as code

pub into_held_spec : {M : Type 1} → stated.statement M
unfolding tables_of
into_held_spec 𝓤 𝓛 𝓜 𝓡 wired =
    let To = held_holder E.row E.laws in
    moves machine_holder To yes 𝓛 𝓜 𝓡 (λ s. tt) (λ s last. tt) #self _ _ (code.unfolded 𝓤 𝓛.H 𝓜 𝓡 wired)
