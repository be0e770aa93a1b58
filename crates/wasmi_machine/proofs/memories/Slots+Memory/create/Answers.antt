use Rattle.std.proofs.Common.{inl, refl}
use Rattle.wasmi_machine.proofs.memories.Slots+Memory.create.Goals as goal

pub returns-then-is_err-clause-made : goal.returns-then-is_err-clause-made
returns-then-is_err-clause-made g c = inl (refl, assumption, refl)
