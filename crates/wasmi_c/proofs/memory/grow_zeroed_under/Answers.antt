use Rattle.std.proofs.Common.{ap, refl, rules}
use Rattle.std.specs.Option.{option_copied_mut}
use Rattle.wasmi_c.proofs.PlacementLemmas.{grown_with}
use Rattle.wasmi_c.proofs.memory.grow_zeroed_under.Goals as goal

pub returns-in-Ok-clause-grown : goal.returns-in-Ok-clause-grown
returns-in-Ok-clause-grown g c = grown_with _ _ _ _ _ (ap option_copied_mut c.from-lent.ensures) (search rules)
    c.store_left.ensures (rw c.fuel-fuel.ensures at c.grow_zeroed-grown.ensures.grown) (search rules) refl
    c.grow_zeroed-grown.ensures.rest c.grow_zeroed-grown.ensures.refused (rw c.in-Ok.is (refl, refl))

pub returns-in-Err-clause-grown : goal.returns-in-Err-clause-grown
returns-in-Err-clause-grown g c = grown_with _ _ _ _ _ (ap option_copied_mut c.from-lent.ensures) (search rules)
    c.store_left.ensures (rw c.fuel-fuel.ensures at c.grow_zeroed-grown.ensures.grown) (search rules) refl
    c.grow_zeroed-grown.ensures.rest c.grow_zeroed-grown.ensures.refused
    (rw c.in-Err.is (c.memory_refusal.ensures.status, c.memory_refusal.ensures.number))
