use Rattle.std.proofs.Common.{ap, refl, rules}
use Rattle.std.specs.Option.{option_copied_mut}
use Rattle.wasmi_c.proofs.PlacementLemmas.{grown_with}
use Rattle.wasmi_c.proofs.table.grow_under.Goals as goal

pub returns-in-Ok : goal.returns-in-Ok
returns-in-Ok g c = record {
  grown = grown_with _ _ _ _ _ (ap option_copied_mut c.from-lent.ensures) (search rules) c.store_left.ensures
      (rw c.fuel-fuel.ensures at c.grow-grown.ensures.grown) (search rules) refl c.grow-grown.ensures.rest
      c.grow-grown.ensures.refused (rw c.in-Ok.is (refl, refl));
}

pub returns-in-Err : goal.returns-in-Err
returns-in-Err g c = record {
  grown = grown_with _ _ _ _ _ (ap option_copied_mut c.from-lent.ensures) (search rules) c.store_left.ensures
      (rw c.fuel-fuel.ensures at c.grow-grown.ensures.grown) (search rules) refl c.grow-grown.ensures.rest
      c.grow-grown.ensures.refused (rw c.in-Err.is (c.table_refusal.ensures.status, c.table_refusal.ensures.number));
}
