-- The laws of tables on regions: that they are made and grow where they have place, and that they do so as other
-- tables.
use Rattle.std.proofs.Common.{None, inl, inr, refl, arith}
use Rattle.wasmi_region.proofs.Common.{cond-true, Rules, creation_of, same_as_itself, creation_in, growth_in, region_growth}
use Rattle.wasmi_store.specs.Table.{growth_of}
use Rattle.wasmi_store.proofs.DenialLemmas.{attempts, met_or_denied}
use Rattle.wasmi_store.proofs.GrowthLemmas.{grows_too}
use Rattle.wasmi_region.specs.Laws.{TableCreationsSucceed, TableGrowthsSucceed, CreationsAreTables, GrowthsAreTables}

module _ {S : Type 0} (rules : Rules S) where
  -- a creation on a region of at least the minimum
  pub table_creations_succeed : TableCreationsSucceed rules
  table_creations_succeed ty room reference l result l' place makes =
      met_or_denied rules (creation_in ty room) None
      (record {
        early = cond-true _ _ _ (same_as_itself ty.element);
        late = refl;
        paid = refl;
        room = λ cause refuses. omega (arith, place, refuses.1);
      }) _ l l' makes.0 makes.1.may_end makes.1.follows result makes.2

  -- a growth on a region of at least the new size
  pub table_growths_succeed : TableGrowthsSucceed rules
  table_growths_succeed room n reference s result s' can grows =
      elim grows.1 [
        | inl none ↦ inl none.answered
        | inr some ↦
            met_or_denied rules (growth_in room s.value n reference) s.meter
            (record {
              early = cond-true _ _ _ can.indexable;
              late = cond-true _ _ _ can.within;
              paid = can.paid;
              room = λ cause refuses. omega (arith, can.place, refuses.1);
            }) _ s.limiter s'.limiter some.outcome some.attempt.may_end some.attempt.follows result some.answered
      ]

module _ {S : Type 0} (rules : Rules S) where
  -- tables on regions are made as others
  pub creations_are_tables : CreationsAreTables rules
  creations_are_tables ty room reference l result l' makes = (
    makes.0,
    attempts (creation_in ty room) None (creation_of ty ty.element).refuses (λ cause is. is.0) (λ v. v) rules _ _ makes.0 0
        (λ early. refl) makes.1,
    makes.2,
  )

  -- tables on regions grow as others
  pub growths_are_tables : GrowthsAreTables rules
  growths_are_tables room n reference s result s' grows =
      let e = growth_of s.value n reference in (
        grows.0,
        grows_too (region_growth room n reference s.value) e (λ same. same) (λ outcome answered a. (
          answered,
          attempts (growth_in room s.value n reference) e.late e.refuses (λ cause is. is.0) (λ x. x) rules s s' outcome _
              (λ early. refl) a,
        )) grows.1,
      )

-- what tables on regions do as others
pub ruleset tables = (creations_are_tables, growths_are_tables)
