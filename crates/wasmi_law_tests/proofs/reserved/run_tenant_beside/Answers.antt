use Rattle.std.proofs.Common.{◌∷◌, [], refl, subst, sym}
use Rattle.wasmi_law_tests.proofs.Common.{All, IsNotOutOfMemory, FitsSlots, on_ok_weaker}
use Rattle.wasmi_budget.specs.Laws.{Ran}
use Rattle.wasmi_law_tests.proofs.ReservedLemmas.{own_alone}
use Rattle.wasmi_law_tests.proofs.reserved.run_tenant_beside.Goals as goal

pub returns : goal.returns
returns c =
    let index = c.args.index in
    let other = c.args.other in
    let first = c.run_into-beside.new.replies.items in
    let second = c.run_into.new.replies.items in
    let turns = Ran other c.args.between.now first ∷ Ran index c.args.calls.now second ∷ [] in
    record {
      has = on_ok_weaker c.reserve-reserved.result (λ reserves. on_ok_weaker c.run_into-beside.result (λ between.
          on_ok_weaker c.run_into.result (λ last.
          subst (All IsNotOutOfMemory) (own_alone index other c.requires.another first second)
          (c.reserved_tenants_suffice.ensures.slots c.args.pool.now index reserves.1.machine reserves.1.found c.args.slots
          turns c.run_into.new.self (subst (FitsSlots reserves.1.machine c.args.slots)
          (sym (own_alone index other c.requires.another c.args.between.now c.args.calls.now))
          (c.requires.fits reserves.1.machine reserves.1.found)) (
            c.reserve-reserved.new.self,
            reserves,
            (c.run_into-beside.new.self, between, (c.run_into.new.self, last, refl)),
          ))) c.run_into.ensures.ran) c.run_into-beside.ensures.ran) c.reserve-reserved.ensures.reserved;
    }
