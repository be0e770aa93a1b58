use Rattle.std.proofs.Common.{◌≡◌, ◌∙◌, ℕ, Option, Some, None, OnSome, MatchOption, ap}
use Rattle.wasmi_machine.specs.State.{State}
use Rattle.wasmi_budget.specs.Pool.{PoolValue, RemovesTenant, machine_of}
use Rattle.wasmi_budget.specs.Laws.{RemovedStayRemoved}
use Rattle.wasmi_law_tests.specs.Runs.{StaysVacant}
use Rattle.wasmi_law_tests.proofs.runs.remove_for_good.Goals as goal

-- a pool keeps its caps where a tenant is removed, and no tenant has the index from then on
removed : RemovedStayRemoved → (r : Option State) (pool : PoolValue) (index : ℕ) (pool' : PoolValue)
    → MatchOption r ((machine_of pool index ≡ None) × (pool' ≡ pool)) (λ s. RemovesTenant pool index s pool')
    → (pool'.caps ≡ pool.caps) × OnSome r (StaysVacant index pool')
removed vacate None pool index pool' told = (ap (λ (p : PoolValue). p.caps) told.1, tt)
removed vacate (Some s) pool index pool' told =
    (ap (λ (p : PoolValue). p.caps) told.removed, vacate pool index s pool' told)

pub returns : goal.returns
returns c =
    let (caps, vacant) = removed c.removed_stay_removed.ensures c.remove.result _ _ _ c.remove.ensures.removed in
    let later = c.caps_hold.ensures _ c.remove.ensures.within in
    record { later = λ turns p ran. ((later turns p ran).0 ∙ caps, (later turns p ran).1); vacant = vacant }
