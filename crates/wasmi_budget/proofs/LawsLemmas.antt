-- What stays over all calls on a pool: its caps, that all machines together are within them, and that the index of a
-- removed tenant is vacant.
use Rattle.std.proofs.Common.{◌≡◌, Option, Some, List, refl, sym, ◌∙◌, ℕ, ◌<◌, None, length, [], ◌∷◌, ap, arith}
use Rattle.std.proofs.lemmas.List.{get_or_append_left, get_or-set_other, get_or-set_same, length-append, length-set}
use Rattle.std.proofs.lemmas.Option.{none-some}
use Rattle.wasmi_machine.specs.State.{State}
use Rattle.wasmi_budget.specs.Pool.{PoolValue, IsWithinCaps, machine_of, RemovesTenant}
use Rattle.std.specs.Prelude.{slice_set}
use Rattle.wasmi_budget.specs.Laws.{PoolTurn, Added, Ran, Removed, Refused, Reserved, ReservedElements, PoolStep, PoolRun, RemovedStayRemoved}
use Rattle.wasmi_budget.proofs.PoolLemmas.{runs_within, adds_within, removes_within, BecomesAlike, becomes_alike, alike_within, tenant_inside}
use Rattle.wasmi_budget.proofs.TenantLemmas.{slots_alike, elements_alike}

-- one call keeps the caps
caps_stay : (pool : PoolValue) (turn : PoolTurn) (pool' : PoolValue) → PoolStep pool turn pool' → pool'.caps ≡ pool.caps
caps_stay pool (Added s) pool' adds = ap PoolValue.caps adds.added
caps_stay pool (Ran index calls replies) pool' runs = ap PoolValue.caps runs.after
caps_stay pool (Reserved index more) pool' reserves = reserves.0
caps_stay pool (ReservedElements index table elements reply) pool' reserves = reserves.0
caps_stay pool (Removed index s) pool' removes = ap PoolValue.caps removes.removed
caps_stay pool Refused pool' same = ap PoolValue.caps same

-- one call keeps the pool within its caps
step_within : (pool : PoolValue) (turn : PoolTurn) (pool' : PoolValue) → IsWithinCaps pool → PoolStep pool turn pool'
    → IsWithinCaps pool'
step_within pool (Added s) pool' within adds = adds_within pool s pool' within adds
step_within pool (Ran index calls replies) pool' within runs = runs_within pool index calls replies pool' within runs
step_within pool (Reserved index more) pool' within reserves =
    alike_within (becomes_alike (slots_alike more) reserves) within
step_within pool (ReservedElements index table elements reply) pool' within reserves =
    alike_within (becomes_alike (elements_alike table elements reply) reserves) within
step_within pool (Removed index s) pool' within removes = removes_within pool index s pool' within removes
step_within pool Refused pool' within same = rw same within

-- calls one after another keep the caps, and the pool within them
pub caps_hold : (pool : PoolValue) → IsWithinCaps pool → (turns : List PoolTurn) (pool' : PoolValue)
    → PoolRun pool turns pool' → (pool'.caps ≡ pool.caps) × IsWithinCaps pool'
caps_hold pool within [] pool' ran = rw ran (refl, within)
caps_hold pool within (turn ∷ turns) pool' (next, step, ran) =
    let rest = caps_hold next (step_within pool turn next within step) turns pool' ran in
    (rest.0 ∙ caps_stay pool turn next step, rest.1)

-- an index that was given, and has no tenant
pub record IsVacant (pool : PoolValue) (index : ℕ) : Type 0 where
  pub given : index < length pool.machines
  pub vacant : machine_of pool index ≡ None

module _ (pool : PoolValue) (index : ℕ) (vacant : IsVacant pool index) where
  -- a vacant index stays so where another index gets another machine or none
  vacant_set : (i : ℕ) (s : State) (t : Option State) (pool' : PoolValue) → machine_of pool i ≡ Some s
      → pool' ≡ record pool { machines = slice_set pool.machines i t } → IsVacant pool' index
  vacant_set i s t pool' found is = rw is (record {
    given = omega (arith, vacant.given, length-set pool.machines i t);
    vacant = get_or-set_other pool.machines i index t None
        (λ same. absurd (none-some s (sym vacant.vacant ∙ ap (machine_of pool) same ∙ found))) ∙ vacant.vacant;
  })

  -- and where another machine has become another that has as much
  vacant_alike : (i : ℕ) (pool' : PoolValue) → BecomesAlike pool i pool' → IsVacant pool' index
  vacant_alike i pool' becomes =
      vacant_set i becomes.machine (Some becomes.machine') pool' becomes.found becomes.after

  -- a vacant index stays so after one call
  pub vacant_stays : (turn : PoolTurn) (pool' : PoolValue) → PoolStep pool turn pool' → IsVacant pool' index
  vacant_stays (Added s) pool' adds = rw adds.added (record {
    given = omega (arith, vacant.given, length-append pool.machines (Some s ∷ []));
    vacant = get_or_append_left pool.machines (Some s ∷ []) None index vacant.given ∙ vacant.vacant;
  })
  vacant_stays (Ran i calls replies) pool' runs =
      vacant_set i runs.machine (Some runs.machine') pool' runs.found runs.after
  vacant_stays (Reserved i more) pool' reserves =
      vacant_alike i pool' (becomes_alike (slots_alike more) reserves)
  vacant_stays (ReservedElements i table elements reply) pool' reserves =
      vacant_alike i pool' (becomes_alike (elements_alike table elements reply) reserves)
  vacant_stays (Removed i s) pool' removes = vacant_set i s None pool' removes.found removes.removed
  vacant_stays Refused pool' same = rw same vacant

-- and after all of them
vacant_for_ever : (pool : PoolValue) (index : ℕ) → IsVacant pool index → (turns : List PoolTurn) (pool' : PoolValue)
    → PoolRun pool turns pool' → IsVacant pool' index
vacant_for_ever pool index vacant [] pool' ran = rw ran vacant
vacant_for_ever pool index vacant (turn ∷ turns) pool' (next, step, ran) =
    vacant_for_ever next index (vacant_stays pool index vacant turn next step) turns pool' ran

-- the index of a removed tenant has none
pub removal_vacates : (pool : PoolValue) (index : ℕ) (s : State) (pool' : PoolValue) → RemovesTenant pool index s pool'
    → IsVacant pool' index
removal_vacates pool index s pool' removes = rw removes.removed (record {
  given = omega (arith, inside, length-set pool.machines index None);
  vacant = get_or-set_same pool.machines index None None inside;
})
  where
    inside : index < length pool.machines
    inside = tenant_inside pool.machines index s removes.found

-- no tenant has the index of a removed one later
pub removed_stay_removed : RemovedStayRemoved
removed_stay_removed pool index s pool' removes turns later ran =
    (vacant_for_ever pool' index (removal_vacates pool index s pool' removes) turns later ran).vacant
