-- What a tenant of a pool has reserved stays reserved for its calls, whatever else is done with the pool, and no reply
-- to them says out of memory.
use Rattle.std.proofs.Common.{◌≡◌, ◌∷◌, ◌∙◌, List, None, Some, [], ap, inl, inr, subst, sym, ℕ}
use Rattle.wasmi_laws.proofs.Common.{All-append, All-nil, none-some, same_Some, All, slice_set, optional_rules, IsNotOutOfMemory, State, world, Call, IsReservedFor}
use Rattle.std.proofs.lemmas.Bool.{cases_eq, eq-eqb, ne_eqb}
use Rattle.wasmi_laws.proofs.ReservedLemmas.{elements_stay_reserved, front_told, more_reserved, slots_suffice}
use Rattle.wasmi_laws.specs.ReservedPools.{ReservedTenantsSucceed, SlotsSufficeForTenants, calls_of, replies_of}
use Rattle.wasmi_budget.proofs.IsolationLemmas.{kept_added, kept_set, set_at}
use Rattle.wasmi_budget.proofs.LawsLemmas.{IsVacant, removal_vacates, vacant_stays}
use Rattle.wasmi_budget.specs.Laws.{PoolTurn, Added, Ran, Reserved, ReservedElements, Removed, Refused, PoolRun}
use Rattle.wasmi_budget.specs.Pool.{PoolValue, machine_of, tenant_at, tenant_rules}

module _ (index : ℕ) where
  -- an index without a tenant has no replies
  none_told : (pool : PoolValue) → IsVacant pool index → (turns : List PoolTurn) (pool' : PoolValue)
      → PoolRun pool turns pool' → All IsNotOutOfMemory (replies_of index turns)
  none_told pool vacant [] pool' ran = All-nil IsNotOutOfMemory
  none_told pool vacant (Ran i calls replies ∷ turns) pool' (next, runs, ran) =
      elim (cases_eq i index) [
        | inl is ↦ absurd
            (none-some runs.machine (sym vacant.vacant ∙ ap (machine_of pool) (sym is) ∙ runs.found))
        | inr other ↦ rw (ne_eqb i index other)
            (none_told next (vacant_stays pool index vacant (Ran i calls replies) next runs) turns pool' ran)
      ]
  none_told pool vacant (turn ∷ turns) pool' (next, step, ran) =
      none_told next (vacant_stays pool index vacant turn next step) turns pool' ran

  -- the machine of the index has reserved what calls need
  record IsReady (pool : PoolValue) (calls : List Call) : Type 0 where
    machine : State
    found : machine_of pool index ≡ Some machine
    ready : IsReservedFor machine calls

  module _ (pool : PoolValue) (calls : List Call) (it : IsReady pool calls) (next : PoolValue) where
    -- the machine has reserved it in another pool where it lies there
    stays_at : machine_of next index ≡ Some it.machine → IsReady next calls
    stays_at found = record { machine = it.machine; found = found; ready = it.ready }

    -- where a machine has become another, that is another tenant's, or has reserved as much
    becomes_ready : (i : ℕ) (s s' : State) → machine_of pool i ≡ Some s
        → next ≡ record pool { machines = slice_set pool.machines i (Some s') }
        → (IsReservedFor s calls → IsReservedFor s' calls) → IsReady next calls
    becomes_ready i s s' found after keeps = elim (cases_eq i index) [
      | inl is ↦
          let own = same_Some it.machine s (sym it.found ∙ ap (machine_of pool) (sym is) ∙ found) in
          record {
            machine = s';
            found = rw (after, ← is) (set_at pool.machines i s s' found);
            ready = keeps (rw own at it.ready);
          }
      | inr other ↦ stays_at (rw after
          (kept_set pool.machines index i it.machine (Some s') (λ same. other (sym same)) it.found))
    ]

  -- no reply to the calls of a tenant whose machine has reserved what they need says out of memory
  ready_told : (pool : PoolValue) (turns : List PoolTurn) → IsReady pool (calls_of index turns) → (pool' : PoolValue)
      → PoolRun pool turns pool' → All IsNotOutOfMemory (replies_of index turns)
  ready_told pool [] it pool' ran = All-nil IsNotOutOfMemory
  ready_told pool (Added s ∷ turns) it pool' (next, adds, ran) =
      ready_told next turns (stays_at pool (calls_of index turns) it next
      (rw adds.added (kept_added pool.machines index it.machine (Some s) it.found))) pool' ran
  ready_told pool (Reserved i more ∷ turns) it pool' (next, (caps, reserves), ran) =
      ready_told next turns (becomes_ready pool (calls_of index turns) it next i reserves.machine reserves.machine'
      reserves.found (λ k. record { caps = caps k; machines = reserves.after k })
      (λ r. rw reserves.becomes (more_reserved reserves.machine more (calls_of index turns) r))) pool' ran
  ready_told pool (ReservedElements i table elements reply ∷ turns) it pool' (next, (caps, reserves), ran) =
      ready_told next turns (becomes_ready pool (calls_of index turns) it next i reserves.machine reserves.machine'
      reserves.found (λ k. record { caps = caps k; machines = reserves.after k })
      (elements_stay_reserved reserves.machine table elements reply reserves.machine' (calls_of index turns)
      reserves.becomes.0 reserves.becomes.1)) pool' ran
  ready_told pool (Refused ∷ turns) it pool' (next, same, ran) =
      ready_told next turns (stays_at pool (calls_of index turns) it next (rw same it.found)) pool' ran
  ready_told pool (Removed i s ∷ turns) it pool' (next, removes, ran) =
      elim (cases_eq i index) [
        | inl is ↦ none_told next (subst (IsVacant next) is (removal_vacates pool i s next removes)) turns pool' ran
        | inr other ↦ ready_told next turns (stays_at pool (calls_of index turns) it next (rw removes.removed
            (kept_set pool.machines index i it.machine None (λ same. other (sym same)) it.found))) pool' ran
      ]
  ready_told pool (Ran i calls replies ∷ turns) it pool' (next, runs, ran) =
      elim (cases_eq i index) [
        | inl is ↦
            let own = same_Some it.machine runs.machine (sym it.found ∙ ap (machine_of pool) (sym is) ∙ runs.found) in
            let w = world runs.machine (Some (tenant_at pool i runs.machine)) in
            let w' = world runs.machine' (Some runs.tenant') in
            let front = front_told (optional_rules tenant_rules) (calls_of index turns) calls w replies w'
            (rw (eq-eqb i index is, own) at it.ready) runs.ran in
            rw (eq-eqb i index is) (All-append IsNotOutOfMemory replies (replies_of index turns) front.0
            (ready_told next turns (record {
              machine = runs.machine';
              found = rw (runs.after, ← is) (set_at pool.machines i runs.machine runs.machine' runs.found);
              ready = front.1;
            }) pool' ran))
        | inr other ↦ rw (ne_eqb i index other) (ready_told next turns (record {
          machine = it.machine;
          found = rw runs.after
              (kept_set pool.machines index i it.machine (Some runs.machine') (λ same. other (sym same)) it.found);
          ready = rw (ne_eqb i index other) at it.ready;
        }) pool' ran)
      ]

-- no reply to the calls of a tenant that has reserved what they need says out of memory
pub reserved_tenants_succeed : ReservedTenantsSucceed
reserved_tenants_succeed pool index s found turns pool' r ran =
    ready_told index pool turns (record { machine = s; found = found; ready = r }) pool' ran

-- no reply to the calls of a tenant says out of memory after slots were reserved that are enough
pub slots_suffice_for_tenants : SlotsSufficeForTenants
slots_suffice_for_tenants pool index s found more turns pool' fits (next, (caps, reserves), ran) =
    let own = same_Some s reserves.machine (sym found ∙ reserves.found) in
    ready_told index next turns (record {
      machine = reserves.machine';
      found = rw reserves.after (set_at pool.machines index reserves.machine reserves.machine' reserves.found);
      ready = rw reserves.becomes (slots_suffice reserves.machine more (calls_of index turns) (rw own at fits));
    }) pool' ran
