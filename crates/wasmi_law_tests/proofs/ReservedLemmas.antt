-- Calls for which enough was reserved: results of runs into memory that is kept for the replies, runs of a tenant whose
-- replies are those of the machine alone, and a table that is reserved up to its maximum.
use Rattle.std.proofs.Common.{Bool, Err, IsOk, List, Ok, Result, Some, [], ap, refl, sym, ℕ, ◌++◌, ◌∙◌, ◌∷◌, ◌≡◌, ◌≢◌, ⊎_elim, arith, if◌then◌else◌, slice_get, OnOk}
use Rattle.wasmi_law_tests.proofs.Common.{append-nil, same_Some, max, nat_eq, TableValue, optional_rules, Reply, Done, NoRoom, NoSuch, AcceptsNotices, IsDeterministic, RepliesAreOne, State, live_at, IsReservedFor, IsReservedTable, ReservedRunsSucceed, RunsAlone, MatchOption}
use Rattle.std.proofs.lemmas.Bool.{eq-eqb, ne_eqb}
use Rattle.wasmi_machine.specs.declared.{calls.Call.Call, slots.Slot.Slot}
use Rattle.wasmi_machine.specs.declared.slots.Slot.TheVariants.{Live}
use Rattle.wasmi_machine.specs.TableEffects.{ReservesElementsAt}
use Rattle.wasmi_machine.proofs.EffectLemmas.{both_live, on_live}
use Rattle.wasmi_machine.proofs.SlotsLemmas.{live_slot, set_same}
use Rattle.wasmi_budget.specs.Pool.{PoolValue, RunsTenant, machine_of, pool_of, tenant_rules}
use Rattle.wasmi_budget.specs.declared.error.RunIntoError.{RunIntoError}
use Rattle.wasmi_budget.specs.declared.error.RunIntoError.TheVariants.{NoTenant, TooManyCalls}
use Rattle.wasmi_law_tests.proofs.RunsLemmas.{RunsWithMemory, pools_same}

-- a result that is accepted and has no value
pub accepted : {E : Type 0} (result : Result (Unit {0}) E) → IsOk result → result ≡ Ok tt
accepted (Ok done) is = refl
accepted (Err error) is = absurd cc

-- a run of a tenant that is there, for whose replies there is memory, is accepted
pub accepted_there : (result : Result (Unit {0}) RunIntoError) → result ≢ Err NoTenant → result ≢ Err TooManyCalls
    → result ≡ Ok tt
accepted_there (Ok done) there room = refl
accepted_there (Err NoTenant) there room = absurd (there refl)
accepted_there (Err TooManyCalls) there room = absurd (room refl)

-- a run of a tenant whose machine has reserved enough for the calls is one with memory
abbrev pub run_with_memory : ReservedRunsSucceed (optional_rules tenant_rules)
    → (pool : PoolValue) (index : ℕ) (calls : List Call) (replies : List Reply) (pool' : PoolValue)
    → ((s : State) → machine_of pool index ≡ Some s → IsReservedFor s calls)
    → RunsTenant pool index calls replies pool' → RunsWithMemory pool index calls pool'
run_with_memory suffices pool index calls replies pool' reserved ran = record {
  replies = replies;
  has = suffices calls _ replies _ (reserved ran.machine ran.found) ran.ran;
  ran = ran;
}

-- a run of a tenant that is never denied, and one of an equal machine alone, have the same replies and leave equal
-- machines, where enough is reserved
pub as_alone : RepliesAreOne tenant_rules → IsDeterministic tenant_rules → AcceptsNotices tenant_rules
    → ReservedRunsSucceed (optional_rules tenant_rules)
    → (pool pool' alone alone' : PoolValue) (index : ℕ) (calls : List Call) (replies replies' : List Reply)
    → ((s : State) → machine_of pool index ≡ Some s → alone ≡ pool_of pool.caps (Some s ∷ []))
    → ((s : State) → machine_of pool index ≡ Some s → IsReservedFor s calls)
    → RunsAlone pool index calls replies pool' → RunsTenant alone 0 calls replies' alone'
    → (replies ≡ replies') × (machine_of pool' index ≡ machine_of alone' 0)
as_alone one once accepts suffices pool pool' alone alone' index calls replies replies' equal reserved
    (s, s', found, found', (next, ran, ended)) second =
    let start = pool_of pool.caps (Some s ∷ []) in
    let end = pool_of pool.caps (Some s' ∷ []) in
    let has : (m : State) → machine_of start 0 ≡ Some m → IsReservedFor m calls =
    λ m there. rw (same_Some s m there) at (reserved s found) in
    let same = pools_same one once accepts start end alone' 0 calls
    (run_with_memory suffices start 0 calls replies end has (rw ended ran))
    (run_with_memory suffices start 0 calls replies' alone' has (rw (equal s found) at second)) in
    (same.0, found' ∙ ap (λ p. machine_of p 0) same.1)

-- a table for whose elements up to its maximum memory was reserved is reserved
pub reserved_table : (k n : ℕ) (slots : List (Slot TableValue)) (reply : Reply) (slots' : List (Slot TableValue))
    → MatchOption (live_at slots k) (Unit {0}) (λ x. x.ty.maximum ≡ Some n) → ReservesElementsAt k n slots reply slots'
    → reply ≡ Done → IsReservedTable slots' k
reserved_table k n slots reply slots' most reserves done = on_live (live_at slots k) _ _
    (both_live (live_at slots k) _ _ _ _ most reserves)
    (λ missing. let other : NoSuch ≡ Done = sym missing.1.0 ∙ done in absurd cc)
    (λ x found h. ⊎_elim (λ kept.
    rw (h.1.2, set_same slots k (Live h.1.0) (Live x) (live_slot (slice_get slots k) x found))
    (rw (ap (λ (t : TableValue). t.ty.maximum) kept.1 ∙ h.0)
    (let is : h.1.0.reserved ≡ max x.reserved n = ap (λ (t : TableValue). t.reserved) kept.1 in grind (arith, is))))
    (λ refused. let other : NoRoom ≡ Done = sym refused.0 ∙ done in absurd cc) h.1.1)

-- of the calls or replies of a run of another tenant and of one of a tenant, the tenant has those of its own
pub own_alone : {A : Type 0} (index other : ℕ) → other ≢ index → (between own : List A)
    → (let rest = if nat_eq index index then own ++ [] else [] in
    if nat_eq other index then between ++ rest else rest) ≡ own
own_alone {A} index other another between own =
    let rest : List A = if nat_eq index index then own ++ [] else [] in
    ap (λ (b : Bool). if b then between ++ rest else rest) (ne_eqb other index another)
    ∙ ap (λ (b : Bool). if b then own ++ [] else []) (eq-eqb index index refl) ∙ append-nil own
