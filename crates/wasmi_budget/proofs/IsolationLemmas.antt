-- What a tenant is permitted beside others, it is permitted alone: its runs in a pool, as those of the only tenant, and
-- its machine, which stays at its index over the calls of others.
use Rattle.std.proofs.Common.{◌≡◌, ◌≢◌, ℕ, ◌+◌, ◌-◌, Option, Some, None, Ok, true, List, [], ◌∷◌, ◌++◌, inl, inr, refl, sym, ap, ◌∙◌, arith}
use Rattle.std.proofs.lemmas.Bool.{cases_eq, cases_lt, eq-eqb, ne_eqb}
use Rattle.std.proofs.lemmas.List.{get_or_append_left, get_or-set_other, get_or-set_same}
use Rattle.std.proofs.lemmas.Option.{same_Some}
use Rattle.std.specs.Prelude.{if◌then◌else◌, get_or, nat_eq, slice_set}
use Rattle.std.specs.Option.{option_map}
use Rattle.wasmi_meter.specs.declared.{limiter.Kind.Kind, quota.Amounts.Amounts}
use Rattle.wasmi_meter.specs.declared.limiter.Kind.TheVariants.{Bytes, Elements}
use Rattle.wasmi_meter.specs.Capped.{amount_of, nothing, held_together, Asked}
use Rattle.wasmi_meter.specs.Limiter.{Question, Answer, AskedIf, NoticedIf, optional_rules}
use Rattle.wasmi_machine.specs.declared.{calls.Call.Call, calls.Reply.Reply}
use Rattle.wasmi_machine.specs.State.{State}
use Rattle.wasmi_machine.proofs.HoldingLemmas.{Carries, if_there}
use Rattle.wasmi_budget.specs.declared.tenant.Tenant.{Tenant}
use Rattle.wasmi_budget.specs.Pool.{BecomesAt, capped_tenant, tenant_rules, without_others, PoolValue, machine_of, tenant_at, RunsTenantBy, RunsTenant}
use Rattle.wasmi_budget.proofs.PoolLemmas.{BecomesAlike, becomes_alike, tenant_inside}
use Rattle.wasmi_budget.proofs.TenantLemmas.{elements_alike, slots_alike}
use Rattle.wasmi_budget.specs.Laws.{PoolTurn, Added, Ran, Removed, Refused, Reserved, ReservedElements, PoolRun, PoolStep, PermittingRun, own_turns, OthersDontShow, RunsAsAlone, RepliesPermit}
use Rattle.wasmi_machine.specs.Determinism.{permitting}
use Rattle.wasmi_machine.proofs.RevealingLemmas.{permitted_run, run_carried}

-- nothing, as is held beside a tenant alone, has the amount 0 of each kind
amount_of-nothing : (kind : Kind) → amount_of nothing kind ≡ 0
amount_of-nothing Bytes = refl
amount_of-nothing Elements = refl

-- a tenant that is permitted a difference beside others is permitted it alone
permitted_alone : (tenant tenant' : Tenant) (q : Question) (answer : Answer) → answer ≡ Ok true
    → Asked capped_tenant tenant q answer tenant'
    → Asked capped_tenant (without_others tenant) q answer (without_others tenant')
permitted_alone tenant tenant' q answer permitted (taken, answered, more) =
    let together = held_together capped_tenant tenant q.kind in
    elim (cases_lt (amount_of tenant.caps q.kind) (together + (q.desired - q.current))) [
      | inl above ↦ let denied = (more.takes.above above).0 in absurd cc
      | inr fits ↦ (
        true,
        permitted,
        record {
          takes = record {
            within = λ within. (refl, (more.takes.within fits).1);
            above = λ above. absurd (omega (arith, above, fits, amount_of-nothing q.kind));
          };
          rest = ap without_others more.rest;
        },
      )
    ]

-- what a tenant does where each question is permitted, it does where the others hold nothing
alone_carries : Carries (λ l. Unit {0}) (option_map without_others) (permitting (optional_rules tenant_rules))
    (optional_rules tenant_rules)
alone_carries = record {
  asked = λ l q answer l' here (permitted, asks). (
    tt,
    if_there (λ l l'. AskedIf tenant_rules l q answer l')
        (λ l l'. AskedIf tenant_rules (option_map without_others l) q answer (option_map without_others l'))
        (λ l l'. permitted_alone l l' q answer permitted) (λ permits. permits) (λ l. (λ h. h, λ h. h)) l l' asks,
  );
  noticed = λ l failure answer l' here notices. (
    tt,
    if_there (λ l l'. NoticedIf tenant_rules l failure answer l')
        (λ l l'. NoticedIf tenant_rules (option_map without_others l) failure answer (option_map without_others l'))
        (λ l l' noticed. record {
          accepts = noticed.accepts;
          gives_back = noticed.gives_back;
          rest = ap without_others noticed.rest;
        }) (λ accepts. accepts) (λ l. (λ h. h, λ h. h)) l l' notices,
  );
}

-- a run in which each question is permitted is one where the others hold nothing
pub others_do_not_show : OthersDontShow
others_do_not_show s s' tenant tenant' turns ran =
    (run_carried alone_carries _ turns _ tt ran).1

-- a machine is at its index after another one was added
pub kept_added : (machines : List (Option State)) (index : ℕ) (s : State) (added : Option State)
    → get_or machines index None ≡ Some s → get_or (machines ++ added ∷ []) index None ≡ Some s
kept_added machines index s added found =
    get_or_append_left machines (added ∷ []) None index (tenant_inside machines index s found) ∙ found

-- a machine is at its index after the one at another index has become another, or was removed
pub kept_set : (machines : List (Option State)) (index i : ℕ) (s : State) (t : Option State) → index ≢ i
    → get_or machines index None ≡ Some s → get_or (slice_set machines i t) index None ≡ Some s
kept_set machines index i s t other found = get_or-set_other machines i index t None other ∙ found

-- a machine stays at its index after it was set there in place of another
pub set_at : (machines : List (Option State)) (index : ℕ) (s t : State) → get_or machines index None ≡ Some s
    → get_or (slice_set machines index (Some t)) index None ≡ Some t
set_at machines index s t found =
    get_or-set_same machines index (Some t) None (tenant_inside machines index s found)

-- a pool of one machine
abbrev only : Amounts → State → PoolValue
only caps s = record { caps = caps; machines = Some s ∷ [] }

-- a permitted run in a pool of its own
run_alone : (pool : PoolValue) (index : ℕ) (calls : List Call) (replies : List Reply) (pool' : PoolValue)
    (runs : RunsTenantBy (permitting (optional_rules tenant_rules)) pool index calls replies pool')
    → RunsTenant (only pool.caps runs.machine) 0 calls replies (only pool.caps runs.machine')
run_alone pool index calls replies pool' runs = record {
  machine = runs.machine;
  found = refl;
  machine' = runs.machine';
  tenant' = without_others runs.tenant';
  ran = (
    runs.ran.0,
    runs.ran.1,
    runs.ran.2,
    others_do_not_show runs.machine runs.machine'
        (tenant_at pool index runs.machine) runs.tenant' runs.ran.0 runs.ran.3,
  );
  after = refl;
}

module _ (caps : Amounts) (index : ℕ) (pool' : PoolValue) where
  -- turns alone lead the machine s to the one that the pool ends with
  abbrev EndsAlone : State → List PoolTurn → Type 0
  EndsAlone s turns =
      (s' : State) × (machine_of pool' index ≡ Some s') × PoolRun (only caps s) turns (only caps s')

  -- the machine of the index in a pool with these caps
  record IsThere (pool : PoolValue) (s : State) : Type 0 where
    capped : pool.caps ≡ caps
    found : machine_of pool index ≡ Some s

  -- a machine that has the index in a pool with other machines
  there_among : (pool : PoolValue) (s t : State) (next : PoolValue) (machines : List (Option State)) → IsThere pool s
      → next ≡ record pool { machines = machines } → get_or machines index None ≡ Some t → IsThere next t
  there_among pool s t next machines there is at = record {
    capped = ap PoolValue.caps is ∙ there.capped;
    found = ap (λ p. machine_of p index) is ∙ at;
  }

  -- a permitted run of the tenant of the index is one of the only tenant
  own_run : (pool : PoolValue) (s : State) → IsThere pool s → (calls : List Call) (replies : List Reply)
      (next : PoolValue) → RunsTenantBy (permitting (optional_rules tenant_rules)) pool index calls replies next
      → (t : State) × IsThere next t × RunsTenant (only caps s) 0 calls replies (only caps t)
  own_run pool s there calls replies next runs =
      let own = same_Some runs.machine s (sym runs.found ∙ there.found) in (
        runs.machine',
        there_among pool s runs.machine' next (slice_set pool.machines index (Some runs.machine')) there runs.after
            (set_at pool.machines index s runs.machine' there.found),
        rw (there.capped, own) at (run_alone pool index calls replies next runs),
      )

  module _ (pool : PoolValue) (s : State) (there : IsThere pool s) (next : PoolValue) (i : ℕ)
      (becomes : BecomesAlike pool i next) (turn : PoolTurn)
      (step : PoolStep (only caps becomes.machine) turn (only caps becomes.machine')) (turns : List PoolTurn)
      (rest : (t : State) → IsThere next t → EndsAlone t turns) where
    -- a turn by which a machine became another that has as much is one of the only tenant if the machine is that of the
    -- index, and leaves that otherwise
    by_alike : EndsAlone s (if nat_eq i index then turn ∷ turns else turns)
    by_alike = elim (cases_eq i index) [
      | inl is ↦
          let t = becomes.machine' in
          let own = same_Some becomes.machine s (sym becomes.found ∙ ap (machine_of pool) is ∙ there.found) in
          let tail = rest t (there_among pool s t next (slice_set pool.machines i (Some t)) there becomes.after
          (rw (← is) (set_at pool.machines i becomes.machine t becomes.found))) in
          rw (eq-eqb i index is) (tail.0, tail.1, (only caps t, rw own at step, tail.2))
      | inr other ↦ rw (ne_eqb i index other)
          (rest s (there_among pool s s next (slice_set pool.machines i (Some becomes.machine')) there becomes.after
          (kept_set pool.machines index i s (Some becomes.machine') (λ same. other (sym same)) there.found)))
    ]

  -- a change of the machine of a pool of one
  only_becomes : {change : State → State → Type 0} {s s' : State} → change s s'
      → (caps ≡ caps) × BecomesAt (Some s ∷ []) 0 change (Some s' ∷ [])
  only_becomes how = (refl, record { machine = _; found = refl; machine' = _; becomes = how; after = refl })

  -- calls by which the tenant of the index is never denied end for its machine as its own turns alone do
  ends_alone : (pool : PoolValue) (s : State) → IsThere pool s → (turns : List PoolTurn)
      → PermittingRun index pool turns pool' → EndsAlone s (own_turns index turns)
  ends_alone pool s there [] ran = (s, ap (λ p. machine_of p index) ran ∙ there.found, refl)
  ends_alone pool s there (Added a ∷ turns) (next, adds, ran) =
      ends_alone next s (there_among pool s s next (pool.machines ++ Some a ∷ []) there adds.added
      (kept_added pool.machines index s (Some a) there.found)) turns ran
  ends_alone pool s there (Removed i a ∷ turns) (next, (other, removes), ran) =
      ends_alone next s (there_among pool s s next (slice_set pool.machines i None) there removes.removed
      (kept_set pool.machines index i s None (λ same. other (sym same)) there.found)) turns ran
  ends_alone pool s there (Reserved i more ∷ turns) (next, reserves, ran) =
      by_alike pool s there next i (becomes_alike (slots_alike more) reserves) (Reserved 0 more)
      (only_becomes reserves.1.becomes) (own_turns index turns) (λ t at. ends_alone next t at turns ran)
  ends_alone pool s there (ReservedElements i table elements reply ∷ turns) (next, reserves, ran) =
      by_alike pool s there next i (becomes_alike (elements_alike table elements reply) reserves)
      (ReservedElements 0 table elements reply) (only_becomes reserves.1.becomes) (own_turns index turns)
      (λ t at. ends_alone next t at turns ran)
  ends_alone pool s there (Refused ∷ turns) (next, same, ran) =
      ends_alone next s (there_among pool s s next pool.machines there same there.found) turns ran
  ends_alone pool s there (Ran i calls replies ∷ turns) (next, runs, ran) = elim (cases_eq i index) [
    | inl is ↦
        let own = own_run pool s there calls replies next (rw (eq-eqb i index is, is) at runs) in
        let tail = ends_alone next own.0 own.1 turns ran in
        rw (eq-eqb i index is) (tail.0, tail.1, (only caps own.0, own.2, tail.2))
    | inr other ↦
        let run = rw (ne_eqb i index other) at runs in
        rw (ne_eqb i index other) (ends_alone next s (there_among pool s s next
        (slice_set pool.machines i (Some run.machine')) there run.after
        (kept_set pool.machines index i s (Some run.machine') (λ same. other (sym same)) there.found)) turns ran)
  ]

-- a tenant that is never denied gets what it gets alone under the same caps
pub permitted_runs_as_alone : RunsAsAlone
permitted_runs_as_alone pool index s found turns pool' ran =
    ends_alone pool.caps index pool' pool s (record { capped = refl; found = found }) turns ran

-- a run of which no reply tells of a denial
pub replies_permit : RepliesPermit
replies_permit pool index calls replies pool' shown ran = record {
  machine = ran.machine;
  found = ran.found;
  machine' = ran.machine';
  tenant' = ran.tenant';
  ran = (
    ran.ran.0,
    ran.ran.1,
    ran.ran.2,
    permitted_run (optional_rules tenant_rules) _ ran.ran.0 _ (rw (← ran.ran.2) at shown) ran.ran.3,
  );
  after = ran.after;
}
