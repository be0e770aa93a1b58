-- Results of runs of a machine or of a tenant of a pool: what holds after a run that was accepted or refused, runs in
-- lent regions, of calls whose types are valid or without lack of memory, and tenants that run as alone.
use Rattle.std.proofs.Common.{[], ◌≡◌, Option, Some, OnErr, Result, Ok, Err, List, ◌∷◌, length, map, refl, ap, arith, IfOk, ℕ, true}
use Rattle.wasmi_law_tests.proofs.Common.{All-cons, All-head, All-nil, All-tail, same_Some, All, nat_eq, MemoryTypeValue, Rules, optional_rules, Reply, World, Turn, world, IsValid, IsValidCall, State, Step, Run, Sequence, IsRunOf, IsNotOutOfMemory, IsDeterministic, AcceptsNotices, permitting, FitsAnyRegions, HasRegionFor, RunsAlone, LentCreationsAreOwned, RunsKeepValidity, RepliesAreOne}
use Rattle.wasmi_machine.specs.declared.calls.Call.{Call}
use Rattle.wasmi_machine.specs.declared.calls.Call.TheVariants.{NewMemory, NewLentMemory}
use Rattle.wasmi_machine.specs.LentMemory.{RunInRegions, unlent_world}
use Rattle.std.proofs.lemmas.Bool.Decides.{nat_tests}
use Rattle.wasmi_budget.specs.declared.tenant.Tenant.{Tenant}
use Rattle.wasmi_budget.specs.Pool.{tenant_rules, PoolValue, RunsTenantBy, RunsTenant}
use Rattle.wasmi_budget.specs.Laws.{RunsAsAlone, Ran}

-- the turn of a call with its reply, what was charged and how many bytes were written
abbrev pub turn_with : Call → Reply → ℕ → ℕ → Turn
turn_with call reply charge written = record { call = call; reply = reply; charge = charge; written = written }

-- from a fact of an accepted result to another
pub if_ok_too : {T E : Type 0} {P Q : T → Type 0} (r : Result T E) → IfOk r P → ((x : T) → P x → Q x) → IfOk r Q
if_ok_too (Ok x) h too = too x h
if_ok_too (Err e) h too = tt

-- what holds after a run that was accepted, and also after one that was refused, holds after either
pub by_result : {R E Q C : Type 0} {P : R → Type 0} (r : Result R E) → IfOk r P → OnErr r Q → ((x : R) → P x → C)
    → (Q → C) → C
by_result (Ok x) accepted refused by_ok by_err = by_ok x accepted
by_result (Err error) accepted refused by_ok by_err = by_err refused

-- the parts of a world that is the same
pub same_parts : {L : Type 0} {s s' : State} {l l' : L} → world s' (Some l') ≡ world s (Some l) → (s' ≡ s) × (l' ≡ l)
same_parts {L} {s} {s'} {l} {l'} same = (
  ap (λ (w : World (Option L)). w.state) same,
  same_Some l' l (ap (λ (w : World (Option L)). w.limiter) same),
)

module _ {S : Type 0} (rules : Rules S) where
  -- a run of one call is one step
  pub one_turn : (calls : List Call) (w w' : World S) (replies : List Reply) → length calls ≡ 1
      → IsRunOf rules calls w replies w'
      → (turn : Turn) × (turn.call ∷ [] ≡ calls) × (turn.reply ∷ [] ≡ replies) × Step rules w turn w'
  one_turn calls w w' replies one ([], made, told, ran) = absurd (omega (arith, one, ap length made))
  one_turn calls w w' replies one (turn ∷ [], made, told, (v, step, ran)) =
      (turn, made, told, rw ran step)
  one_turn calls w w' replies one (turn ∷ t ∷ turns, made, told, ran) = absurd (omega (arith, one, ap length made))

  -- a run of calls that fit any regions is one in which each fits its regions
  pub fitting_runs : (w : World S) (turns : List Turn) (w' : World S) → All FitsAnyRegions (map Turn.call turns)
      → Run rules w turns w' → RunInRegions rules w turns w'
  fitting_runs w [] w' fits ran = ran
  fitting_runs w (turn ∷ turns) w' fits (v, step, ran) = (
    v,
    (All-head FitsAnyRegions turn.call (map Turn.call turns) fits w.state, step),
    fitting_runs v turns w' (All-tail FitsAnyRegions turn.call (map Turn.call turns) fits) ran,
  )

  -- a run of one creation in the spare region is one of a machine with memories of its own
  pub made_owned : LentCreationsAreOwned rules
      → (ty : MemoryTypeValue) (calls : List Call) (w w' : World S) (replies : List Reply)
      → calls ≡ NewLentMemory ty ∷ [] → HasRegionFor ty w.state → IsRunOf rules calls w replies w'
      → IsRunOf rules (NewMemory ty ∷ []) (unlent_world w) replies (unlent_world w')
  made_owned owns ty calls w w' replies is region ran =
      let (turn, made, told, step) = one_turn calls w w' replies (ap length is) ran in
      let call : turn.call ≡ NewLentMemory ty = cc in (
        record turn { call = NewMemory ty } ∷ [],
        refl,
        told,
        (unlent_world w', owns w turn w' ty region.0 call region.1 region.2 step, refl),
      )

  -- every turn of a run of calls whose types are valid leads to a valid state
  pub stays_valid : RunsKeepValidity rules → (w : World S) (turns : List Turn) (w' : World S) → IsValid w.state
      → All IsValidCall (map Turn.call turns) → Run rules w turns w'
      → Sequence (λ v turn v'. Step rules v turn v' × IsValid v'.state) w turns w'
  stays_valid keeps w [] w' valid named ran = ran
  stays_valid keeps w (turn ∷ turns) w' valid named (v, step, ran) =
      let first = All-head IsValidCall turn.call (map Turn.call turns) named in
      let rest = All-tail IsValidCall turn.call (map Turn.call turns) named in
      let alone = All-cons IsValidCall turn.call [] first (All-nil IsValidCall) in
      let after = keeps w (turn ∷ []) v valid alone (v, step, refl) in
      (v, (step, after), stays_valid keeps v turns w' after rest ran)

-- a run of a tenant in which each question was permitted is that of the only tenant
pub alone_after : RunsAsAlone
    → (pool : PoolValue) (index : ℕ) (calls : List Call) (replies : List Reply) (pool' : PoolValue)
    → RunsTenantBy (permitting (optional_rules tenant_rules)) pool index calls replies pool'
    → RunsAlone pool index calls replies pool'
alone_after as_alone pool index calls replies pool' permitted =
    let same : nat_eq index index ≡ true = grind (arith, nat_tests) in
    let after = as_alone pool index permitted.machine permitted.found (Ran index calls replies ∷ []) pool'
    (pool', rw same permitted, refl) in
    (permitted.machine, after.0, permitted.found, after.1, rw same at after.2)

-- a run of a tenant of which no reply tells of lack of memory
pub record RunsWithMemory (pool : PoolValue) (index : ℕ) (calls : List Call) (pool' : PoolValue) : Type 0 where
  pub replies : List Reply
  pub has : All IsNotOutOfMemory replies
  pub ran : RunsTenant pool index calls replies pool'

-- two runs of one tenant from one pool, of which no reply tells of lack of memory, have the same replies, and leave the
-- same pool
pub pools_same : RepliesAreOne tenant_rules → IsDeterministic tenant_rules → AcceptsNotices tenant_rules
    → (pool p p' : PoolValue) (index : ℕ) (calls : List Call)
    → (a : RunsWithMemory pool index calls p) (b : RunsWithMemory pool index calls p')
    → (a.replies ≡ b.replies) × (p ≡ p')
pools_same one once accepts pool p p' index calls a b =
    let first = a.ran in
    let second = b.ran in
    let found : second.machine ≡ first.machine = cc in
    let ran = rw found at second.ran in
    let same = one once accepts calls _ a.replies b.replies _ _ a.has b.has first.ran ran in
    let machine : first.machine' ≡ second.machine' = ap (λ (w : World (Option Tenant)). w.state) same.1 in
    (same.0, rw (first.after, second.after, machine) refl)
