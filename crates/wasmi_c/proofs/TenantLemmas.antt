-- Calls on a tenant's machine that change nothing or take fuel, and the statuses of their replies.
use Rattle.std.proofs.Common.{◌≡◌, ◌≤◌, ◌<◌, ◌-◌, ◌∷◌, ◌∙◌, [], ℕ, Option, Some, None, Result, Ok, Err, ap, inl, inr, refl, sym}
use Rattle.wasmi_c.proofs.Common.{set-get_or, MatchOption, slice_set, State, World, world, SetFuel, Rules, optional_rules, meter_after, meter_set, PoolValue, RunsTenant, machine_of, tenant_at, tenant_rules, word_after, with_machine_at, TenantPaysFuel, TenantReplies, TenantRepliesInStatus, TenantRepliesInWord, DONE, ReplyStruct}
use Rattle.wasmi_machine.proofs.StoreLemmas.{run_of_one}
use Rattle.wasmi_machine.specs.Steps.{IsRunOf, RepliesWith}
use Rattle.wasmi_machine.specs.declared.{calls.Call.Call, calls.Reply.Reply}
use Rattle.wasmi_meter.specs.declared.fuel.FuelError.{FuelError}
use Rattle.wasmi_meter.specs.declared.fuel.FuelError.TheVariants.{FuelMeteringDisabled, OutOfFuel}
use Rattle.wasmi_budget.specs.declared.tenant.Tenant.{Tenant}
use Rattle.wasmi_c.specs.Machine.Replies.{fuel_refusal, reply_struct, status_of, with_number}
use Rattle.wasmi_machine.specs.declared.calls.Reply.TheVariants as reply

module _ (pool : PoolValue) (tenant : ℕ) (s : State) (found : machine_of pool tenant ≡ Some s) (call : Call) (full : Reply)
    (replies : (t : Tenant) → RepliesWith (optional_rules tenant_rules) call (world s (Some t)) full (world s (Some t))) where
  -- a call that changes nothing on a tenant's machine is a run that leaves the pool
  pub runs_in_place : RunsTenant pool tenant (call ∷ []) (full ∷ []) pool
  runs_in_place =
      let own : Tenant = tenant_at pool tenant s in record {
        machine = s;
        found = found;
        machine' = s;
        tenant' = own;
        ran = run_of_one (optional_rules tenant_rules) call _ full _ (replies own);
        after = sym (ap (λ machines. record pool { machines = machines })
            (ap (slice_set pool.machines tenant) (sym found) ∙ set-get_or pool.machines tenant None));
      }

  -- a call that changes nothing on a tenant's machine leaves a status and a word
  pub word_in_place : (word : ℕ) (left : ℕ × ℕ) → left.0 ≡ status_of full → left.1 ≡ word_after full word
      → TenantRepliesInWord tenant (Some call) word left pool pool
  unfolding TenantRepliesInWord
  word_in_place word left status_is word_is = inr (full, runs_in_place, λ i. (status_is i, word_is i))

  -- a call that changes nothing on a tenant's machine leaves a struct
  pub struct_in_place : (told : ReplyStruct) → told ≡ reply_struct full → TenantReplies tenant call told pool pool
  unfolding TenantReplies
  struct_in_place told is = inr (full, runs_in_place, is)

-- the status of a reply is that of its struct
pub status_is : (full : Reply) → (reply_struct full).status ≡ status_of full
status_is (reply.Reference (Some element)) = refl
status_is (reply.Reference None) = refl
status_is other = refl

-- the status of a struct that a tenant's machine replies with
pub tenant_status : (tenant : ℕ) (call : Call) (told : ReplyStruct) (pool pool' : PoolValue)
    → TenantReplies tenant call told pool pool' → TenantRepliesInStatus tenant (Some call) told.status pool pool'
unfolding TenantReplies TenantRepliesInStatus
tenant_status tenant call told pool pool' (inl (none, refused, same)) = inl (none, ap ReplyStruct.status refused, same)
tenant_status tenant call told pool pool' (inr (full, run, is)) = inr (full, run, ap ReplyStruct.status is ∙ status_is full)

-- a run that sets the fuel of a machine, as of a tenant's, has changed its meter, and nothing else of it
set_by_run : {S : Type 0} (rules : Rules S) (fuel : ℕ) (w : World S) (full : Reply) (w' : World S)
    → IsRunOf rules (SetFuel fuel ∷ []) w (full ∷ []) w'
    → w'.state ≡ record w.state { meter = meter_set w.state.meter fuel }
set_by_run rules fuel w full w' ([], called, told, ran) = absurd cc
set_by_run rules fuel w full w' (turn ∷ [], called, told, (v, step, ran)) =
    let is : turn.call ≡ SetFuel fuel = cc in
    let sets = rw is at step in
    rw (ran, sets.after) sets.effect.1
set_by_run rules fuel w full w' (turn ∷ t ∷ turns, called, told, ran) = absurd cc

-- what is left of a tenant's fuel once a call takes an amount; or why it doesn't
abbrev LeftAfter : Option ℕ → ℕ → Result ℕ FuelError → Type 0
LeftAfter had amount result = MatchOption had (result ≡ Err FuelMeteringDisabled)
    (λ left. (amount ≤ left → result ≡ Ok (left - amount)) × (left < amount → result ≡ Err (OutOfFuel amount)))

module _ (pool : PoolValue) (tenant : ℕ) (s : State) (found : machine_of pool tenant ≡ Some s) (amount : ℕ) where
  -- the pool in which the tenant's machine has the amount taken
  abbrev paid_pool : PoolValue
  paid_pool = with_machine_at pool tenant (record s { meter = meter_after s.meter amount })

  -- a tenant's machine on which the fuel is set to what is left after the amount has that taken
  paid_by_set : (had : ℕ) → s.meter.left ≡ Some had → (full : Reply) (pool' : PoolValue)
      → RunsTenant pool tenant (SetFuel (had - amount) ∷ []) (full ∷ []) pool' → pool' ≡ paid_pool
  paid_by_set had is full pool' run =
      let same : run.machine ≡ s = cc in
      rw (run.after, set_by_run (optional_rules tenant_rules) (had - amount) _ full _ run.ran, same, is) refl

  module _ (told : ReplyStruct) (pool' : PoolValue) where
    -- the amount is taken where so much was left
    abbrev Pays : Option ℕ → Type 0
    Pays had = MatchOption had ((told ≡ fuel_refusal FuelMeteringDisabled) × (pool' ≡ pool))
        (λ left. (amount ≤ left → (told ≡ with_number DONE (left - amount)) × (pool' ≡ paid_pool))
        × (left < amount → (told ≡ fuel_refusal (OutOfFuel amount)) × (pool' ≡ pool)))

    -- the amount is taken where what is left of it is set, and told
    pays_left : (had : Option ℕ) → s.meter.left ≡ had → (left : ℕ) → LeftAfter had amount (Ok left)
        → told ≡ with_number DONE left → (full : Reply)
        → RunsTenant pool tenant (SetFuel left ∷ []) (full ∷ []) pool' → Pays had
    pays_left None is left after told_is full run = absurd cc
    pays_left (Some had) is left after told_is full run = (
      λ enough.
          let same : left ≡ had - amount = cc (after.0 enough) in
          (told_is ∙ ap (with_number DONE) same, paid_by_set had is full pool' (rw same at run)),
      λ short. absurd (cc (after.1 short)),
    )

    -- a tenant pays an amount where its fuel is set to what is left then
    pub tenant_pays : (left : ℕ) → LeftAfter s.meter.left amount (Ok left) → told ≡ with_number DONE left
        → (full : Reply) → RunsTenant pool tenant (SetFuel left ∷ []) (full ∷ []) pool'
        → TenantPaysFuel tenant amount told pool pool'
    tenant_pays left after told_is full run =
        rw found (pays_left s.meter.left refl left after told_is full run)
