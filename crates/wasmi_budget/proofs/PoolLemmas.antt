-- All machines of a pool: that the index of a tenant lies within their list, that what one has run is a run of the
-- pool, what they have together, and that this stays within the caps, where one of them has run, is added or removed,
-- or becomes another that has as much.
use Rattle.std.proofs.Common.{◌≡◌, Option, Some, List, refl, sym, ◌∙◌, ℕ, ◌+◌, ◌-◌, ◌≤◌, ◌<◌, None, length, get_or, [], ◌∷◌, ◌++◌, ap, arith, inl, inr}
use Rattle.std.proofs.lemmas.Bool.{cases_lt}
use Rattle.std.proofs.lemmas.List.{get_or_past}
use Rattle.std.proofs.lemmas.Option.{same_Some, none-some}
use Rattle.wasmi_meter.specs.declared.{limiter.Kind.Kind, quota.Amounts.Amounts}
use Rattle.wasmi_meter.specs.Capped.{amount_of, amounts_of, held_together}
use Rattle.wasmi_meter.specs.Limiter.{optional_rules}
use Rattle.wasmi_machine.specs.State.{Turn, world, State, total, HoldsTotals}
use Rattle.wasmi_machine.specs.Steps.{Run, IsRunOf}
use Rattle.wasmi_machine.proofs.StoreLemmas.{run_of_one}
use Rattle.wasmi_machine.proofs.HoldingLemmas.{IsLater, run_is_later, totals_are_held}
use Rattle.wasmi_budget.specs.declared.tenant.Tenant.{Tenant}
use Rattle.wasmi_budget.specs.Pool.{capped_tenant, tenant_rules, holdings, PoolValue, total_of, IsWithinCaps, IsKept, HasNothing, tenant_at, machine_of, total_at, AddsTenant, BecomesAt, RemovesTenant, RunsTenant, RunsUnasked, tenant_of, IsPart, RunsAsPart}
use Rattle.std.proofs.lemmas.List.Sums.{sum_by-remove, sum_by-set, sum_by_push}
use Rattle.std.specs.Prelude.{slice_set, remove}
use Rattle.wasmi_meter.specs.declared.limiter.Kind.TheVariants.{Bytes, Elements}
use Rattle.wasmi_meter.specs.CappedProofs.{asked_reserves, noticed_gives_back}
use Rattle.wasmi_machine.specs.declared.{calls.Call.Call, calls.Reply.Reply}
use Rattle.wasmi_budget.specs.Laws.{RemovalsGiveBack}
use Rattle.wasmi_budget.proofs.TenantLemmas.{tenant_keeps, amount_is, amounts_same, amount_held_total, step_holds, part_held}

-- the index of a tenant lies within the list of all machines of its pool
pub tenant_inside : (machines : List (Option State)) (index : ℕ) (s : State) → get_or machines index None ≡ Some s
    → index < length machines
tenant_inside machines index s found = elim (cases_lt index (length machines)) [
  | inl inside ↦ inside
  | inr past ↦ absurd (none-some s (sym (get_or_past machines index None past) ∙ found))
]

module _ (machines : List (Option State)) (index : ℕ) (s : State) (found : get_or machines index None ≡ Some s)
    (kind : Kind) where
  -- all is what a machine has, and what the others have
  pub total_split : total_of (remove machines index) kind + total s kind ≡ total_of machines kind
  total_split =
      rw found at (sum_by-remove (λ t. total_at t kind) machines index None (tenant_inside machines index s found))

  -- all is also what the others have and another machine in its place, or none
  total_replaced : (t : Option State)
      → total_of (slice_set machines index t) kind ≡ total_of (remove machines index) kind + total_at t kind
  total_replaced t =
      let set = sum_by-set (λ t. total_at t kind) machines index t None (tenant_inside machines index s found) in
      let own = ap (λ t. total_at t kind) found in
      omega (arith, set, own, total_split)

-- a tenant before its run holds together with the others what all machines have
tenant_held_together : (pool : PoolValue) (index : ℕ) (s : State) → machine_of pool index ≡ Some s
    → (kind : Kind) → held_together capped_tenant (tenant_at pool index s) kind ≡ total_of pool.machines kind
tenant_held_together pool index s found Bytes = total_split pool.machines index s found Bytes
tenant_held_together pool index s found Elements = total_split pool.machines index s found Elements

module _ {pool : PoolValue} {all : Amounts} (kept : IsKept pool all) (index : ℕ) {s : State}
    (found : machine_of pool index ≡ Some s) where
  -- what all hold of a kind is what all machines have
  all_held : (kind : Kind) → amount_of all kind ≡ total_of pool.machines kind
  all_held = amount_is (total_of pool.machines) kept.counted

  -- what one machine has is a part of what all machines of its pool have
  pub is_part : IsPart pool.caps all s
  is_part = record {
    within = λ kind. rw (all_held kind) (kept.within kind);
    fits = kept.fits;
    counted = λ kind. omega (arith, all_held kind, total_split pool.machines index s found kind);
  }

  -- the tenant that holds that part is the one that the pool has for the machine
  tenant_is_own : tenant_of pool.caps all (amounts_of (total s)) ≡ tenant_at pool index s
  tenant_is_own = λ i. record {
    caps = pool.caps;
    others = record { bytes = left Bytes i; elements = left Elements i };
    holdings = record { held = amounts_of (total s); last = None };
  }
    where
      left : (kind : Kind) → amount_of all kind - total s kind ≡ total_of (remove pool.machines index) kind
      left kind = omega (arith, all_held kind, total_split pool.machines index s found kind)

-- a machine becomes another under its limiter
module _ (pool : PoolValue) (within : IsWithinCaps pool) (index : ℕ) (s : State)
    (found : machine_of pool index ≡ Some s) (s' : State) (tenant' : Tenant) where
  module _ (stays : IsLater capped_tenant (tenant_at pool index s) tenant') (held : HoldsTotals (holdings tenant') s') where
    -- with the other machine, all have what the tenant that holds what it has holds together with the others
    replaced_total : (kind : Kind)
        → held_together capped_tenant tenant' kind ≡ total_of (slice_set pool.machines index (Some s')) kind
    replaced_total kind =
        let own = amount_held_total tenant' s' held kind in
        let all = total_replaced pool.machines index s found kind (Some s') in
        let others = stays.others kind ∙ amount_is (total_of (remove pool.machines index)) refl kind in
        omega (arith, own, all, others)

    -- the pool is within its caps then, where the tenant stayed within them
    replaced_within : IsWithinCaps (record pool { machines = slice_set pool.machines index (Some s') })
    replaced_within kind = omega (arith, replaced_total kind, stays.within kind, stays.caps kind)

  -- a run under its limiter keeps the tenant within the caps
  ran_within : (turns : List Turn)
      → Run (optional_rules tenant_rules) (record { state = s; limiter = Some (tenant_at pool index s) }) turns
      (record { state = s'; limiter = Some tenant' }) → IsLater capped_tenant (tenant_at pool index s) tenant'
  ran_within turns ran =
      run_is_later capped_tenant tenant_keeps (tenant_at pool index s)
      (λ kind. rw (tenant_held_together pool index s found kind) (within kind)) s turns
      (record { state = s'; limiter = Some tenant' }) ran

-- what the machine of an index has run under its own tenant, and what both have become
module _ {pool : PoolValue} {all : Amounts} (kept : IsKept pool all) (index : ℕ) {s : State}
    (found : machine_of pool index ≡ Some s) (calls : List Call) (replies : List Reply) (s' : State) (tenant' : Tenant)
    (ran : IsRunOf (optional_rules tenant_rules) calls (world s (Some (tenant_at pool index s))) replies
    (world s' (Some tenant'))) where
  -- that run is an accepted one of the pool
  own_runs : RunsTenant pool index calls replies (record pool { machines = slice_set pool.machines index (Some s') })
  own_runs = record { machine = s; found = found; machine' = s'; tenant' = tenant'; ran = ran; after = refl }

  -- the pool is kept with what all hold then, where the tenant holds what its machine has
  own_kept : HoldsTotals (holdings tenant') s'
      → (all' : Amounts) → all' ≡ amounts_of (held_together capped_tenant tenant')
      → IsKept (record pool { machines = slice_set pool.machines index (Some s') }) all'
  own_kept holds all' is =
      let stays = ran_within pool kept.within index s found s' tenant' ran.0 ran.3 in record {
        within = replaced_within pool kept.within index s found s' tenant' stays holds;
        fits = kept.fits;
        counted = is
            ∙ amounts_same (held_together capped_tenant tenant') (total_of (slice_set pool.machines index (Some s')))
            (replaced_total pool kept.within index s found s' tenant' stays holds);
      }

-- what the machine of an index has run as a part, and the machines then
module _ {pool : PoolValue} {all : Amounts} (kept : IsKept pool all) (index : ℕ) {s : State}
    (found : machine_of pool index ≡ Some s) {calls : List Call} {replies : List Reply} {s' : State} {all' : Amounts}
    (part : RunsAsPart pool.caps all s calls replies s' all') {machines' : List (Option State)}
    (after : machines' ≡ slice_set pool.machines index (Some s')) where
  -- the machine has run under its own tenant
  part_ran : IsRunOf (optional_rules tenant_rules) calls (world s (Some (tenant_at pool index s))) replies
      (world s' (Some part.tenant'))
  part_ran = rw (tenant_is_own kept index found) at part.ran

  -- that run is an accepted one of the pool
  pub part_runs : RunsTenant pool index calls replies (record pool { machines = machines' })
  part_runs = rw after (own_runs kept index found calls replies s' part.tenant' part_ran)

  -- the pool is kept with what all hold then
  pub part_kept : IsKept (record pool { machines = machines' }) all'
  part_kept =
      rw after (own_kept kept index found calls replies s' part.tenant' part_ran part.holds all' part.together)

-- what `Pool::step_unasked` has done with the machine of an index
module _ {pool : PoolValue} {all : Amounts} (kept : IsKept pool all) (index : ℕ) (call : Call) (reply : Reply)
    (machines' : List (Option State)) (ran : RunsUnasked pool.machines index call reply machines') where
  -- the tenant of the machine that has run
  abbrev own_tenant : Tenant
  own_tenant = tenant_at pool index ran.machine

  -- the machine has run under it
  own_ran : IsRunOf (optional_rules tenant_rules) (call ∷ []) (world ran.machine (Some own_tenant)) (reply ∷ [])
      (world ran.machine' (Some own_tenant))
  own_ran = run_of_one (optional_rules tenant_rules) call _ reply _ (ran.becomes own_tenant)

  -- that run is an accepted one of the pool
  pub unasked_runs : RunsTenant pool index (call ∷ []) (reply ∷ []) (record pool { machines = machines' })
  unasked_runs =
      rw ran.after (own_runs kept index ran.found (call ∷ []) (reply ∷ []) ran.machine' own_tenant own_ran)

  -- the pool is kept with the same amounts
  pub unasked_kept : IsKept (record pool { machines = machines' }) all
  unasked_kept = rw ran.after (own_kept kept index ran.found (call ∷ []) (reply ∷ []) ran.machine' own_tenant own_ran
      (step_holds (world ran.machine own_tenant) (world ran.machine' own_tenant) call reply
      (record { bytes = refl; elements = refl }) (ran.becomes own_tenant)) all
      (kept.counted ∙ amounts_same (total_of pool.machines) (held_together capped_tenant own_tenant)
      (λ kind. sym (tenant_held_together pool index ran.machine ran.found kind))))

-- a run keeps the pool within its caps
pub runs_within : (pool : PoolValue) (index : ℕ) (calls : List Call) (replies : List Reply) (pool' : PoolValue)
    → IsWithinCaps pool → RunsTenant pool index calls replies pool' → IsWithinCaps pool'
runs_within pool index calls replies pool' within runs =
    let after = totals_are_held tenant_rules holdings
    (record { reserves = asked_reserves capped_tenant; gives_back = noticed_gives_back capped_tenant }) runs.machine
    (tenant_at pool index runs.machine) (record { bytes = refl; elements = refl }) runs.ran.0
    (world runs.machine' (Some runs.tenant')) runs.ran.3 in
    let held : HoldsTotals (holdings runs.tenant') runs.machine' =
    rw (same_Some runs.tenant' after.0 after.1) after.2 in
    let stays = ran_within pool within index runs.machine runs.found runs.machine' runs.tenant' runs.ran.0 runs.ran.3 in
    rw runs.after (replaced_within pool within index runs.machine runs.found runs.machine' runs.tenant' stays held)

-- with a machine that has nothing all have what they had
pushed_total : (machines : List (Option State)) (s : State) → HasNothing s → (kind : Kind)
    → total_of (machines ++ Some s ∷ []) kind ≡ total_of machines kind
pushed_total machines s empty Bytes =
    omega (arith, empty.bytes, sum_by_push (λ t. total_at t Bytes) machines (Some s))
pushed_total machines s empty Elements =
    omega (arith, empty.elements, sum_by_push (λ t. total_at t Elements) machines (Some s))

-- a new tenant keeps the pool within its caps
pub adds_within : (pool : PoolValue) (s : State) (pool' : PoolValue) → IsWithinCaps pool → AddsTenant pool s pool'
    → IsWithinCaps pool'
adds_within pool s pool' within adds kind = rw adds.added
    (let bound = within kind in omega (arith, bound, pushed_total pool.machines s adds.empty kind))

-- a pool is kept with the same amounts where a machine that has nothing is added
pub kept_added : (pool : PoolValue) (held : Amounts) (s : State) → IsKept pool held → HasNothing s
    → (machines : List (Option State)) → machines ≡ pool.machines ++ Some s ∷ []
    → IsKept (record pool { machines = machines }) held
kept_added pool held s kept empty machines is = rw is (record {
  within = adds_within pool s _ kept.within (record { empty = empty; added = refl });
  fits = kept.fits;
  counted = kept.counted ∙ amounts_same (total_of pool.machines) (total_of (pool.machines ++ Some s ∷ []))
      (λ kind. sym (pushed_total pool.machines s empty kind));
})

-- where a tenant is removed, what its machine has counts no more in what all machines of the pool have together
pub removals_give_back : RemovalsGiveBack
removals_give_back pool index s pool' removes kind =
    let split = total_split pool.machines index s removes.found kind in
    let left = total_replaced pool.machines index s removes.found kind None in
    rw removes.removed (omega (arith, split, left))

-- a pool is within its caps without a tenant
pub removes_within : (pool : PoolValue) (index : ℕ) (s : State) (pool' : PoolValue) → IsWithinCaps pool
    → RemovesTenant pool index s pool' → IsWithinCaps pool'
removes_within pool index s pool' within removes kind =
    let caps = ap (λ (p : PoolValue). amount_of p.caps kind) removes.removed in
    omega (arith, removals_give_back pool index s pool' removes kind, within kind, caps)

-- a pool is kept without a tenant where what that held is taken off
pub kept_removed : (pool : PoolValue) (all : Amounts) (index : ℕ) (s : State) (pool' : PoolValue) (held : Amounts)
    → IsKept pool all → RemovesTenant pool index s pool' → held ≡ amounts_of (total s)
    → IsKept pool' (record { bytes = all.bytes - held.bytes; elements = all.elements - held.elements })
kept_removed pool all index s pool' held kept removes is = record {
  within = removes_within pool index s pool' kept.within removes;
  fits = λ kind. rw removes.removed (kept.fits kind);
  counted = λ i. record { bytes = left Bytes i; elements = left Elements i };
}
  where
    left : (kind : Kind) → amount_of all kind - amount_of held kind ≡ total_of pool'.machines kind
    left kind =
        let sum = amount_is (total_of pool.machines) kept.counted kind in
        let own = amount_is (total s) is kind in
        omega (arith, sum, own, removals_give_back pool index s pool' removes kind)

-- what a tenant of a pool holds is at most what all hold
pub held_at_most : {pool : PoolValue} {all held : Amounts} (index : ℕ) {s : State} → IsKept pool all
    → machine_of pool index ≡ Some s → held ≡ amounts_of (total s)
    → (kind : Kind) → amount_of held kind ≤ amount_of all kind
held_at_most index kept found is = part_held refl is (is_part kept index found)

-- the machine of an index has become another that has as much, and all else is the same
pub record BecomesAlike (pool : PoolValue) (index : ℕ) (pool' : PoolValue) : Type 0 where
  pub machine : State
  pub found : machine_of pool index ≡ Some machine
  pub machine' : State
  pub alike : (kind : Kind) → total machine' kind ≡ total machine kind
  pub after : pool' ≡ record pool { machines = slice_set pool.machines index (Some machine') }

-- the machine of an index has become such a one where what has become of it keeps what it has
abbrev pub becomes_alike : {change : State → State → Type 0}
    → ((s s' : State) → change s s' → (kind : Kind) → total s' kind ≡ total s kind) → {pool : PoolValue} {index : ℕ}
    {pool' : PoolValue} → (pool'.caps ≡ pool.caps) × BecomesAt pool.machines index change pool'.machines
    → BecomesAlike pool index pool'
becomes_alike keeps becomes = record {
  machine = becomes.1.machine;
  found = becomes.1.found;
  machine' = becomes.1.machine';
  alike = keeps becomes.1.machine becomes.1.machine' becomes.1.becomes;
  after = λ i. record { caps = becomes.0 i; machines = becomes.1.after i };
}

module _ {pool : PoolValue} {index : ℕ} {pool' : PoolValue} (becomes : BecomesAlike pool index pool') where
  -- all machines together have what they had
  total_alike : (kind : Kind) → total_of pool'.machines kind ≡ total_of pool.machines kind
  total_alike kind =
      let set = total_replaced pool.machines index becomes.machine becomes.found kind (Some becomes.machine') in
      let split = total_split pool.machines index becomes.machine becomes.found kind in
      rw becomes.after (omega (arith, set, split, becomes.alike kind))

  -- the pool is within its caps
  pub alike_within : IsWithinCaps pool → IsWithinCaps pool'
  alike_within within kind =
      let caps = ap (λ (p : PoolValue). amount_of p.caps kind) becomes.after in
      omega (arith, total_alike kind, within kind, caps)

  -- the pool is kept with the same amounts
  pub alike_kept : (all : Amounts) → IsKept pool all → IsKept pool' all
  alike_kept all kept = record {
    within = alike_within kept.within;
    fits = λ kind. rw becomes.after (kept.fits kind);
    counted = kept.counted
        ∙ amounts_same (total_of pool.machines) (total_of pool'.machines) (λ kind. sym (total_alike kind));
  }
