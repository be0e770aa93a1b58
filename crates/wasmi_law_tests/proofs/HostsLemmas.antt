-- Calls by a handle, on its machine or on a tenant of its pool, which leave the machines of the other tenants, and what
-- a memory and a table that are made under one quota, or end, leave of it.
use Rattle.std.proofs.Common.{[], ◌≡◌, Option, Some, List, ◌∷◌, map, refl, sym, ap, ◌∙◌, arith, ℕ, true, None, inl, inr, ◌≢◌, ◌≤◌, false}
use Rattle.wasmi_law_tests.proofs.Common.{MatchOption, KeepsTenant, RunsList, IsWithinCaps, get_or-set_other, KeepsQuota, Placed, limiter_of, quota_of, HoldsSums, OneQuotaHoldsEach, sizes_made}
use Rattle.wasmi_machine.specs.declared.calls.Call.{Call}
use Rattle.wasmi_budget.specs.Pool.{PoolValue, machine_of}
use Rattle.wasmi_c.specs.Machine.CallStructs.{call_of}
use Rattle.wasmi_c.specs.Machine.Caps.{MachineValue}
use Rattle.wasmi_c.specs.Machine.Calls.{ActsOnHeld, ListsAreRuns, RepliesInStruct, RepliesInTurn, RepliesToStruct}
use Rattle.wasmi_c.specs.Machine.Replies.{only}
use Rattle.wasmi_c.specs.Pool.{TenantReplies, TenantRepliesToStruct}
use Rattle.wasmi_c.specs.declared.status.TheConstants.{DONE, NO_MACHINE, NO_POOL, NOT_HELD}
use Rattle.wasmi_c.specs.declared.{machine.call_struct.CallStruct.CallStruct, machine.reply_struct.ReplyStruct.ReplyStruct, numbers.MemoryNumbers.MemoryNumbers, numbers.QuotaNumbers.QuotaNumbers}
use Rattle.wasmi_meter.proofs.CappedLemmas.{nothing_within}
use Rattle.wasmi_c.specs.MemoryCalls.{EndsMemory}
use Rattle.wasmi_meter.specs.declared.quota.Holdings.{Holdings}
use Rattle.wasmi_c.proofs.SharedQuotaLemmas.{limiter_on}

-- numbers that stand for a call are replied to as it is
numbered : (numbers : CallStruct) (call : Call) (machine machine' : MachineValue) (reply : ReplyStruct)
    → call_of numbers ≡ Some call → RepliesToStruct numbers machine reply machine'
    → RepliesInStruct call machine reply machine'
numbered numbers call machine machine' reply is replied = rw is at replied

-- a machine that replies to a call with a struct stands in a handle
abbrev pub RepliesInHandle : Call → MachineValue → ReplyStruct → Option MachineValue → Type 0
RepliesInHandle call machine reply held' =
    (machine' : MachineValue) × RepliesInStruct call machine reply machine' × (held' ≡ Some machine')

-- a handle that has a machine has one that replies to the call that numbers stand for
pub placed : (numbers : CallStruct) (held held' : Option MachineValue) (reply : ReplyStruct)
    (machine : MachineValue) (call : Call)
    → ActsOnHeld (only NO_MACHINE) held reply held' (λ m m'. RepliesToStruct numbers m reply m')
    → held ≡ Some machine → call_of numbers ≡ Some call → RepliesInHandle call machine reply held'
placed numbers held held' reply machine call step there is =
    let here = rw there at step in
    (here.0, numbered numbers call machine here.0 reply is here.1, here.2)

-- the calls of a list that is made are one run
pub list_runs : ListsAreRuns → (numbers : List CallStruct) (known : List Call) (old new : List ReplyStruct) (status : ℕ)
    (machine machine' : MachineValue) → RepliesInTurn RepliesToStruct numbers old machine (status, new) machine'
    → status ≡ DONE → map call_of numbers ≡ map Some known → RunsList known machine new machine'
unfolding RepliesInTurn
list_runs lists numbers known old new status machine machine' (inl (differ, left, same)) done are =
    absurd (omega (arith, ap (λ (x : ℕ × List ReplyStruct). x.0) left, done))
list_runs lists numbers known old new status machine machine' (inr (same, is, turns)) done are =
    lists numbers known machine new machine' are turns

-- a call on a tenant leaves the machine of another index
other_stays : (tenant other : ℕ) (call : Call) (reply : ReplyStruct) (pool pool' : PoolValue) → tenant ≢ other
    → TenantReplies tenant call reply pool pool' → machine_of pool' other ≡ machine_of pool other
unfolding TenantReplies
other_stays tenant other call reply pool pool' apart (inl refused) = rw refused.2 refl
other_stays tenant other call reply pool pool' apart (inr (full, run, told)) =
    rw run.after (get_or-set_other pool.machines tenant other (Some run.machine') None (λ same. apart (sym same)))

-- the call that numbers stand for, if there is one, leaves the machine of another index
numbered_stays : (found : Option Call) (tenant other : ℕ) (reply none : ReplyStruct) (pool pool' : PoolValue)
    → tenant ≢ other
    → MatchOption found ((reply ≡ none) × (pool' ≡ pool)) (λ call. TenantReplies tenant call reply pool pool')
    → machine_of pool' other ≡ machine_of pool other
numbered_stays None tenant other reply none pool pool' apart same = rw same.1 refl
numbered_stays (Some call) tenant other reply none pool pool' apart replied =
    other_stays tenant other call reply pool pool' apart replied

-- a call on a tenant of a handle's pool leaves the machine of another index there
pub beside : (numbers : CallStruct) (tenant other : ℕ) (held held' : Option PoolValue) (reply : ReplyStruct)
    (pool : PoolValue) → ActsOnHeld (only NO_POOL) held reply held' (TenantRepliesToStruct tenant numbers reply)
    → held ≡ Some pool → tenant ≢ other → KeepsTenant other pool held'
beside numbers tenant other held held' reply pool step there apart =
    let here = rw there at step in
    (here.0, here.2, numbered_stays (call_of numbers) tenant other reply _ pool here.0 apart here.1)

-- a quota that is on and holds nothing, with nothing made under it
pub nothing_made : (h : QuotaNumbers) → (h.is_on ≡ 0 → ⊥) → (h.held_bytes ≡ 0) × (h.held_elements ≡ 0)
    → HoldsSums (record { quota = h; bytes = []; elements = [] })
nothing_made h on empty = record {
  on = on;
  bytes = empty.0;
  elements = empty.1;
  within = nothing_within (record { bytes = h.cap_bytes; elements = h.cap_elements })
      (record { bytes = h.held_bytes; elements = h.held_elements }) empty;
}

-- a memory that is all that a quota holds, and ends
module _ (h h' : QuotaNumbers) (a : Placed MemoryNumbers) (status : ℕ) (m' : MemoryNumbers)
    (holds : HoldsSums (record { quota = h; bytes = a.numbers.size ∷ []; elements = [] }))
    (keeps : KeepsQuota h h') (ends : EndsMemory a (limiter_of h) status m' (limiter_of h')) where
  -- the limiter that the quota is before the end of a memory
  before : limiter_of h ≡ Some (quota_of h)
  before = limiter_on h holds.on

  -- the limiter that the quota is after it
  after : limiter_of h' ≡ Some (quota_of h')
  after = limiter_on h' (λ off. holds.on (sym keeps.flag ∙ off))

  -- the end of a memory isn't refused because the quota holds less
  pub not_short : OneQuotaHoldsEach → status ≡ NOT_HELD → ⊥
  not_short each short = elim ends [
    | inl none ↦ let e : 96 ≡ 99 = sym none.1 ∙ short in absurd (omega (arith, e))
    | inr (ty, at, inl done) ↦ let e : 0 ≡ 99 = sym done.1 ∙ short in absurd (omega (arith, e))
    | inr (ty, at, inr less) ↦
        let releases = rw (before, after) at less.0 in
        let fits = (each _ holds 0 a.numbers.size).0 refl in
        let no : false ≡ true = (releases.0.held fits).0 in
        absurd cc
  ]

  -- the quota holds nothing after the end of a memory
  pub nothing_left : status ≡ DONE → h'.held_bytes ≡ 0
  nothing_left is_done = elim ends [
    | inl none ↦ let e : 96 ≡ 0 = sym none.1 ∙ is_done in absurd (omega (arith, e))
    | inr (ty, at, inr less) ↦ let e : 99 ≡ 0 = sym less.1 ∙ is_done in absurd (omega (arith, e))
    | inr (ty, at, inl done) ↦
        let releases = rw (before, after) at done.0 in
        let fits : a.numbers.size ≤ h.held_bytes = omega (arith, holds.bytes) in
        let left = ap (λ (holdings : Holdings). holdings.held.bytes) (releases.0.held fits).1 in
        omega (arith, left, holds.bytes)
  ]

-- what a memory and a table that were made one after the other leave of a quota
pub both_made : (h : QuotaNumbers) (status size status' size' : ℕ)
    → HoldsSums (record { quota = h; bytes = sizes_made [] status size; elements = sizes_made [] status' size' })
    → status ≡ 0 → status' ≡ 0 → (h.held_bytes ≡ size) × (h.held_elements ≡ size') × IsWithinCaps (quota_of h)
both_made h status size status' size' holds done done' =
    let one = rw done at holds.bytes in
    let other = rw done' at holds.elements in
    (omega (arith, one), omega (arith, other), holds.within)
