-- What a caller says of a run of a machine or of a tenant of a pool, also by a handle: its bill, its refused turns,
-- calls that fit the regions of any machine and growths in them, its exchange with a limiter, valid states, caps, and
-- other runs of the same calls.
use Rattle.std.specs.Prelude.{◌≡◌, ◌⊎◌, ◌<◌, ◌≤◌, ◌+◌, ◌*◌, ℕ, true, Option, Some, List, [], ◌∷◌, ◌++◌, length, map, slice_set, All, None}
use Rattle.wasmi_meter.specs.Attempt.{optional_due, covers}
use Rattle.wasmi_meter.specs.Limiter.{Rules, optional_rules}
use Rattle.wasmi_meter.specs.Meter.{Meter}
use Rattle.wasmi_store.specs.Buffer.{Lent, fits_room}
use Rattle.wasmi_store.specs.Growth.{IsDenied}
use Rattle.wasmi_store.specs.Memory.{MemoryValue, pages_of, growth_of, MemoryTypeValue, minimum_bytes, page_bytes, in_bounds}
use Rattle.wasmi_machine.specs.declared.{calls.Call.Call, calls.Reply.Reply}
use Rattle.wasmi_machine.specs.declared.calls.Call.TheVariants.{GrowMemory}
use Rattle.wasmi_machine.specs.declared.calls.Reply.TheVariants.{Number}
use Rattle.wasmi_machine.specs.State.{World, Turn, world, State, live_at}
use Rattle.wasmi_machine.specs.Steps.{Step, Sequence, Run, AreTurns, IsRunOf}
use Rattle.wasmi_machine.specs.declared.slots.Slot.TheVariants.{Live}
use Rattle.wasmi_machine.specs.Account.{opened, account_after, Balances, IsBounded, IsSpent}
use Rattle.wasmi_machine.specs.Determinism.{IsNotOutOfMemory}
use Rattle.wasmi_machine.specs.Laws.{IsRefusal, KeepsMeter}
use Rattle.wasmi_machine.specs.LentMemory.{FitsRegions}
use Rattle.wasmi_meter.specs.declared.quota.Amounts.{Amounts}
use Rattle.wasmi_budget.specs.declared.tenant.Tenant.{Tenant}
use Rattle.wasmi_budget.specs.Pool.{tenant_rules, without_others, PoolValue, IsWithinCaps, machine_of, pool_of, tenant_at}
use Rattle.wasmi_budget.specs.Laws.{PoolTurn, Ran, PoolRun}
use Rattle.wasmi_c.specs.Machine.Caps.{MachineValue}
use Rattle.wasmi_c.specs.Machine.Calls.{MachineRuns}
use Rattle.wasmi_c.specs.Machine.Replies.{reply_struct}
use Rattle.wasmi_c.specs.declared.machine.reply_struct.ReplyStruct.{ReplyStruct}

-- calls are run with these replies, by turns of which a fact holds
abbrev pub RunsBy : {S : Type 0} → Rules S → (List Turn → Type 0) → List Call → World S → List Reply → World S → Type 0
RunsBy rules Holds calls w replies w' =
    (turns : List Turn) × AreTurns calls replies turns × Run rules w turns w' × Holds turns

-- calls are run with these replies, and of each of their turns a fact holds, with the world before it and after it
abbrev pub RunsByTurns : {S : Type 0} → Rules S → (World S → Turn → World S → Type 0) → List Call → World S → List Reply
    → World S → Type 0
RunsByTurns rules Holds calls w replies w' =
    (turns : List Turn) × AreTurns calls replies turns
    × Sequence (λ v turn v'. Step rules v turn v' × Holds v turn v') w turns w'

-- Where metering was on, what is left and what a run was charged are what was left before, or was set since.
abbrev pub IsBilled : {S : Type 0} → Rules S → List Call → World S → List Reply → World S → Type 0
IsBilled rules calls w replies w' =
    RunsBy rules (λ turns. (left : ℕ) → w.state.meter.left ≡ Some left
    → Balances (account_after (opened left) turns) w'.state.meter) calls w replies w'

-- Where metering was on at a rate above 0, the charges of a run and what was left before bound what it has written.
abbrev pub IsBoundedBy : {S : Type 0} → Rules S → List Call → World S → List Reply → World S → Type 0
IsBoundedBy rules calls w replies w' =
    RunsBy rules (λ turns. (left : ℕ) → w.state.meter.left ≡ Some left → 0 < w.state.meter.costs.bytes_copied_per_fuel
    → IsBounded w.state.meter.costs.bytes_copied_per_fuel left turns) calls w replies w'

-- a call that fits the regions of any machine
abbrev pub FitsAnyRegions : Call → Type 0
FitsAnyRegions call = (s : State) → FitsRegions s call

-- turns of calls, and then turns of other calls, are one run
abbrev pub IsRunOfBoth : {S : Type 0} → Rules S → List Call → List Call → World S → List Reply → List Reply → World S
    → Type 0
IsRunOfBoth rules calls calls' w replies replies' w' =
    (turns turns' : List Turn) × AreTurns calls replies turns × AreTurns calls' replies' turns'
    × Run rules w (turns ++ turns') w'

-- The step by a call with this reply keeps the meter as a refused turn does.
abbrev pub IsMeterKept : {S : Type 0} → Rules S → Call → World S → Reply → World S → Type 0
IsMeterKept rules call w reply w' = (turn : Turn) × AreTurns (call ∷ []) (reply ∷ []) (turn ∷ []) × Step rules w turn w'
    × KeepsMeter rules w turn w'

-- no reply of two lists is that memory ran out
abbrev pub NeitherIsOutOfMemory : List Reply → List Reply → Type 0
NeitherIsOutOfMemory replies replies' = All IsNotOutOfMemory replies × All IsNotOutOfMemory replies'

-- two runs of the same turns
abbrev pub AreSameTurns : {S : Type 0} → Rules S → World S → World S → World S → Type 0
AreSameTurns rules w v v' = (turns : List Turn) × Run rules w turns v × Run rules w turns v'

-- a memory can grow by so many pages in the lent region that it lies in: its type and its region have place for them,
-- and enough is left to pay them, or no meter is there
pub record CanGrowInRegion (m : Option Meter) (pages : ℕ) (x : MemoryValue) : Type 0 where
  pub lent : (rest : List ℕ) × (x.room ≡ Lent rest)
  pub inside : in_bounds x.ty (pages_of x + pages) ≡ true
  pub place : fits_room x.room (pages * page_bytes x.ty.page) ≡ true
  pub paid : covers m (optional_due m (growth_of x pages).price) ≡ true

-- a memory has grown by so many pages, each other memory is the same, and the reply tells how many pages it had; or the
-- reply is a refusal, and the limiter has denied the growth
abbrev pub IsGrownOrDenied : {S : Type 0} → Rules S → ℕ → ℕ → MemoryValue → World S → Reply → World S → Type 0
IsGrownOrDenied rules k pages x w reply w' = ((reply ≡ Number (pages_of x))
    × ((x' : MemoryValue) × (w'.state.memories ≡ slice_set w.state.memories k (Live x'))
    × (length x'.bytes ≡ length x.bytes + pages * page_bytes x.ty.page)))
    ⊎ (IsRefusal reply × IsDenied rules (growth_of x pages).question w.limiter w'.limiter)

-- where a turn grows a memory in a lent region with place for it, it has grown, or the limiter has denied the growth
abbrev pub GrowsInRegion : {S : Type 0} → Rules S → World S → Turn → World S → Type 0
GrowsInRegion rules w turn w' = (k pages : ℕ) (x : MemoryValue) → turn.call ≡ GrowMemory k pages
    → live_at w.state.memories k ≡ Some x → CanGrowInRegion (Some w.state.meter) pages x
    → IsGrownOrDenied rules k pages x w turn.reply w'

-- the spare region is there, and no shorter than the minimum of a type
abbrev pub HasRegionFor : MemoryTypeValue → State → Type 0
HasRegionFor ty s = (region : List ℕ) × (s.spare ≡ Some region) × (minimum_bytes ty ≤ length region)

-- Where metering was on, what was left is what is left and what a run was charged, and that bounds what it has written.
abbrev pub IsSpentBy : {S : Type 0} → Rules S → List Call → World S → List Reply → World S → Type 0
IsSpentBy rules calls w replies w' =
    RunsBy rules (λ turns. (left : ℕ) → w.state.meter.left ≡ Some left
    → (left' : ℕ) × (w'.state.meter.left ≡ Some left')
    × IsSpent w.state.meter.costs.bytes_copied_per_fuel left left' turns) calls w replies w'

-- whatever calls on a pool follow, its caps are these, and all its machines together are within them
abbrev pub KeepsCaps : Amounts → PoolValue → Type 0
KeepsCaps caps pool =
    (turns : List PoolTurn) (later : PoolValue) → PoolRun pool turns later → (later.caps ≡ caps) × IsWithinCaps later

-- whatever calls on a pool follow, no tenant has the index
abbrev pub StaysVacant : ℕ → PoolValue → Type 0
StaysVacant index pool =
    (turns : List PoolTurn) (later : PoolValue) → PoolRun pool turns later → machine_of later index ≡ None

-- the machine of an index ran as that of the only tenant of a pool with the same caps
abbrev pub RunsAlone : PoolValue → ℕ → List Call → List Reply → PoolValue → Type 0
RunsAlone pool index calls replies pool' =
    (s : State) × (s' : State) × (machine_of pool index ≡ Some s) × (machine_of pool' index ≡ Some s')
    × PoolRun (pool_of pool.caps (Some s ∷ [])) (Ran 0 calls replies ∷ []) (pool_of pool.caps (Some s' ∷ []))

-- the machine of an index has run these calls under its limiter as if the others held nothing
abbrev pub RunsBeside : PoolValue → ℕ → List Call → List Reply → Type 0
RunsBeside pool index calls replies =
    (s : State) × (s' : State) × (tenant' : Tenant) × (machine_of pool index ≡ Some s)
    × IsRunOf (optional_rules tenant_rules) calls (world s (Some (without_others (tenant_at pool index s)))) replies
    (world s' (Some (without_others tenant')))

-- a machine replies to two calls with structs, which are those of the replies of one run of both
abbrev pub RunsBoth : Call → Call → MachineValue → ReplyStruct × ReplyStruct → Option MachineValue → Type 0
RunsBoth call call' machine replies held' = (reply : Reply) × (reply' : Reply) × (machine' : MachineValue)
    × MachineRuns (call ∷ call' ∷ []) machine (reply ∷ reply' ∷ []) machine'
    × (replies ≡ (reply_struct reply, reply_struct reply')) × (held' ≡ Some machine')

-- a machine replies to calls with structs, which are those of the replies of one run of all
abbrev pub RunsList : List Call → MachineValue → List ReplyStruct → MachineValue → Type 0
RunsList calls machine told machine' =
    (replies : List Reply) × MachineRuns calls machine replies machine' × (told ≡ map reply_struct replies)

-- a handle holds a pool in which the machine of an index is the same
abbrev pub KeepsTenant : ℕ → PoolValue → Option PoolValue → Type 0
KeepsTenant index pool held' = (pool' : PoolValue) × (held' ≡ Some pool')
    × (machine_of pool' index ≡ machine_of pool index)
