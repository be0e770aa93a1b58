-- A pool behind a handle: what its calls do, and what they leave.
use Rattle.std.specs.Prelude.{◌≡◌, ◌⊎◌, ◌∷◌, [], ⊤, ℕ, List, length, Option, Some, None, IsSome, MatchOption, Vec, slice_set}
use Rattle.std.specs.Global.{Global}
use Rattle.wasmi_meter.specs.declared.limiter.Kind.TheVariants.{Bytes, Elements}
use Rattle.wasmi_machine.specs.State.{State, new_state, total}
use Rattle.wasmi_machine.specs.Steps.{SomeCopy}
use Rattle.wasmi_machine.specs.declared.{calls.Call.Call, calls.Reply.Reply}
use Rattle.wasmi_machine.specs.declared.calls.Call.TheVariants.{NewSegment}
use Rattle.wasmi_budget.specs.Pool.{PoolValue, AddsTenant, IsWithinCaps, RemovesTenant, RunsTenant, machine_of, total_of}
use Rattle.wasmi_grammar.specs.Lines.{WritesScript}
use Rattle.wasmi_grammar.specs.declared.script.Script.{Script}
use Rattle.wasmi_c.specs.Machine.Calls.{PaysFuelIn, ReadsOut, RepliesInTurn, ReservesElementsIn, ReservesIn, totals_in, RefusesLines, RunsScriptBy, no_header, word_after}
use Rattle.wasmi_c.specs.Machine.CallStructs.{call_of}
use Rattle.wasmi_c.specs.Machine.NewMachines.{meter_with}
use Rattle.wasmi_c.specs.Machine.Replies.{only, with_number, reply_struct, status_of}
use Rattle.wasmi_c.specs.Types.{reference_type_of}
use Rattle.wasmi_c.specs.declared.status.TheConstants.{DONE, HAS_POOL, NO_CALL, NO_ROOM, NO_TENANT}
use Rattle.wasmi_c.specs.declared.{machine.call_struct.CallStruct.CallStruct, machine.limits.Limits.Limits, machine.limits.Room.Room, machine.limits.Totals.Totals, machine.reply_struct.ReplyStruct.ReplyStruct}

-- a pool with these caps and no tenant
abbrev pub new_pool : ℕ → ℕ → PoolValue
new_pool bytes elements = record { caps = record { bytes = bytes; elements = elements }; machines = [] }

-- a pool with these caps is made where there is none; where there is one, or memory is refused, nothing has changed
abbrev pub MakesPool : ℕ → ℕ → Option PoolValue → ℕ → Option PoolValue → Type 0
MakesPool bytes elements (Some pool) status held' = (status ≡ HAS_POOL) × (held' ≡ Some pool)
MakesPool bytes elements None status held' = ((status ≡ NO_ROOM) × (held' ≡ None))
    ⊎ ((status ≡ DONE) × (held' ≡ Some (new_pool bytes elements)))

-- the pool of a handle is within its caps, and they are those of the pool that was there before, if one was
abbrev pub KeepsCaps : Option PoolValue → Option PoolValue → Type 0
KeepsCaps held None = ⊤
KeepsCaps None (Some pool') = IsWithinCaps pool'
KeepsCaps (Some pool) (Some pool') = IsWithinCaps pool' × (pool'.caps ≡ pool.caps)

-- a machine with nothing on it is added, with its meter; or memory is refused, and the pool is the same
abbrev pub AddsNewTenant : Limits → ReplyStruct → PoolValue → PoolValue → Type 0
AddsNewTenant limits reply pool pool' = ((reply ≡ only NO_ROOM) × (pool' ≡ pool))
    ⊎ (AddsTenant pool (new_state (meter_with limits)) pool' × (reply ≡ with_number DONE (length pool.machines)))

-- no tenant has the index, or there is one and memory for the replies is refused
abbrev pub RefusesTenant : ℕ → PoolValue → ReplyStruct → Type 0
RefusesTenant tenant pool reply = ((machine_of pool tenant ≡ None) × (reply ≡ only NO_TENANT))
    ⊎ (IsSome (machine_of pool tenant) × (reply ≡ only NO_ROOM))

-- a tenant is removed with its machine; or there is none, and the pool is the same
abbrev pub RemovesByStatus : ℕ → ℕ → PoolValue → PoolValue → Type 0
RemovesByStatus tenant status pool pool' =
    ((machine_of pool tenant ≡ None) × (status ≡ NO_TENANT) × (pool' ≡ pool))
    ⊎ ((s : State) × RemovesTenant pool tenant s pool' × (status ≡ DONE))

-- a run of one call on a tenant's machine has a reply; or there is no such tenant, and the pool is the same
abbrev pub CallsTenant : ℕ → Call → PoolValue → PoolValue → Type 0 → (Reply → Type 0) → Type 0
CallsTenant tenant call pool pool' Refused Replied = ((machine_of pool tenant ≡ None) × Refused × (pool' ≡ pool))
    ⊎ ((full : Reply) × RunsTenant pool tenant (call ∷ []) (full ∷ []) pool' × Replied full)

-- a call on a tenant's machine is replied to with a struct
unfoldable pub TenantReplies : ℕ → Call → ReplyStruct → PoolValue → PoolValue → Type 0
TenantReplies tenant call reply pool pool' =
    CallsTenant tenant call pool pool' (reply ≡ only NO_TENANT) (λ full. reply ≡ reply_struct full)

-- a call on a tenant's machine is replied to with a status and a word; where there is no call, the pool and the word stay
unfoldable pub TenantRepliesInWord : ℕ → Option Call → ℕ → ℕ × ℕ → PoolValue → PoolValue → Type 0
TenantRepliesInWord tenant called word left pool pool' = MatchOption called ((left ≡ (NO_CALL, word)) × (pool' ≡ pool))
    (λ call. CallsTenant tenant call pool pool' (left ≡ (NO_TENANT, word))
    (λ full. left ≡ (status_of full, word_after full word)))

-- a call on a tenant's machine is replied to with a status; where there is no call, the pool stays
unfoldable pub TenantRepliesInStatus : ℕ → Option Call → ℕ → PoolValue → PoolValue → Type 0
TenantRepliesInStatus tenant called status pool pool' = MatchOption called ((status ≡ NO_CALL) × (pool' ≡ pool))
    (λ call. CallsTenant tenant call pool pool' (status ≡ NO_TENANT) (λ full. status ≡ status_of full))

-- the call that numbers stand for is replied to on a tenant's machine; where they stand for none, the pool is the same
abbrev pub TenantRepliesToStruct : ℕ → CallStruct → ReplyStruct → PoolValue → PoolValue → Type 0
TenantRepliesToStruct tenant numbers reply pool pool' = MatchOption (call_of numbers)
    ((reply ≡ only NO_CALL) × (pool' ≡ pool))
    (λ call. TenantReplies tenant call reply pool pool')

-- a call on a tenant's machine that takes the caller's list is replied to
unfoldable pub TenantRepliesToItems : ℕ → (Vec ℕ Global → Call) → List ℕ → ReplyStruct → PoolValue → PoolValue → Type 0
TenantRepliesToItems tenant call items reply pool pool' =
    SomeCopy items (λ copy. TenantReplies tenant (call copy) reply pool pool')

-- a tenant's machine replies to a call that takes a copy of the list, or memory for it is refused: the pool is the same
unfoldable pub TenantRepliesToCopy : ℕ → (Vec ℕ Global → Call) → List ℕ → ReplyStruct → PoolValue → PoolValue → Type 0
TenantRepliesToCopy tenant call items reply pool pool' = ((reply ≡ only NO_ROOM) × (pool' ≡ pool))
    ⊎ TenantRepliesToItems tenant call items reply pool pool'

-- a tenant's machine replies to the making of a segment; where no reference type has the number, the pool is the same
abbrev pub TenantRepliesToSegment : ℕ → ℕ → List ℕ → ReplyStruct → PoolValue → PoolValue → Type 0
TenantRepliesToSegment tenant ty items reply pool pool' = MatchOption (reference_type_of ty)
    ((reply ≡ only NO_CALL) × (pool' ≡ pool))
    (λ ref. TenantRepliesToCopy tenant (NewSegment ref) items reply pool pool')

-- the pool with another machine at an index
abbrev pub with_machine_at : PoolValue → ℕ → State → PoolValue
with_machine_at pool tenant machine = record pool { machines = slice_set pool.machines tenant (Some machine) }

-- an amount of fuel is taken from a tenant's machine, and all else is the same; where there is no such tenant, the pool is
abbrev pub TenantPaysFuel : ℕ → ℕ → ReplyStruct → PoolValue → PoolValue → Type 0
TenantPaysFuel tenant amount reply pool pool' = MatchOption (machine_of pool tenant)
    ((reply ≡ only NO_TENANT) × (pool' ≡ pool))
    (λ machine. PaysFuelIn pool (with_machine_at pool tenant) amount machine reply pool')

-- a tenant's machine has so many more slots reserved, and all else is the same; where there is no such tenant, the pool is
abbrev pub TenantReserves : ℕ → Room → ℕ → PoolValue → PoolValue → Type 0
TenantReserves tenant room status pool pool' = MatchOption (machine_of pool tenant)
    ((status ≡ NO_TENANT) × (pool' ≡ pool))
    (λ machine. ReservesIn pool (with_machine_at pool tenant) room machine status pool')

-- memory for a tenant's elements is reserved or refused, and all else stays; without such a tenant the pool is the same
abbrev pub TenantReservesElements : ℕ → ℕ → ℕ → ℕ → PoolValue → PoolValue → Type 0
TenantReservesElements tenant table elements status pool pool' = MatchOption (machine_of pool tenant)
    ((status ≡ NO_TENANT) × (pool' ≡ pool))
    (λ machine. ReservesElementsIn pool (with_machine_at pool tenant) table elements machine status pool')

-- a tenant's machine replies to the calls of a list in turn; where there is no such tenant, nothing has changed
abbrev pub TenantRepliesToList
    : ℕ → List CallStruct → List ReplyStruct → ℕ × List ReplyStruct → PoolValue → PoolValue → Type 0
TenantRepliesToList tenant calls old left pool pool' = MatchOption (machine_of pool tenant)
    ((left ≡ (NO_TENANT, old)) × (pool' ≡ pool))
    (λ machine. RepliesInTurn (λ numbers before reply after. TenantRepliesToStruct tenant numbers reply before after)
    calls old pool left pool')

-- a tenant's bytes are copied to the caller's, which stay where there is no such tenant; the pool is the same
abbrev pub TenantReadsOut : ℕ → ℕ → ℕ → List ℕ → ReplyStruct → List ℕ → PoolValue → PoolValue → Type 0
TenantReadsOut tenant memory offset old reply new pool pool' = (pool' ≡ pool) × MatchOption (machine_of pool tenant)
    ((reply ≡ only NO_TENANT) × (new ≡ old))
    (λ machine. ReadsOut memory offset machine old reply new)

-- lines for a tenant that aren't run are refused, or they write a script without header lines, and the tenant is refused
abbrev pub RefusesTenantLines : ℕ → List ℕ → PoolValue → ReplyStruct → Type 0
RefusesTenantLines tenant lines pool reply = RefusesLines lines reply
    ⊎ ((script : Script) × WritesScript lines script × (script.header ≡ no_header) × RefusesTenant tenant pool reply)

-- lines are run on a tenant's machine as the script that they write, or they aren't, and nothing has changed
unfoldable pub RunsTenantLines : ℕ → List ℕ → List ℕ → ReplyStruct → List ℕ → PoolValue → PoolValue → Type 0
RunsTenantLines tenant lines old reply new pool pool' =
    (RefusesTenantLines tenant lines pool reply × (new ≡ old) × (pool' ≡ pool))
    ⊎ ((script : Script) × WritesScript lines script
    × RunsScriptBy (λ calls replies. RunsTenant pool tenant calls replies pool') script old reply new)

-- what a tenant's machine has
abbrev pub tenant_totals : ℕ → PoolValue → Totals
tenant_totals tenant pool = elim (machine_of pool tenant) [
  | None ↦ totals_in NO_TENANT 0 0
  | Some machine ↦ totals_in DONE (total machine Bytes) (total machine Elements)
]

-- what all tenants' machines have
abbrev pub pool_totals : PoolValue → Totals
pool_totals pool = totals_in DONE (total_of pool.machines Bytes) (total_of pool.machines Elements)
