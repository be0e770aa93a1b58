-- What holds of all calls on a pool, one after another, and of all runs of a tenant's machine.
use Rattle.std.specs.Prelude.{◌≡◌, ◌≢◌, ◌+◌, ℕ, List, [], ◌∷◌, nat_eq, if◌then◌else◌, MatchBool, Some, None, All}
use Rattle.wasmi_machine.specs.declared.{calls.Call.Call, calls.Reply.Reply, slots.SlotCounts.SlotCounts}
use Rattle.wasmi_machine.specs.State.{State, Turn, total, world}
use Rattle.wasmi_budget.specs.Pool.{PoolValue, AddsTenant, RunsTenant, RemovesTenant, ReservesForTenant, ReservesElementsForTenant, machine_of, pool_of, tenant_rules, total_of, without_others, RunsTenantBy, IsWithinCaps}
use Rattle.wasmi_meter.specs.declared.limiter.Kind.{Kind}
use Rattle.wasmi_meter.specs.Limiter.{optional_rules}
use Rattle.wasmi_machine.specs.Determinism.{permitting, TellsNoDenial}
use Rattle.wasmi_machine.specs.Steps.{Run}
use Rattle.wasmi_budget.specs.declared.tenant.Tenant.{Tenant}

-- one call on a pool: a machine was added, a tenant's machine has run, so many slots were reserved on it, or it has
-- replied to a reservation of elements of one of its tables, a tenant was removed, whose machine is this one, or the call
-- was refused
pub data PoolTurn : Type 0 where
  Added : State → PoolTurn
  Ran : ℕ → List Call → List Reply → PoolTurn
  Reserved : ℕ → SlotCounts → PoolTurn
  ReservedElements : ℕ → ℕ → ℕ → Reply → PoolTurn
  Removed : ℕ → State → PoolTurn
  Refused : PoolTurn

-- a call leads a pool to another
abbrev pub PoolStep : PoolValue → PoolTurn → PoolValue → Type 0
PoolStep pool (Added s) pool' = AddsTenant pool s pool'
PoolStep pool (Ran index calls replies) pool' = RunsTenant pool index calls replies pool'
PoolStep pool (Reserved index more) pool' = ReservesForTenant pool index more pool'
PoolStep pool (ReservedElements index table elements reply) pool' =
    ReservesElementsForTenant pool index table elements reply pool'
PoolStep pool (Removed index s) pool' = RemovesTenant pool index s pool'
PoolStep pool Refused pool' = pool' ≡ pool

-- calls one after another, each a step of this kind
abbrev pub RunBy : (PoolValue → PoolTurn → PoolValue → Type 0) → PoolValue → List PoolTurn → PoolValue → Type 0
RunBy Step pool [] pool' = pool' ≡ pool
RunBy Step pool (turn ∷ turns) pool' = (next : PoolValue) × Step pool turn next × RunBy Step next turns pool'

-- calls one after another lead a pool to another
abbrev pub PoolRun : PoolValue → List PoolTurn → PoolValue → Type 0
PoolRun = RunBy PoolStep

-- a call on a pool, which permits each question where it is a run of the tenant of an index, and doesn't remove that
abbrev pub PermittingStep : ℕ → PoolValue → PoolTurn → PoolValue → Type 0
PermittingStep index pool (Ran i calls replies) pool' = MatchBool (nat_eq i index)
    (RunsTenantBy (permitting (optional_rules tenant_rules)) pool i calls replies pool')
    (RunsTenant pool i calls replies pool')
PermittingStep index pool (Removed i s) pool' = (i ≢ index) × RemovesTenant pool i s pool'
PermittingStep index pool turn pool' = PoolStep pool turn pool'

-- such calls one after another: the tenant of the index is never denied, and stays
abbrev pub PermittingRun : ℕ → PoolValue → List PoolTurn → PoolValue → Type 0
PermittingRun index = RunBy (PermittingStep index)

-- the runs and reservations of the tenant of an index, as those of the only tenant
abbrev pub own_turns : ℕ → List PoolTurn → List PoolTurn
own_turns index [] = []
own_turns index (Ran i calls replies ∷ turns) =
    if nat_eq i index then Ran 0 calls replies ∷ own_turns index turns else own_turns index turns
own_turns index (Reserved i more ∷ turns) =
    if nat_eq i index then Reserved 0 more ∷ own_turns index turns else own_turns index turns
own_turns index (ReservedElements i table elements reply ∷ turns) =
    if nat_eq i index then ReservedElements 0 table elements reply ∷ own_turns index turns else own_turns index turns
own_turns index (turn ∷ turns) = own_turns index turns

-- after all calls the caps are the same, and all machines together are within them
abbrev pub CapsHold : Type 0
CapsHold = (pool : PoolValue) → IsWithinCaps pool → (turns : List PoolTurn) (pool' : PoolValue)
    → PoolRun pool turns pool' → (pool'.caps ≡ pool.caps) × IsWithinCaps pool'

-- a run in which each question is permitted is one, with the same turns and machine, where the others hold nothing
abbrev pub OthersDontShow : Type 0
OthersDontShow = (s s' : State) (tenant tenant' : Tenant) (turns : List Turn)
    → Run (permitting (optional_rules tenant_rules)) (world s (Some tenant)) turns (world s' (Some tenant'))
    → Run (optional_rules tenant_rules) (world s (Some (without_others tenant))) turns
    (world s' (Some (without_others tenant')))

-- a tenant that is never denied gets, run after run, what it gets alone under the same caps
abbrev pub RunsAsAlone : Type 0
RunsAsAlone = (pool : PoolValue) (index : ℕ) (s : State) → machine_of pool index ≡ Some s
    → (turns : List PoolTurn) (pool' : PoolValue) → PermittingRun index pool turns pool'
    → (s' : State) × (machine_of pool' index ≡ Some s')
    × PoolRun (pool_of pool.caps (Some s ∷ [])) (own_turns index turns) (pool_of pool.caps (Some s' ∷ []))

-- an accepted run of a tenant in which no reply reports a denial is one in which each question was permitted
abbrev pub RepliesPermit : Type 0
RepliesPermit =
    (pool : PoolValue) (index : ℕ) (calls : List Call) (replies : List Reply) (pool' : PoolValue)
    → All TellsNoDenial replies → RunsTenant pool index calls replies pool'
    → RunsTenantBy (permitting (optional_rules tenant_rules)) pool index calls replies pool'

-- what the machine of a removed tenant has, counts no more
abbrev pub RemovalsGiveBack : Type 0
RemovalsGiveBack = (pool : PoolValue) (index : ℕ) (s : State) (pool' : PoolValue) → RemovesTenant pool index s pool'
    → (kind : Kind) → total_of pool'.machines kind + total s kind ≡ total_of pool.machines kind

-- whatever calls follow, no tenant has the index of one that was removed
abbrev pub RemovedStayRemoved : Type 0
RemovedStayRemoved = (pool : PoolValue) (index : ℕ) (s : State) (pool' : PoolValue) → RemovesTenant pool index s pool'
    → (turns : List PoolTurn) (later : PoolValue) → PoolRun pool' turns later → machine_of later index ≡ None
