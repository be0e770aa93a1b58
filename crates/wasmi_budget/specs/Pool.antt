-- A pool of tenants: a tenant's rules, what the machines hold together, how the machine at an index becomes another by
-- a run, a reservation or a removal, which calls ask no limiter, and what the pool's errors print.
use Rattle.wasmi_meter.specs.declared.{quota.Holdings.Holdings, limiter.Kind.Kind, quota.Amounts.Amounts}
use Rattle.wasmi_meter.specs.Capped.{amount_of, nothing, amounts_of, Capped, capped_rules, held_together}
use Rattle.wasmi_meter.specs.Limiter.{Rules, optional_rules}
use Rattle.wasmi_budget.specs.declared.{tenant.Tenant.Tenant, error.AddError.AddError, error.PoolError.PoolError, error.ReserveError.ReserveError, error.RunIntoError.RunIntoError}
use Rattle.std.specs.Prelude.{◌≡◌, ◌≤◌, ◌<◌, ◌+◌, ◌-◌, ◌^◌, ◌++◌, ⊤, ℕ, List, [], ◌∷◌, Option, Some, None, slice_index_or, slice_set, sum_by, remove, codes}
use Rattle.wasmi_meter.specs.declared.limiter.Kind.TheVariants.{Bytes, Elements}
use Rattle.wasmi_machine.specs.declared.{calls.Call.Call, calls.Reply.Reply, slots.SlotCounts.SlotCounts}
use Rattle.wasmi_machine.specs.declared.calls.Call.TheVariants.{Binary, CopyMemory, FillMemory, InitMemory, SetFuel, Store}
use Rattle.wasmi_machine.specs.State.{State, total, world, with_reserved, with_tables, HoldsTotals}
use Rattle.wasmi_machine.specs.Steps.{IsRunOf, RepliesWith}
use Rattle.wasmi_machine.specs.TableEffects.{ReservesElementsAt}
use Rattle.wasmi_budget.specs.declared.error.AddError.TheVariants.{NotEmpty, NoRoom}
use Rattle.wasmi_budget.specs.declared.error.PoolError.TheVariants.{NoTenant, OutOfMemory}
use Rattle.wasmi_budget.specs.declared.error.ReserveError.TheVariants as reserve
use Rattle.wasmi_budget.specs.declared.error.RunIntoError.TheVariants as into

-- what a tenant holds
abbrev pub holdings : Tenant → Holdings
holdings tenant = tenant.holdings

-- tenants as limiters with caps
abbrev pub capped_tenant : Capped Tenant
capped_tenant = record {
  holdings = holdings;
  with_holdings = λ tenant h. record tenant { holdings = h };
  others = λ tenant kind. amount_of tenant.others kind;
  cap = λ tenant kind. amount_of tenant.caps kind;
}

-- the rules of a tenant
abbrev pub tenant_rules : Rules Tenant
tenant_rules = capped_rules capped_tenant

-- a tenant of a pool in which the others hold nothing
abbrev pub without_others : Tenant → Tenant
without_others tenant = record tenant { others = nothing }

-- a pool: its caps, and the machines of its tenants at their indices; a tenant that was removed left none at its index
pub record PoolValue : Type 0 where
  pub caps : Amounts
  pub machines : List (Option State)

-- the machine of the tenant of an index, if there is one
abbrev pub machine_of : PoolValue → ℕ → Option State
machine_of pool index = slice_index_or pool.machines index None

-- what a machine has of a kind, if there is one
abbrev pub total_at : Option State → Kind → ℕ
total_at (Some s) kind = total s kind
total_at None kind = 0

-- what these machines have of a kind
abbrev pub total_of : List (Option State) → Kind → ℕ
total_of machines kind = sum_by (λ s. total_at s kind) machines

-- a pool with these caps and machines
abbrev pub pool_of : Amounts → List (Option State) → PoolValue
pool_of caps machines = record { caps = caps; machines = machines }

-- all machines together are within the caps
abbrev pub IsWithinCaps : PoolValue → Type 0
IsWithinCaps pool = (kind : Kind) → total_of pool.machines kind ≤ amount_of pool.caps kind

-- all machines together are within the caps, which are numbers of 64 bits, and have these amounts
pub record IsKept (pool : PoolValue) (held : Amounts) : Type 0 where
  pub within : IsWithinCaps pool
  pub fits : (kind : Kind) → amount_of pool.caps kind < 2 ^ 64
  pub counted : held ≡ amounts_of (total_of pool.machines)

-- the limiter of the machine s of an index: it holds what the machine has, beside what the others have
abbrev pub tenant_at : PoolValue → ℕ → State → Tenant
tenant_at pool index s = record {
  caps = pool.caps;
  others = amounts_of (total_of (remove pool.machines index));
  holdings = record { held = amounts_of (total s); last = None };
}

-- the machine has no bytes and no elements, and dropped none
pub record HasNothing (s : State) : Type 0 where
  pub bytes : total s Bytes ≡ 0
  pub elements : total s Elements ≡ 0

-- a machine that has nothing is added as it is
pub record AddsTenant (pool : PoolValue) (s : State) (pool' : PoolValue) : Type 0 where
  pub empty : HasNothing s
  pub added : pool' ≡ record pool { machines = pool.machines ++ Some s ∷ [] }

-- why a machine isn't added
abbrev pub IsAddRefusal : State → AddError → Type 0
IsAddRefusal s NotEmpty = ¬ HasNothing s
IsAddRefusal s NoRoom = HasNothing s

-- the machine of an index has run these calls under its limiter by some rules, and all else is the same
pub record RunsTenantBy (rules : Rules (Option Tenant)) (pool : PoolValue) (index : ℕ) (calls : List Call)
    (replies : List Reply) (pool' : PoolValue) : Type 0 where
  pub machine : State
  pub found : machine_of pool index ≡ Some machine
  pub machine' : State
  pub tenant' : Tenant
  pub ran : IsRunOf rules calls (record { state = machine; limiter = Some (tenant_at pool index machine) })
      replies (record { state = machine'; limiter = Some tenant' })
  pub after : pool' ≡ record pool { machines = slice_set pool.machines index (Some machine') }

-- the machine of an index has run these calls under its limiter by a tenant's rules, and all else is the same
abbrev pub RunsTenant : PoolValue → ℕ → List Call → List Reply → PoolValue → Type 0
RunsTenant = RunsTenantBy (optional_rules tenant_rules)

-- the tenant that holds so much of what all hold, under the caps
abbrev pub tenant_of : Amounts → Amounts → Amounts → Tenant
tenant_of caps all held = record {
  caps = caps;
  others = record { bytes = all.bytes - held.bytes; elements = all.elements - held.elements };
  holdings = record { held = held; last = None };
}

-- what all hold of a kind where a tenant holds so much
abbrev pub held_before : Tenant → Amounts → Kind → ℕ
held_before tenant held kind = amount_of tenant.others kind + amount_of held kind

-- what a machine has is a part of what all hold, which is within the caps, numbers of 64 bits
pub record IsPart (caps all : Amounts) (s : State) : Type 0 where
  pub within : (kind : Kind) → amount_of all kind ≤ amount_of caps kind
  pub fits : (kind : Kind) → amount_of caps kind < 2 ^ 64
  pub counted : (kind : Kind) → total s kind ≤ amount_of all kind

-- a machine has run these calls under the tenant that it has where all hold so much, and they hold so much then
pub record RunsAsPart (caps all : Amounts) (s : State) (calls : List Call) (replies : List Reply) (s' : State)
    (all' : Amounts) : Type 0 where
  pub tenant' : Tenant
  pub ran : IsRunOf (optional_rules tenant_rules) calls
      (world s (Some (tenant_of caps all (amounts_of (total s))))) replies (world s' (Some tenant'))
  pub holds : HoldsTotals (holdings tenant') s'
  pub together : all' ≡ amounts_of (held_together capped_tenant tenant')

-- a call is a store of an item, an instruction on two vectors, a write over a range of a memory or a setting of the
-- fuel, which asks no limiter
abbrev pub IsUnasked : Call → Type 0
IsUnasked (Store op memory ptr offset value) = ⊤
IsUnasked (Binary op dst a b) = ⊤
IsUnasked (FillMemory memory dst value len) = ⊤
IsUnasked (CopyMemory into dst from src len) = ⊤
IsUnasked (InitMemory memory segment dst src len) = ⊤
IsUnasked (SetFuel fuel) = ⊤
IsUnasked call = ⊥

-- a machine replies to a call in the same way under each tenant, which is then as it was
abbrev pub RepliesUnasked : Call → State → Reply → State → Type 0
RepliesUnasked call s reply s' = (tenant : Tenant)
    → RepliesWith (optional_rules tenant_rules) call (world s (Some tenant)) reply (world s' (Some tenant))

-- the machine at an index has become another one in this way, and all others are the same
pub record BecomesAt (machines : List (Option State)) (index : ℕ) (change : State → State → Type 0)
    (machines' : List (Option State)) : Type 0 where
  pub machine : State
  pub found : slice_index_or machines index None ≡ Some machine
  pub machine' : State
  pub becomes : change machine machine'
  pub after : machines' ≡ slice_set machines index (Some machine')

-- the machine at an index has replied to a call without its tenant, and all others are the same
abbrev pub RunsUnasked : List (Option State) → ℕ → Call → Reply → List (Option State) → Type 0
RunsUnasked machines index call reply = BecomesAt machines index (λ s s'. RepliesUnasked call s reply s')

-- the machine of a tenant was taken off: its index has none from then on, and all else is the same
pub record RemovesTenant (pool : PoolValue) (index : ℕ) (s : State) (pool' : PoolValue) : Type 0 where
  pub found : machine_of pool index ≡ Some s
  pub removed : pool' ≡ record pool { machines = slice_set pool.machines index None }

-- the machine at an index has so many more slots reserved, and all others are the same
abbrev pub ReservesAt : List (Option State) → ℕ → SlotCounts → List (Option State) → Type 0
ReservesAt machines index more machines' = BecomesAt machines index (λ s s'. s' ≡ with_reserved s more) machines'

-- the machine of a tenant has so many more slots reserved, and all else is the same
abbrev pub ReservesForTenant : PoolValue → ℕ → SlotCounts → PoolValue → Type 0
ReservesForTenant pool index more pool' = (pool'.caps ≡ pool.caps) × ReservesAt pool.machines index more pool'.machines

-- a machine has replied to a reservation of so many elements in all of one of its tables, and all else is the same
abbrev pub ReservesElements : State → ℕ → ℕ → Reply → State → Type 0
ReservesElements s table elements reply s' =
    ReservesElementsAt table elements s.tables reply s'.tables × (s' ≡ with_tables s s'.tables)

-- the machine at an index has replied to a reservation of elements of one of its tables, and all others are the same
abbrev pub ReservesElementsIn : List (Option State) → ℕ → ℕ → ℕ → Reply → List (Option State) → Type 0
ReservesElementsIn machines index table elements reply machines' =
    BecomesAt machines index (λ s s'. ReservesElements s table elements reply s') machines'

-- the machine of a tenant has replied to a reservation of elements, and all else is the same
abbrev pub ReservesElementsForTenant : PoolValue → ℕ → ℕ → ℕ → Reply → PoolValue → Type 0
ReservesElementsForTenant pool index table elements reply pool' =
    (pool'.caps ≡ pool.caps) × ReservesElementsIn pool.machines index table elements reply pool'.machines

-- the text of why a machine isn't added to a pool
abbrev pub add_error_text : AddError → List ℕ
add_error_text NotEmpty = codes "tried to add a machine that has or had bytes or elements"
add_error_text NoRoom = codes "out of memory for one more tenant"

-- the text of why a pool makes no run
abbrev pub pool_error_text : PoolError → List ℕ
pool_error_text NoTenant = codes "tried to run a tenant that is not in the pool"
pool_error_text OutOfMemory = codes "out of memory for the replies"

-- the text of why a pool makes no run into memory that is kept
abbrev pub run_into_error_text : RunIntoError → List ℕ
run_into_error_text into.NoTenant = codes "tried to run a tenant that is not in the pool"
run_into_error_text into.TooManyCalls = codes "more calls than there is memory for replies"

-- the text of why a pool reserves no slots
abbrev pub reserve_error_text : ReserveError → List ℕ
reserve_error_text reserve.NoTenant = codes "tried to reserve slots for a tenant that is not in the pool"
reserve_error_text reserve.OutOfMemory = codes "out of memory for the slots"
