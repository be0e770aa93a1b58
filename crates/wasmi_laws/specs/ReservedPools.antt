-- The calls and replies of all runs of a tenant of a pool, and tenants that have reserved what their calls need: no
-- reply to them says out of memory.
use Rattle.std.specs.Prelude.{◌≡◌, ◌++◌, ◌∷◌, ℕ, List, [], Some, All, nat_eq, if◌then◌else◌}
use Rattle.wasmi_machine.specs.declared.{calls.Call.Call, calls.Reply.Reply, slots.SlotCounts.SlotCounts}
use Rattle.wasmi_machine.specs.Determinism.{IsNotOutOfMemory}
use Rattle.wasmi_machine.specs.State.{State}
use Rattle.wasmi_laws.specs.Reserved.{FitsSlots, IsReservedFor}
use Rattle.wasmi_budget.specs.Laws.{PoolTurn, Ran, Reserved, PoolRun}
use Rattle.wasmi_budget.specs.Pool.{PoolValue, machine_of}

-- what a list is of each run of the tenant of an index, one after another
abbrev pub of_runs : {A : Type 0} → (List Call → List Reply → List A) → ℕ → List PoolTurn → List A
of_runs list index [] = []
of_runs list index (Ran i calls replies ∷ turns) =
    if nat_eq i index then list calls replies ++ of_runs list index turns else of_runs list index turns
of_runs list index (turn ∷ turns) = of_runs list index turns

-- the calls of all runs of the tenant of an index, one after another
abbrev pub calls_of : ℕ → List PoolTurn → List Call
calls_of = of_runs (λ calls replies. calls)

-- the replies in all runs of the tenant of an index, one after another
abbrev pub replies_of : ℕ → List PoolTurn → List Reply
replies_of = of_runs (λ calls replies. replies)

-- no reply to the calls of a tenant whose machine has reserved what all of them need says out of memory, whatever else is
-- done with the pool in between
abbrev pub ReservedTenantsSucceed : Type 0
ReservedTenantsSucceed = (pool : PoolValue) (index : ℕ) (s : State) → machine_of pool index ≡ Some s
    → (turns : List PoolTurn) (pool' : PoolValue) → IsReservedFor s (calls_of index turns) → PoolRun pool turns pool'
    → All IsNotOutOfMemory (replies_of index turns)

-- no reply to the calls of a tenant says out of memory where so many more slots are reserved on its machine first,
-- which are enough for what the calls make
abbrev pub SlotsSufficeForTenants : Type 0
SlotsSufficeForTenants = (pool : PoolValue) (index : ℕ) (s : State) → machine_of pool index ≡ Some s
    → (more : SlotCounts) (turns : List PoolTurn) (pool' : PoolValue) → FitsSlots s more (calls_of index turns)
    → PoolRun pool (Reserved index more ∷ turns) pool' → All IsNotOutOfMemory (replies_of index turns)
