-- A machine with the limiter that it asks, and the caps that it stays within.
use Rattle.std.specs.Prelude.{◌≡◌, ◌≤◌, ⊤, Option, Some, None, IfSome}
use Rattle.wasmi_meter.specs.AnyLimiter.{caps_of, quota_of}
use Rattle.wasmi_meter.specs.Capped.{cap_of, holdings, IsWithinCaps}
use Rattle.wasmi_meter.specs.declared.{any_limiter.AnyLimiter.AnyLimiter, limiter.Kind.Kind, quota.Quota.Quota}
use Rattle.wasmi_machine.specs.State.{State, total, HoldsTotals}

-- a machine, and the limiter that it asks
pub record MachineValue : Type 0 where
  pub state : State
  pub limiter : AnyLimiter

-- the quota holds what the machine has, and no more than its caps
pub record IsKept (state : State) (quota : Quota) : Type 0 where
  pub totals : HoldsTotals (holdings quota) state
  pub within : IsWithinCaps quota

-- a limiter that is a quota holds what a machine has
abbrev pub Keeps : State → AnyLimiter → Type 0
Keeps state limiter = IfSome (quota_of limiter) (IsKept state)

-- the machine has no more bytes and no more elements than its caps, if it has caps
abbrev pub IsCapped : MachineValue → Type 0
IsCapped machine =
    (kind : Kind) → IfSome (quota_of machine.limiter) (λ quota. total machine.state kind ≤ cap_of quota kind)

-- the machine of a handle is within its caps, and they are those of the machine that was there before, if one was
abbrev pub StaysWithinCaps : Option MachineValue → Option MachineValue → Type 0
StaysWithinCaps held None = ⊤
StaysWithinCaps None (Some machine') = IsCapped machine'
StaysWithinCaps (Some machine) (Some machine') =
    IsCapped machine' × (caps_of machine'.limiter ≡ caps_of machine.limiter)
