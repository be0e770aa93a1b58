-- What a machine is made with, and what a new one has.
use Rattle.std.specs.Prelude.{◌≡◌, ◌≢◌, ◌⊎◌, ℕ, All, List, map, Option, Some, None, ◌<◌, nat_eq, if◌then◌else◌}
use Rattle.wasmi_meter.specs.Capped.{nothing, holdings, cap_of}
use Rattle.wasmi_meter.specs.AnswerList.{new_answers}
use Rattle.wasmi_meter.specs.Meter.{Meter}
use Rattle.wasmi_meter.specs.declared.{answer_list.LimiterAnswer.LimiterAnswer, any_limiter.AnyLimiter.AnyLimiter, quota.Quota.Quota}
use Rattle.wasmi_meter.specs.declared.any_limiter.AnyLimiter.TheVariants as limiter
use Rattle.wasmi_meter.specs.declared.limiter.Kind.TheVariants.{Bytes, Elements}
use Rattle.wasmi_machine.specs.State.{new_state}
use Rattle.wasmi_c.specs.Machine.Caps.{MachineValue}
use Rattle.wasmi_c.specs.declared.status.TheConstants.{DONE, HAS_MACHINE, NO_ANSWER, NO_ROOM}
use Rattle.wasmi_c.specs.Types.{if_flag, meter_of}
use Rattle.wasmi_c.specs.declared.machine.limits.Limits.{Limits}
use Rattle.wasmi_meter.specs.declared.answer_list.LimiterAnswer.TheVariants.{Permit, Deny, Error, Complain}

-- the meter that a machine is made with
abbrev pub meter_with : Limits → Meter
meter_with limits = meter_of (if_flag limits.is_metered 0) (record {
  bytes_copied_per_fuel = limits.bytes_copied_per_fuel;
  fuel_per_bytes_translated = limits.fuel_per_bytes_translated;
  fuel_per_bytes_validated = limits.fuel_per_bytes_validated;
})

-- a quota of these caps that holds nothing
pub record IsNewQuota (limits : Limits) (quota : Quota) : Type 0 where
  pub limited : limits.is_unlimited ≡ 0
  pub bytes : cap_of quota Bytes ≡ limits.bytes
  pub elements : cap_of quota Elements ≡ limits.elements
  pub nothing_held : holdings quota ≡ record { held = nothing; last = None }

-- there is a quota of these caps that holds nothing, or no limiter if there are no caps
abbrev pub IsNewLimiter : Limits → AnyLimiter → Type 0
IsNewLimiter limits limiter.Unlimited = limits.is_unlimited ≢ 0
IsNewLimiter limits (limiter.Quota quota) = IsNewQuota limits quota
IsNewLimiter limits (limiter.Answers answers) = ⊥

-- a number that stands for an answer
abbrev pub IsAnswer : ℕ → Type 0
IsAnswer number = number < 4

-- the answer that such a number of a list stands for; a host's single answer has other numbers
abbrev pub listed_answer : ℕ → LimiterAnswer
listed_answer number = if nat_eq number 0 then Permit else if nat_eq number 1 then Deny
    else if nat_eq number 2 then Error else Complain

-- a machine with nothing on it, and with its quota if there are caps
pub record IsNewMachine (limits : Limits) (machine : MachineValue) : Type 0 where
  pub state : machine.state ≡ new_state (meter_with limits)
  pub limiter : IsNewLimiter limits machine.limiter

-- a machine with nothing on it, and with these answers, of which none was taken
pub record IsNewWithAnswers (limits : Limits) (answers : List LimiterAnswer) (machine : MachineValue) : Type 0 where
  pub state : machine.state ≡ new_state (meter_with limits)
  pub limiter : machine.limiter ≡ limiter.Answers (new_answers answers)

-- a machine that is so is made where there is none; where there is one, or memory is refused, nothing has changed
abbrev pub MakesMachine : (MachineValue → Type 0) → Option MachineValue → ℕ → Option MachineValue → Type 0
MakesMachine IsNew (Some machine) status held' = (status ≡ HAS_MACHINE) × (held' ≡ Some machine)
MakesMachine IsNew None status held' = ((status ≡ NO_ROOM) × (held' ≡ None))
    ⊎ ((machine : MachineValue) × IsNew machine × (status ≡ DONE) × (held' ≡ Some machine))

-- a machine with a list of answers is made where there is none; where there is one, a number stands for no answer, or
-- memory is refused, nothing has changed
abbrev pub MakesWithAnswers : Limits → List ℕ → Option MachineValue → ℕ → Option MachineValue → Type 0
MakesWithAnswers limits numbers (Some machine) status held' = (status ≡ HAS_MACHINE) × (held' ≡ Some machine)
MakesWithAnswers limits numbers None status held' =
    (¬ All IsAnswer numbers × (status ≡ NO_ANSWER) × (held' ≡ None))
    ⊎ (All IsAnswer numbers × MakesMachine (IsNewWithAnswers limits (map listed_answer numbers)) None status held')
