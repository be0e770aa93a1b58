-- Accounts of fuel: what calls set, what turns were charged, what a meter has left, and how many bytes turns have
-- written for their charges.
use Rattle.std.specs.Prelude.{◌≡◌, ◌+◌, ◌≤◌, ℕ, Some, List, fold, sum_by, ◌-◌, ◌*◌, ◌<◌, Bool, true, false, ◌&&◌, if◌then◌else◌, count_by}
use Rattle.wasmi_meter.specs.Meter.{Meter, meter_set, PaysCharge}
use Rattle.wasmi_machine.specs.declared.{calls.Call.Call, calls.Reply.Reply}
use Rattle.wasmi_machine.specs.declared.calls.Call.TheVariants.{SetFuel}
use Rattle.wasmi_machine.specs.State.{Turn}
use Rattle.wasmi_machine.specs.declared.calls.Reply.TheVariants.{Done, Number}
use Rattle.wasmi_machine.specs.Steps.{is_charged}

-- the fuel that was set last, or that was left at first, and the sum of the charges since then
pub record Account : Type 0 where
  pub granted : ℕ
  pub charged : ℕ

-- an account of so much fuel, of which nothing was charged yet
abbrev pub opened : ℕ → Account
opened fuel = record { granted = fuel; charged = 0 }

-- an account after a call with a charge: setting the fuel opens it anew
abbrev pub charged_by : Account → Call → ℕ → Account
charged_by account (SetFuel fuel) charge = opened fuel
charged_by account call charge = record { granted = account.granted; charged = account.charged + charge }

-- an account after turns
abbrev pub account_after : Account → List Turn → Account
account_after account turns = fold (λ a turn. charged_by a turn.call turn.charge) account turns

-- metering is on, and what is left and what was charged are what was granted
abbrev pub Balances : Account → Meter → Type 0
Balances account m = (left : ℕ) × (m.left ≡ Some left) × (left + account.charged ≡ account.granted)

-- what a call with a charge makes of the meter: one that sets the fuel sets it, and each other one takes its charge
abbrev pub ChangesMeter : Call → Meter → ℕ → Meter → Type 0
ChangesMeter (SetFuel fuel) m charge m' = m' ≡ meter_set m fuel
ChangesMeter call m charge m' = PaysCharge m charge m'

-- the call doesn't set the fuel
abbrev pub SetsNoFuel : Call → Type 0
SetsNoFuel (SetFuel fuel) = ⊥
SetsNoFuel call = Unit {0}

-- what turns were charged
abbrev pub charges : List Turn → ℕ
charges turns = sum_by (λ turn. turn.charge) turns

-- whether a reply accepts a call that is charged for what it writes, as what turns have written is counted
abbrev pub is_accepted : Reply → Bool
is_accepted Done = true
is_accepted (Number size) = true
is_accepted reply = false

-- whether a turn of this call with this reply counts as one that has written
abbrev pub has_written : Call → Reply → Bool
has_written call reply = is_charged call && is_accepted reply

-- how many turns have written
abbrev pub writing_turns : List Turn → ℕ
writing_turns turns = count_by (λ turn. has_written turn.call turn.reply) turns

-- what the turns that have written were charged
abbrev pub charges_for_writing : List Turn → ℕ
charges_for_writing turns = sum_by (λ turn. if has_written turn.call turn.reply then turn.charge else 0) turns

-- how many bytes turns have written
abbrev pub bytes_written : List Turn → ℕ
bytes_written turns = sum_by (λ turn. turn.written) turns

-- the amount to which a call sets the fuel, or 0
abbrev pub amount_set : Call → ℕ
amount_set (SetFuel fuel) = fuel
amount_set call = 0

-- the sum of all amounts to which turns have set the fuel
abbrev pub amounts_set : List Turn → ℕ
amounts_set turns = sum_by (λ turn. amount_set turn.call) turns

-- at a rate of so many bytes a fuel, no more is written than what was charged pays for, and less than a fuel's worth
-- beyond it in each turn; and no more than all the fuel that there was
pub record IsBounded (rate fuel : ℕ) (turns : List Turn) : Type 0 where
  pub by_charges : bytes_written turns ≤ rate * charges_for_writing turns + writing_turns turns * (rate - 1)
  pub by_fuel : bytes_written turns ≤ rate * (fuel + amounts_set turns) + writing_turns turns * (rate - 1)

-- what was left before is what is left after turns and what they were charged; at a rate above 0, no more is written
-- than what was spent pays for, and less than a fuel's worth beyond it in each turn
pub record IsSpent (rate before after : ℕ) (turns : List Turn) : Type 0 where
  pub charged : after + charges turns ≡ before
  pub written : 0 < rate → bytes_written turns ≤ rate * (before - after) + writing_turns turns * (rate - 1)
