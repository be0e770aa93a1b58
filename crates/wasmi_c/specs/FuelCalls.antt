-- What the calls on a fuel meter do.
use Rattle.std.specs.Prelude.{◌≡◌, ◌-◌, ℕ, nat_le, MatchBool, MatchOption}
use Rattle.wasmi_meter.specs.Meter.{meter_after, meter_set}
use Rattle.wasmi_c.specs.Numbers.{meter_of}
use Rattle.wasmi_c.specs.declared.status.TheConstants.{DONE, METERING_DISABLED, OUT_OF_FUEL}
use Rattle.wasmi_c.specs.declared.numbers.MeterNumbers.{MeterNumbers}

-- the fuel of a meter that is on is set to an amount; none of its other numbers changes
abbrev pub SetsFuel : ℕ → MeterNumbers → ℕ → MeterNumbers → Type 0
SetsFuel amount h status h' = MatchOption (meter_of h).left
    ((status ≡ METERING_DISABLED) × (h' ≡ h))
    (λ left. (status ≡ DONE) × (meter_of h' ≡ meter_set (meter_of h) amount) × (h' ≡ record h { left = amount }))

-- the fuel that is left of a meter that is on
abbrev pub TellsFuel : MeterNumbers → ℕ → ℕ → ℕ → Type 0
TellsFuel h number status number' = MatchOption (meter_of h).left ((status ≡ METERING_DISABLED) × (number' ≡ number))
    (λ left. (status ≡ DONE) × (number' ≡ left))

-- an amount is taken of a meter that is on where so much is left, and the number is what is left then; else the number
-- is the amount, and nothing is taken; none of its other numbers changes
abbrev pub PaysFuel : ℕ → MeterNumbers → ℕ → ℕ → MeterNumbers → ℕ → Type 0
PaysFuel amount h number status h' number' = MatchOption (meter_of h).left
    ((status ≡ METERING_DISABLED) × (h' ≡ h) × (number' ≡ number))
    (λ left. MatchBool (nat_le amount left)
    ((status ≡ DONE) × (number' ≡ left - amount) × (meter_of h' ≡ meter_after (meter_of h) amount)
    × (h' ≡ record h { left = left - amount }))
    ((status ≡ OUT_OF_FUEL) × (number' ≡ amount) × (h' ≡ h)))
