-- Fuel meters: what is left on one, also on one that a call may have, what is taken of it or refused, with which error;
-- and what work costs in fuel.
use Rattle.std.specs.Prelude.{◌≡◌, ◌⊎◌, ℕ, ◌-◌, ◌≤◌, ◌<◌, is_some, if◌then◌else◌, Option, Some, None, Result, Ok, Err, ◌*◌, ◌/◌, ◌^◌, min, nat_eq}
use Rattle.std.proofs.Common.{inl, inr}
use Rattle.std.specs.Borrow.{MutBor, Bor}
use Rattle.std.specs.Option.{option_copied_mut, option_map, unwrap_or}
use Rattle.wasmi_meter.specs.declared.{fuel.FuelError.FuelError, fuel.CustomFuelCosts.CustomFuelCosts, error.TableError.TableError, fuel.FuelCostsProvider.FuelCostsProvider}
use Rattle.wasmi_meter.specs.declared.fuel.FuelError.TheVariants.{OutOfFuel}
use Rattle.std.specs.Fn.{Once, FnOnceReturnsAt}
use Rattle.wasmi_meter.specs.declared.fuel.FuelError.TheVariants as fuel
use Rattle.wasmi_meter.specs.declared.error.TableError.TheVariants as table

-- a meter is off, or on with an amount left, at these costs
pub record Meter : Type 0 where
  pub left : Option ℕ
  pub costs : CustomFuelCosts

-- what is left; nothing where the meter is off
abbrev pub amount_left : Meter → ℕ
amount_left m = unwrap_or m.left 0

-- the meter with an amount taken; one that is off stays
abbrev pub meter_after : Meter → ℕ → Meter
meter_after m amount = record m { left = option_map (λ left. left - amount) m.left }

-- the meter set to an amount; one that is off stays
abbrev pub meter_set : Meter → ℕ → Meter
meter_set m amount = record m { left = option_map (λ left. amount) m.left }

-- the meter that an optional reference leads to when a call begins, if there is one
abbrev pub meter_at_entry : Option (MutBor Meter) → Option Meter
meter_at_entry lent = option_copied_mut lent

-- the meter that an optional reference leads to when a call ends, if there is one; a clause has it as `.exit`
abbrev pub meter_at_exit : {A B C : Type 0} → A ⊎ ((MutBor Meter × B) ⊎ C) → Option Meter
meter_at_exit (inr (inl lent)) = Some lent.0.now
meter_at_exit _ = None

-- an amount is taken where that much is left, and is refused otherwise
pub record ConsumesFuel {T : Type 0} (m : Meter) (amount : ℕ) (value : T) (result : Result T FuelError)
    (m' : Meter) : Type 0 where
  pub enough : amount ≤ amount_left m → (result ≡ Ok value) × (m' ≡ meter_after m amount)
  pub short : amount_left m < amount → (result ≡ Err (OutOfFuel amount)) × (m' ≡ m)

-- what a meter is due for a price by its costs: nothing where it is off
abbrev pub due : Meter → (CustomFuelCosts → ℕ) → ℕ
due m price = if is_some m.left then price m.costs else 0

-- a charge is at most what was left of a meter, and is taken of the meter
abbrev pub PaysCharge : Meter → ℕ → Meter → Type 0
PaysCharge m charge m' = (charge ≤ amount_left m) × (m' ≡ meter_after m charge)

-- a charge is taken where that much is left, and refused otherwise with what it needs
abbrev pub Charges : Meter → ℕ → Result (Unit {0}) ℕ → Meter → Type 0
Charges m amount (Ok _) m' = PaysCharge m amount m'
Charges m amount (Err required) m' = (amount_left m < amount) × (required ≡ amount) × (m' ≡ m)

-- too little fuel is an error of a table; that a meter is off is none, and is handed back
abbrev pub IsOfFuel : FuelError → Result TableError FuelError → Type 0
IsOfFuel (fuel.OutOfFuel required) answer = answer ≡ Ok (table.OutOfFuel required)
IsOfFuel fuel.FuelMeteringDisabled answer = answer ≡ Err fuel.FuelMeteringDisabled

-- the costs that stand where none are chosen
abbrev pub default_costs : CustomFuelCosts
default_costs = record { bytes_copied_per_fuel = 64; fuel_per_bytes_translated = 7; fuel_per_bytes_validated = 2 }

-- the costs that are chosen, or the default ones
abbrev pub costs_of : FuelCostsProvider → CustomFuelCosts
costs_of provider = unwrap_or provider.custom default_costs

-- f, called with a provider of these costs, returns the amount
abbrev pub Computes : {F : Type 0} → Once F (Bor FuelCostsProvider × Unit {0}) ℕ → F → CustomFuelCosts → ℕ → Type 0
Computes call f costs amount =
    (provider : FuelCostsProvider) × (costs_of provider ≡ costs) × FnOnceReturnsAt call f provider amount

-- a product cut at the greatest number of 64 bits
abbrev pub cut_product : ℕ → ℕ → ℕ
cut_product x y = min (x * y) (2 ^ 64 - 1)

-- the fuel for copying so many values of so many bytes each
abbrev pub copy_cost : CustomFuelCosts → ℕ → ℕ → ℕ
copy_cost costs values size =
    if nat_eq costs.bytes_copied_per_fuel 0 then 2 ^ 64 - 1 else cut_product values size / costs.bytes_copied_per_fuel
