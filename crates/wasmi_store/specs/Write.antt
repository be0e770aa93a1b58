-- A write over a range of items, whatever memory, table or list has them, as a bulk instruction makes it: what stands
-- before it, what the items become, its price in fuel, and how it ends.
use Rattle.std.specs.Prelude.{◌≡◌, ℕ, Option, Some, None, Result, Ok, Err, List, replicate, MatchBool, option_map, option_and_then}
use Rattle.wasmi_types.specs.Access.{at, overwrite}
use Rattle.wasmi_meter.specs.declared.{error.MemoryError.MemoryError, fuel.CustomFuelCosts.CustomFuelCosts}
use Rattle.wasmi_meter.specs.declared.error.MemoryError.TheVariants.{OutOfBoundsAccess, OutOfFuel}
use Rattle.wasmi_meter.specs.Meter.{copy_cost, meter_after}
use Rattle.wasmi_meter.specs.Attempt.{MeteredValue, optional_due, covers}
use Rattle.wasmi_store.specs.Growth.{metered}

-- items of which so many, from dst on, are each filled with a value, or none where they end too early
abbrev pub filled : {A : Type 0} → List A → ℕ → A → ℕ → Option (List A)
filled items dst value len = overwrite items dst (replicate len value)

-- items whose part from dst on is written over by len items of a list from src on, or none where a list ends early
abbrev pub copied : {A : Type 0} → List A → ℕ → List A → ℕ → ℕ → Option (List A)
copied items dst source src len = option_and_then (λ part. overwrite items dst part) (at source src len)

-- the price of a write over so many items of so many bytes each
abbrev pub item_price : ℕ → ℕ → CustomFuelCosts → ℕ
item_price size n costs = copy_cost costs n size

-- A write over a range of a value: the error of what stands before it, if anything does; the value afterwards, or none
-- where a range ends past its list; the error there; its price by a meter's costs, if there is one; and the error if so
-- much isn't left.
pub record MeteredWrite (V E : Type 0) : Type 0 where
  pub early : Option E
  pub written : Option V
  pub outside : E
  pub price : Option (CustomFuelCosts → ℕ)
  pub unpaid : ℕ → E

module _ {V E : Type 0} (w : MeteredWrite V E) (s : MeteredValue V (Unit {0})) where
  -- what is due for it
  abbrev pub write_due : ℕ
  write_due = optional_due s.meter w.price

  -- what it is charged, by its result
  abbrev pub write_charge : Result (Unit {0}) E → ℕ
  write_charge (Ok _) = write_due
  write_charge (Err error) = 0

  module _ (result : Result (Unit {0}) E) (s' : MeteredValue V (Unit {0})) where
    -- the write is refused for a cause: nothing is written or taken
    abbrev pub IsRefusedFor : E → Type 0
    IsRefusedFor cause = (result ≡ Err cause) × (s' ≡ s)

    -- how it ends, by the tests in their order: what stands before it, its ranges, its fuel, which is taken or isn't left
    abbrev pub EndsBy : Option E → Option V → Type 0
    EndsBy (Some cause) written = IsRefusedFor cause
    EndsBy None None = IsRefusedFor w.outside
    EndsBy None (Some value) = MatchBool (covers s.meter write_due)
        ((result ≡ Ok tt) × (s' ≡ metered value (option_map (λ m. meter_after m write_due) s.meter)))
        (IsRefusedFor (w.unpaid write_due))

    -- how it ends
    abbrev pub Writes : Type 0
    Writes = EndsBy w.early w.written

-- a write over a range of a value takes place, with its charge
pub record WritesCharging {V E : Type 0} (write : V → MeteredWrite V E) (s : MeteredValue V (Unit {0}))
    (result : Result (Unit {0}) E) (charge : ℕ) (s' : MeteredValue V (Unit {0})) : Type 0 where
  pub writes : Writes (write s.value) s result s'
  pub charged : charge ≡ write_charge (write s.value) s result

-- a write over items, wherever they lie: by the error of a meter with less than is needed, what the items become, or
-- none where a range ends past its list, the error there, and what they cost, if anything
abbrev pub items_write : {A E : Type 0} → (ℕ → E) → Option (List A) → E → Option (CustomFuelCosts → ℕ)
    → MeteredWrite (List A) E
items_write unpaid written outside price =
    record { early = None; written = written; outside = outside; price = price; unpaid = unpaid }

-- items are written over
abbrev pub WritesItems : {A E : Type 0} → (ℕ → E) → Option (List A) → E → Option (CustomFuelCosts → ℕ)
    → MeteredValue (List A) (Unit {0}) → Result (Unit {0}) E → MeteredValue (List A) (Unit {0}) → Type 0
WritesItems unpaid written outside price = Writes (items_write unpaid written outside price)

-- a bulk instruction writes so many bytes of a list, each of which is paid for
abbrev pub BulkWrites : Option (List ℕ) → ℕ → MeteredValue (List ℕ) (Unit {0}) → Result (Unit {0}) MemoryError
    → MeteredValue (List ℕ) (Unit {0}) → Type 0
BulkWrites written len = WritesItems OutOfFuel written OutOfBoundsAccess (Some (item_price 1 len))
