-- The calls on element segments, data segments, globals and the meter: their replies, and what each does.
use Rattle.std.specs.Prelude.{◌≡◌, ◌⊎◌, ◌≤◌, ◌<◌, ℕ, Option, Result, Ok, Err, List, [], length, if◌then◌else◌, is_some}
use Rattle.std.specs.Option.{option_map_or}
use Rattle.wasmi_types.specs.declared.value.RefType.{RefType}
use Rattle.wasmi_typed.specs.declared.{typed.TypedRawVal.TypedRawVal, global.GlobalError.GlobalError}
use Rattle.wasmi_typed.specs.Global.{GlobalInstance, SetsGlobal}
use Rattle.wasmi_store.specs.declared.table.element.SegmentError.{SegmentError}
use Rattle.wasmi_store.specs.declared.table.element.SegmentError.TheVariants.{TooManyItems, OutOfSystemMemory}
use Rattle.wasmi_store.specs.Segment.{SegmentValue, most_items, dropped}
use Rattle.wasmi_machine.specs.declared.calls.Reply.{Reply}
use Rattle.wasmi_machine.specs.declared.calls.Reply.TheVariants.{Done, Value, Global, Segment, NoSuch, NoRoom, Number, Fuel}
use Rattle.wasmi_machine.specs.Effects.{reply_of, ChangesItem, DropsContents, AddsEntry}
use Rattle.wasmi_meter.specs.declared.fuel.FuelError.TheVariants.{FuelMeteringDisabled}
use Rattle.wasmi_meter.specs.Meter.{Meter, meter_set}
use Rattle.wasmi_machine.specs.State.{State}

-- a call makes the segment of these items, unless there are too many, or memory is refused for some
abbrev pub IsSegmentOf : RefType → List ℕ → Result SegmentValue SegmentError → Type 0
IsSegmentOf ty items (Ok segment) = (length items ≤ most_items) × (segment ≡ record { ty = ty; items = items })
IsSegmentOf ty items (Err TooManyItems) = most_items < length items
IsSegmentOf ty items (Err OutOfSystemMemory) = 0 < length items

-- an element segment is made, unless there is no memory for its slot, which a fact allows
abbrev pub CreatesSegment : Type 0 → RefType → List ℕ → List SegmentValue → Reply → List SegmentValue → Type 0
CreatesSegment Lacks ty items segments reply segments' = ((reply ≡ NoRoom) × (segments' ≡ segments) × Lacks)
    ⊎ ((result : Result SegmentValue SegmentError) × IsSegmentOf ty items result
    × AddsEntry (λ x. x) Segment result segments reply segments')

-- the items of the element segment of an index are dropped
abbrev pub DropsItemsAt : ℕ → List SegmentValue → Reply → List SegmentValue → Type 0
DropsItemsAt = DropsContents dropped

-- the bytes of the data segment of an index are dropped
abbrev pub DropsDataAt : ℕ → List (List ℕ) → Reply → List (List ℕ) → Type 0
DropsDataAt = DropsContents (λ bytes. [])

-- the global of an index is set, or the call is refused
abbrev pub SetsGlobalAt : ℕ → TypedRawVal → List GlobalInstance → Reply → List GlobalInstance → Type 0
SetsGlobalAt k value globals reply globals' = ChangesItem k globals reply globals'
    (λ x x'. (result : Result (Unit {0}) GlobalError) × SetsGlobal x value result x'
    × (reply ≡ reply_of (λ _. Done) Global result))

-- the value that is asked of a global, if it is there
abbrev pub global_reply : Option GlobalInstance → Reply
global_reply global = option_map_or (λ x. Value x.value) global NoSuch

-- the fuel that is left is set, where the meter is on
abbrev pub SetsFuel : ℕ → State → Reply → State → Type 0
SetsFuel fuel s reply s' = (reply ≡ (if is_some s.meter.left then Done else Fuel FuelMeteringDisabled))
    × (s' ≡ record s { meter = meter_set s.meter fuel })

-- the fuel that is left is asked for
abbrev pub get_fuel_reply : Meter → Reply
get_fuel_reply m = option_map_or (λ left. Number left) m.left (Fuel FuelMeteringDisabled)
