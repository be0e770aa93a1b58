-- What the words of a header line or an `as` line mean, and what the header lines ask for: a meter, tenants, a region,
-- slots, and the machine that a script starts with.
use Rattle.std.specs.Prelude.{◌≡◌, ◌≤◌, ℕ, Option, List, Some, None, length, codes, replicate, unwrap_or}
use Rattle.std.specs.Option.{option_map, option_map_or}
use Rattle.wasmi_meter.specs.Meter.{default_costs, Meter}
use Rattle.wasmi_machine.specs.State.{State, new_state, no_slots}
use Rattle.wasmi_machine.specs.declared.slots.SlotCounts.{SlotCounts}
use Rattle.wasmi_grammar.specs.declared.{header.Header.Header, header.MeterLine.MeterLine, header.LimiterLine.LimiterLine, header.RegionLine.RegionLine}
use Rattle.wasmi_grammar.specs.declared.header.MeterLine.TheVariants.{Off, On}
use Rattle.wasmi_grammar.specs.declared.header.LimiterLine.TheVariants.{Quota, Answers, Tenants}
use Rattle.wasmi_operands.specs.LineWords.{LineWords, WritesEach, word_at, WritesNumber}
use Rattle.wasmi_operands.specs.Names.{WritesAnswer}

-- the words after the first write what the meter line says
abbrev pub WritesMeter : LineWords → MeterLine → Type 0
WritesMeter words Off = (length words ≡ 1) × (word_at words 0 ≡ codes "off")
WritesMeter words (On bytes_per_fuel) =
    (length words ≡ 2) × (word_at words 0 ≡ codes "on") × WritesNumber 32 (word_at words 1) bytes_per_fuel

-- the word that a limiter line begins with, and the words after it, name this line
abbrev pub NamesLimiterAfter : List ℕ → LineWords → LimiterLine → Type 0
NamesLimiterAfter name words (Quota caps) = (codes "quota" ≡ name) × ((length words ≡ 2)
    × WritesNumber 64 (word_at words 0) caps.bytes × WritesNumber 64 (word_at words 1) caps.elements)
NamesLimiterAfter name words (Answers answers) = (codes "answers" ≡ name) × WritesEach WritesAnswer words answers.items
NamesLimiterAfter name words (Tenants line) = (codes "tenants" ≡ name) × ((length words ≡ 3)
    × WritesNumber 64 (word_at words 0) line.count × (1 ≤ line.count) × (line.count ≤ 1024)
    × WritesNumber 64 (word_at words 1) line.caps.bytes × WritesNumber 64 (word_at words 2) line.caps.elements)

-- the words after the first write what the region line says
abbrev pub WritesRegion : LineWords → RegionLine → Type 0
WritesRegion words line =
    (length words ≡ 2) × WritesNumber 64 (word_at words 0) line.len × WritesNumber 8 (word_at words 1) line.byte

-- the words after the first write how many slots of each kind the line reserves
abbrev pub WritesReserve : LineWords → SlotCounts → Type 0
WritesReserve words slots =
    (length words ≡ 5) × WritesNumber 64 (word_at words 0) slots.memories
    × WritesNumber 64 (word_at words 1) slots.tables × WritesNumber 64 (word_at words 2) slots.segments
    × WritesNumber 64 (word_at words 3) slots.data_segments × WritesNumber 64 (word_at words 4) slots.globals

-- the words after the first write which tenant the `as` line means
abbrev pub WritesTenant : LineWords → ℕ → Type 0
WritesTenant words tenant = (length words ≡ 1) × WritesNumber 64 (word_at words 0) tenant

-- how many tenants a limiter line asks for
abbrev pub tenants_of : Option LimiterLine → ℕ
tenants_of (Some (Tenants line)) = line.count
tenants_of limiter = 0

-- the header lines ask for what goes together: a script with tenants has no region
abbrev pub AreApart : Option LimiterLine → Option RegionLine → Type 0
AreApart (Some (Tenants line)) (Some region) = ⊥
AreApart limiter region = Unit {0}

-- a meter that is off
abbrev pub meter_off : Meter
meter_off = record { left = None; costs = default_costs }

-- the meter that a line asks for, with no fuel left yet
abbrev pub meter_meaning : MeterLine → Meter
meter_meaning Off = meter_off
meter_meaning (On bytes_per_fuel) =
    record { left = Some 0; costs = record default_costs { bytes_copied_per_fuel = bytes_per_fuel } }

-- the meter that a script starts with: off without a line that says more
abbrev pub meter_of : Header → Meter
meter_of header = option_map_or meter_meaning header.meter meter_off

-- the bytes of a region that a line asks for
abbrev pub region_bytes : RegionLine → List ℕ
region_bytes line = replicate line.len line.byte

-- how many slots of each kind the header lines reserve: none without a line that says more
abbrev pub slots_of : Header → SlotCounts
slots_of header = unwrap_or header.reserve no_slots

-- the machine that each tenant of a script starts with: new, with the script's meter and with its slots reserved
abbrev pub tenant_start : Header → State
tenant_start header = record (new_state (meter_of header)) { reserved = slots_of header }

-- the machine that a script without tenants starts with: such a machine, with its region
abbrev pub start_of : Header → State
start_of header = record (tenant_start header) { spare = option_map region_bytes header.region }
