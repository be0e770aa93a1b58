-- The numbers that lie with C, as the memories, tables, meters and quotas that they stand for, what a call keeps of
-- them and of their region, and what a growth or a write takes besides: a region, a meter and a limiter.
use Rattle.std.specs.Prelude.{◌≡◌, ◌≤◌, ◌⊎◌, ℕ, List, length, drop, Option, Some, None, Bool, true, nat_eq, if◌then◌else◌, unwrap_or}
use Rattle.wasmi_meter.specs.declared.{limiter.Kind.Kind, quota.Quota.Quota}
use Rattle.wasmi_meter.specs.declared.limiter.Kind.TheVariants.{Bytes, Elements}
use Rattle.wasmi_meter.specs.Limiter.{Rules, optional_rules}
use Rattle.wasmi_meter.specs.Meter.{Meter}
use Rattle.wasmi_meter.specs.Capped.{holdings, quota_rules, Releases}
use Rattle.wasmi_store.specs.Memory.{MemoryTypeValue, Settings, IsValid, named_type}
use Rattle.wasmi_store.specs.Memory as memory
use Rattle.wasmi_store.specs.Table as table
use Rattle.wasmi_store.specs.Table.{TableTypeValue}
use Rattle.wasmi_c.specs.Types as types
use Rattle.wasmi_c.specs.Types.{if_flag}
use Rattle.wasmi_c.specs.declared.{numbers.MemoryNumbers.MemoryNumbers, numbers.TableNumbers.TableNumbers, numbers.MeterNumbers.MeterNumbers, numbers.QuotaNumbers.QuotaNumbers}

-- ---- memories and tables

-- what numbers say of their memory's type
abbrev pub settings_of : MemoryNumbers → Settings
settings_of h = types.settings_of h.minimum (if_flag h.has_maximum h.maximum) h.is_64 h.page_size_log2

-- numbers stand for a memory of this type at the front of a region
pub record IsState (h : MemoryNumbers) (region : List ℕ) (ty : MemoryTypeValue) : Type 0 where
  pub type : named_type (settings_of h) ≡ Some ty
  pub valid : IsValid ty
  pub sized : memory.IsSized ty h.size
  pub within : h.size ≤ length region

-- what numbers say of their table's type, if there is such a type
abbrev pub table_type_of : TableNumbers → Option TableTypeValue
table_type_of h = types.table_type_of h.ty h.minimum (if_flag h.has_maximum h.maximum) h.is_64

-- numbers stand for a table of this type at the front of a region
pub record IsTable (h : TableNumbers) (region : List ℕ) (ty : TableTypeValue) : Type 0 where
  pub type : table_type_of h ≡ Some ty
  pub sized : table.IsSized ty h.size
  pub within : h.size ≤ length region

-- the numbers of a memory or a table, and its region
pub record Placed (H : Type 0) : Type 0 where
  pub numbers : H
  pub region : List ℕ

-- numbers with their region
abbrev pub placed : {H : Type 0} → H → List ℕ → Placed H
placed numbers region = record { numbers = numbers; region = region }

-- ---- meters

-- the meter of numbers
abbrev pub meter_of : MeterNumbers → Meter
meter_of h = types.meter_of (if_flag h.is_on h.left) (record {
  bytes_copied_per_fuel = h.bytes_copied_per_fuel;
  fuel_per_bytes_translated = h.fuel_per_bytes_translated;
  fuel_per_bytes_validated = h.fuel_per_bytes_validated;
})

-- the numbers of a meter with so much left, if it is on
abbrev pub with_left : MeterNumbers → Option ℕ → MeterNumbers
with_left h left = record h { left = unwrap_or left h.left }

-- what a call keeps of a meter: all but what is left, and that too if the meter is off
pub record KeepsMeter (h h' : MeterNumbers) : Type 0 where
  pub others : h' ≡ record h { left = h'.left }
  pub off : h.is_on ≡ 0 → h' ≡ h

-- ---- quotas

-- the last difference that was permitted, by the number of its kind
abbrev pub last_of : ℕ → ℕ → Option (Kind × ℕ)
last_of kind n = if nat_eq kind 1 then Some (Bytes, n) else (if nat_eq kind 2 then Some (Elements, n) else None)

-- the quota of numbers
abbrev pub quota_of : QuotaNumbers → Quota
quota_of h = record {
  caps = record { bytes = h.cap_bytes; elements = h.cap_elements };
  holdings = record {
    held = record { bytes = h.held_bytes; elements = h.held_elements };
    last = last_of h.last_kind h.last;
  };
}

-- the limiter of numbers, which may be absent
abbrev pub limiter_of : QuotaNumbers → Option Quota
limiter_of h = if_flag h.is_on (quota_of h)

-- what a call keeps of a quota: its flag, and all of it if the quota is off; a quota that isn't the same and has no last
-- difference has zeros for it
pub record KeepsQuota (h h' : QuotaNumbers) : Type 0 where
  pub flag : h'.is_on ≡ h.is_on
  pub off : h.is_on ≡ 0 → h' ≡ h
  pub last : (h' ≡ h) ⊎ (last_of h'.last_kind h'.last ≡ None → (h'.last_kind ≡ 0) × (h'.last ≡ 0))

-- the limiter that a quota's numbers stand for, which may be absent, gives up so many of a kind, or not, and has the
-- same caps; an absent one holds nothing
abbrev pub ReleasesIf : Kind → ℕ → Option Quota → Bool → Option Quota → Type 0
ReleasesIf kind n (Some l) released (Some l') = Releases (holdings l) kind n released (holdings l') × (l'.caps ≡ l.caps)
ReleasesIf kind n None released None = released ≡ true
ReleasesIf kind n l released l' = ⊥

-- the numbers of a quota become others by a call, by what becomes of the limiter that they stand for, which may be
-- absent; a call keeps the rest of them
abbrev pub Becomes : (Option Quota → Option Quota → Type 0) → QuotaNumbers → QuotaNumbers → Type 0
Becomes Limits h h' = Limits (limiter_of h) (limiter_of h') × KeepsQuota h h'

-- numbers answer as the quota that they stand for
abbrev pub quota_numbers_rules : Rules QuotaNumbers
quota_numbers_rules = record {
  asked = λ h question answer h'. Becomes (λ l l'. (optional_rules quota_rules).asked l question answer l') h h';
  noticed = λ h failure notice_answer h'.
      Becomes (λ l l'. (optional_rules quota_rules).noticed l failure notice_answer l') h h';
}

-- ---- all that lies with C for a call

-- what a growth takes: numbers that lie with C, their region, a meter, the limiter that it asks, if any, and a number
pub record Embedded (H S : Type 0) : Type 0 where
  pub numbers : H
  pub region : List ℕ
  pub meter : MeterNumbers
  pub limiter : Option S
  pub number : ℕ

-- numbers that lie with C, their region, a meter, a limiter and a number, as what a growth takes
abbrev pub embedded : {H S : Type 0} → H → List ℕ → MeterNumbers → Option S → ℕ → Embedded H S
embedded numbers region meter limiter number =
    record { numbers = numbers; region = region; meter = meter; limiter = limiter; number = number }

-- what a write over a range takes besides a memory's or a table's numbers: their region, a meter, and a number
pub record MeteredRegion : Type 0 where
  pub region : List ℕ
  pub meter : MeterNumbers
  pub number : ℕ

-- a region, the numbers of a meter and a number, as what a write takes
abbrev pub metered_region : List ℕ → MeterNumbers → ℕ → MeteredRegion
metered_region region meter number = record { region = region; meter = meter; number = number }

-- what a call keeps of a region: all but its first bytes or elements
abbrev pub SameRest : ℕ → List ℕ → List ℕ → Type 0
SameRest size region region' = drop size region' ≡ drop size region
