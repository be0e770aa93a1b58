-- What the calls on a memory or a table do to what lies with C, whichever of the two it is, and which limiters allow
-- the host's answers to one.
use Rattle.std.specs.Prelude.{◌≡◌, ◌<◌, ◌⊎◌, ℕ, Bool, true, false, List, take, MatchBool, OnErr, Some, Result, Ok, Err, nat_eq, if◌then◌else◌, Option}
use Rattle.wasmi_meter.specs.declared.{limiter.Kind.Kind, quota.Quota.Quota}
use Rattle.wasmi_meter.specs.Limiter.{optional_rules, Rules}
use Rattle.wasmi_meter.specs.Meter.{Meter}
use Rattle.wasmi_store.specs.Growth.{Growth, Grows, metered_value, Makes}
use Rattle.wasmi_c.specs.Host.{fresh, host_rules, is_about, plain_sizes, answer_of, notice_answer_of}
use Rattle.wasmi_c.specs.Numbers.{meter_of, KeepsMeter, Embedded, MeteredRegion, Placed, ReleasesIf, SameRest}
use Rattle.wasmi_c.specs.declared.status.TheConstants.{DONE, INVALID_STATE, ASKS, NOT_HELD, OTHER_SIZE}
use Rattle.wasmi_c.specs.declared.{host.HostAnswers.HostAnswers, host.Question.Question}
use Rattle.wasmi_meter.specs.Attempt.{Request}
use Rattle.wasmi_store.specs.Buffer.{Room}
use Rattle.wasmi_store.specs.Memory.{MemoryValue, creation_of, new_memory, MemoryTypeValue, memory_growth}
use Rattle.wasmi_store.specs.Table.{TableValue, new_table, TableTypeValue}
use Rattle.wasmi_region.specs.Table.{creation_in, region_growth}
use Rattle.wasmi_meter.specs.Limiter as limiter

-- how numbers stand for a value of a type at the front of a region, and what C reads of its errors
pub record Placement (H T V E : Type 0) : Type 1 where
  pub IsAt : H → List ℕ → T → Type 0
  -- the value of a type that has so many bytes or elements at the front of a region
  pub value : T → List ℕ → ℕ → V
  -- what a creation makes in a region, by the size that it returns
  pub made : T → List ℕ → Result ℕ E → Result V E
  pub size : H → ℕ
  pub resized : H → ℕ → H
  pub status : E → ℕ
  -- the fuel that is needed, after an error; else the number stays
  pub fuel_needed : E → ℕ → ℕ

-- what a growth by an amount asks: nothing where it is by 0, or where the type doesn't allow it, which has a status
abbrev pub AsksAs : ℕ → Bool → ℕ → limiter.Question → ℕ → Question → Question → Type 0
AsksAs amount allowed refusal asked status q q' =
    ((amount ≡ 0) × (status ≡ DONE) × (q' ≡ q))
    ⊎ ((0 < amount) × (allowed ≡ false) × (status ≡ refusal) × (q' ≡ q))
    ⊎ ((0 < amount) × (allowed ≡ true) × (status ≡ ASKS) × (q' ≡ plain_sizes asked.current asked.desired asked.maximum))

module _ {H T V E : Type 0} (p : Placement H T V E) where
  -- numbers stand for nothing on a region
  abbrev pub IsNone : H → List ℕ → Type 0
  IsNone h region = (ty : T) → p.IsAt h region ty → ⊥

  -- a call acts by the type of the numbers; where they stand for nothing, the status says so, and all is the same
  abbrev pub ByType : H → List ℕ → ℕ → Type 0 → (T → Type 0) → Type 0
  ByType h region status Same Acts =
      (IsNone h region × (status ≡ INVALID_STATE) × Same) ⊎ ((ty : T) × p.IsAt h region ty × Acts ty)

  -- a copy from other numbers acts by both types; where either stand for nothing, the status says so, and all stays
  abbrev pub ByTypes : Placed H → Placed H → ℕ → Type 0 → (T → T → Type 0) → Type 0
  ByTypes source a status Same Acts =
      ((IsNone a.numbers a.region ⊎ IsNone source.numbers source.region) × (status ≡ INVALID_STATE) × Same)
      ⊎ ((ty source_ty : T) × p.IsAt a.numbers a.region ty × p.IsAt source.numbers source.region source_ty
      × Acts ty source_ty)

  -- the status of a result
  abbrev pub status_of : {R : Type 0} → Result R E → ℕ
  status_of (Ok _) = DONE
  status_of (Err e) = p.status e

  -- the number after a growth: the old size, or the fuel that is needed; else it stays
  abbrev pub grown_number : Result ℕ E → ℕ → ℕ
  grown_number (Ok n) before = n
  grown_number (Err e) before = p.fuel_needed e before

  -- the number after a write: the fuel that is needed; else it stays
  abbrev pub written_number : Result (Unit {0}) E → ℕ → ℕ
  written_number (Ok _) before = before
  written_number (Err e) before = p.fuel_needed e before

  -- a value grows as one of the library on the region does, with its charge; its numbers stay except for the size, and
  -- stand for the value again; the meter's numbers stay except for what is left; the region past the value stays, or
  -- all of it after an error
  pub record GrowsAs {S : Type 0} (rules : Rules S) (growth : List ℕ → V → Growth V E) (ty : T) (s : Embedded H S)
      (status : ℕ) (s' : Embedded H S) : Type 0 where
    pub result : Result ℕ E
    pub grows : (charge : ℕ)
        × Grows (optional_rules rules) (growth s.region (p.value ty s.region (p.size s.numbers)))
        (metered_value (p.value ty s.region (p.size s.numbers)) (Some (meter_of s.meter)) s.limiter) result charge
        (metered_value (p.value ty s'.region (p.size s'.numbers)) (Some (meter_of s'.meter)) s'.limiter)
    pub state : p.IsAt s'.numbers s'.region ty
    pub numbers : s'.numbers ≡ p.resized s.numbers (p.size s'.numbers)
    pub meter : KeepsMeter s.meter s'.meter
    pub rest : SameRest (p.size s'.numbers) s.region s'.region
    pub refused : OnErr result (s'.region ≡ s.region)
    pub status_is : status ≡ status_of result
    pub number_is : s'.number ≡ grown_number result s.number

  -- a growth by a call
  abbrev pub GrowsBy : {S : Type 0} → Rules S → (List ℕ → V → Growth V E) → Embedded H S → ℕ → Embedded H S → Type 0
  GrowsBy rules growth s status s' =
      ByType s.numbers s.region status (s' ≡ s) (λ ty. GrowsAs rules growth ty s status s')

  -- a growth by the host's answers by a call, where they are to what it asks; else nothing is written
  abbrev pub SettlesBy : (List ℕ → V → Growth V E) → HostAnswers → Embedded H HostAnswers → ℕ
      → Embedded H HostAnswers → Type 0
  SettlesBy growth answers s status s' = ByType s.numbers s.region status (s' ≡ s) (λ ty.
      MatchBool (is_about answers (growth s.region (p.value ty s.region (p.size s.numbers))))
      (GrowsAs host_rules growth ty (record s { limiter = Some (fresh answers) }) status s')
      ((status ≡ OTHER_SIZE) × (s' ≡ s)))

  -- what numbers stand for ends by a call: a limiter gives up its size, and the numbers stand for nothing then; where
  -- less is held, or where they stand for nothing, nothing is written
  abbrev pub EndsBy : Kind → (H → H) → Placed H → Option Quota → ℕ → H → Option Quota → Type 0
  EndsBy kind ended a l status h' l' = ByType a.numbers a.region status ((h' ≡ a.numbers) × (l' ≡ l)) (λ ty.
      (ReleasesIf kind (p.size a.numbers) l true l' × (status ≡ DONE) × (h' ≡ ended a.numbers))
      ⊎ (ReleasesIf kind (p.size a.numbers) l false l' × (status ≡ NOT_HELD) × (h' ≡ a.numbers) × (l' ≡ l)))

  -- what a creation leaves: numbers that stand for the new value, and the region past it; or all as it was
  abbrev pub LeavesAs : T → Placed H → Result ℕ E → Placed H → Type 0
  LeavesAs ty a (Ok size) a' =
      (a'.numbers ≡ p.resized a.numbers size) × p.IsAt a'.numbers a'.region ty × SameRest size a.region a'.region
  LeavesAs ty a (Err e) a' = a' ≡ a

  -- a value of a type is made at the front of a region, as one of the library is
  pub record MakesAs (Makes : Result V E → Type 0) (ty : T) (a : Placed H) (status : ℕ) (a' : Placed H) : Type 0 where
    pub result : Result ℕ E
    pub makes : Makes (p.made ty a'.region result)
    pub status_is : status ≡ status_of result
    pub left : LeavesAs ty a result a'

  -- a part of a value is written over, as of one of the library; the rest of the region stays, and the meter's numbers
  -- except for what is left
  pub record WritesAs (Writes : List ℕ → Meter → Result (Unit {0}) E → List ℕ → Meter → Type 0) (size : ℕ)
      (s : MeteredRegion) (status : ℕ) (s' : MeteredRegion) : Type 0 where
    pub result : Result (Unit {0}) E
    pub writes : Writes (take size s.region) (meter_of s.meter) result (take size s'.region) (meter_of s'.meter)
    pub rest : SameRest size s.region s'.region
    pub kept : KeepsMeter s.meter s'.meter
    pub status_is : status ≡ status_of result
    pub number_is : s'.number ≡ written_number result s.number

-- the three states of a limiter that allows the host's answers: before the question, after it, and after a notice
pub record Limited (S : Type 0) : Type 0 where
  pub before : S
  pub asked : S
  pub told : S

-- what a limiter that allows the host's answers is after an attempt that asked and told it as the answers say
abbrev pub limiter_after : {S : Type 0} → HostAnswers → Limited S → S
limiter_after a l = if nat_eq a.told 1 then l.told else (if nat_eq a.asked 1 then l.asked else l.before)

-- rules allow the host's answers to a request: to its question, if asked, and to a notice of any cause, if told
pub record Allows {V E S : Type 0} (rules : Rules S) (e : Request V E) (a : HostAnswers) (l : Limited S) : Type 0 where
  pub asks : a.asked ≡ 1 → rules.asked l.before e.question (answer_of a.answer) l.asked
  pub tells : a.told ≡ 1
      → (cause : E) → rules.noticed l.asked (e.notice cause) (notice_answer_of a.notice_answer) l.told

-- a growth of a value by the host's answers is one by rules that allow these answers
abbrev pub SettlesGrowth : {V E S : Type 0} → Rules S → Growth V E → V → Type 0
SettlesGrowth {V = V} {E = E} {S = S} rules g x =
    (x' : V) (m m' : Option Meter) (a a' : HostAnswers) (l : Limited S) (result : Result ℕ E) (charge : ℕ)
    → Grows (optional_rules host_rules) g (metered_value x m (Some (fresh a))) result charge
    (metered_value x' m' (Some a'))
    → Allows rules g.request a' l
    → Grows rules g (metered_value x m l.before) result charge (metered_value x' m' (limiter_after a' l))

-- a creation by the host's answers is one by rules that allow these answers
abbrev pub SettlesCreation : {T E S : Type 0} → Rules S → Request (Unit {0}) E → T → Type 0
SettlesCreation {T = T} {E = E} {S = S} rules e made = (a a' : HostAnswers) (l : Limited S) (result : Result T E)
    → Makes (optional_rules host_rules) e made (Some (fresh a)) result (Some a') → Allows rules e a' l
    → Makes rules e made l.before result (limiter_after a' l)

module _ {S : Type 0} (rules : Rules S) where
  -- every growth of a memory by the host's answers is one by rules that allow these answers
  abbrev pub SettlementsAreGrowths : Type 0
  SettlementsAreGrowths = (pages : ℕ) (x : MemoryValue) → SettlesGrowth rules (memory_growth pages x) x

  -- every growth of a table on a region by the host's answers is one by rules that allow these answers
  abbrev pub TableSettlementsAreGrowths : Type 0
  TableSettlementsAreGrowths =
      (room n reference : ℕ) (x : TableValue) → SettlesGrowth rules (region_growth room n reference x) x

  -- every creation of a memory by the host's answers is one by rules that allow these answers
  abbrev pub SettlementsAreCreations : Type 0
  SettlementsAreCreations =
      (room : Room) (ty : MemoryTypeValue) → SettlesCreation rules (creation_of room ty) (new_memory room ty)

  -- every creation of a table on a region by the host's answers is one by rules that allow these answers
  abbrev pub TableSettlementsAreCreations : Type 0
  TableSettlementsAreCreations =
      (room reference : ℕ) (ty : TableTypeValue)
      → SettlesCreation rules (creation_in ty room) (new_table ty reference)
