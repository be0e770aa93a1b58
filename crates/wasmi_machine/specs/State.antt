-- The state of a machine, its slots and how many are reserved (core specification, the store), a new state, a world of
-- it with a limiter, a turn with its outcome, refusals, the sizes and totals of a state, and when states and calls are
-- valid.
use Rattle.std.specs.Prelude.{ℕ, ◌+◌, List, [], Option, Some, None, slice_get, replicate, ◌≡◌, length, map, max, sum, ◌≤◌, All, option_and_then}
use Rattle.wasmi_raw.specs.declared.raw.RawVal.{RawVal}
use Rattle.wasmi_raw.specs.RawVal.{raw_of}
use Rattle.wasmi_meter.specs.Meter.{Meter}
use Rattle.wasmi_typed.specs.Global.{GlobalInstance}
use Rattle.wasmi_store.specs.Memory.{MemoryValue, IsValidMemory}
use Rattle.wasmi_store.specs.Segment.{SegmentValue, most_items}
use Rattle.wasmi_store.specs.Table.{TableValue, size_of, IsValidTable}
use Rattle.wasmi_machine.specs.ReservedList.{with_item}
use Rattle.wasmi_machine.specs.declared.{slots.Slot.Slot, slots.Slots.Slots, slots.SlotCounts.SlotCounts, calls.Call.Call, calls.Reply.Reply}
use Rattle.wasmi_machine.specs.declared.slots.Slot.TheVariants.{Live, Gone}
use Rattle.wasmi_meter.specs.declared.{limiter.Kind.Kind, quota.Holdings.Holdings}
use Rattle.wasmi_meter.specs.declared.limiter.Kind.TheVariants.{Bytes, Elements}
use Rattle.wasmi_machine.specs.declared.calls.Call.TheVariants.{NewMemory, NewLentMemory, NewTable}
use Rattle.wasmi_machine.specs.declared.calls.Reply.TheVariants as reply
use Rattle.wasmi_store.specs.Memory as memory
use Rattle.wasmi_store.specs.Table as table

module _ {X : Type 0} where
  -- the value in a slot, if it wasn't dropped
  abbrev pub live_value : Slot X → Option X
  live_value (Live x) = Some x
  live_value (Gone size) = None

  -- the live value of an index, if there is one
  abbrev pub live_at : List (Slot X) → ℕ → Option X
  live_at slots k = option_and_then live_value (slice_get slots k)

  -- the slots with this live value at an index
  abbrev pub with_live : Slots X → ℕ → X → Slots X
  with_live s k x = record { slots = with_item s.slots k (Live x) }

-- the memories, tables, element segments, data segments and globals that were made, each kind in its order, the
-- registers, the meter, the bytes of the spare region, if there is one, and up to how many slots of each kind are
-- reserved, those of what was made included
pub record State : Type 0 where
  pub memories : List (Slot MemoryValue)
  pub tables : List (Slot TableValue)
  pub segments : List SegmentValue
  pub data_segments : List (List ℕ)
  pub globals : List GlobalInstance
  pub registers : List RawVal
  pub meter : Meter
  pub spare : Option (List ℕ)
  pub reserved : SlotCounts

-- what a new state has reserved: no slot of any kind
abbrev pub no_slots : SlotCounts
no_slots = record { memories = 0; tables = 0; segments = 0; data_segments = 0; globals = 0 }

-- a machine on which nothing was made or reserved yet, with 16 registers of zeros
abbrev pub new_state : Meter → State
new_state meter = record {
  memories = [];
  tables = [];
  segments = [];
  data_segments = [];
  globals = [];
  registers = replicate 16 (raw_of 0);
  meter = meter;
  spare = None;
  reserved = no_slots;
}

-- the state with this spare region
abbrev pub with_spare : State → List ℕ → State
with_spare s region = record s { spare = Some region }

-- up to how many slots of a kind a state has reserved, once so many more than are in its list are
abbrev pub reserved_for : {A : Type 0} → ℕ → List A → ℕ → ℕ
reserved_for reserved list additional = max reserved (length list + additional)

-- the state with so many more slots of each kind reserved
abbrev pub with_reserved : State → SlotCounts → State
with_reserved s more = record s {
  reserved = record {
    memories = reserved_for s.reserved.memories s.memories more.memories;
    tables = reserved_for s.reserved.tables s.tables more.tables;
    segments = reserved_for s.reserved.segments s.segments more.segments;
    data_segments = reserved_for s.reserved.data_segments s.data_segments more.data_segments;
    globals = reserved_for s.reserved.globals s.globals more.globals;
  };
}

-- the state with other memories
abbrev pub with_memories : State → List (Slot MemoryValue) → State
with_memories s memories = record s { memories = memories }

-- the part of the state of a machine that has its memories and its spare region, as a creation in it changes both
pub record MemoryPart : Type 0 where
  pub slots : List (Slot MemoryValue)
  pub spare : Option (List ℕ)

-- the memories of a state, and its spare region
abbrev pub memory_part : State → MemoryPart
memory_part s = record { slots = s.memories; spare = s.spare }

-- the state with other tables
abbrev pub with_tables : State → List (Slot TableValue) → State
with_tables s tables = record s { tables = tables }

-- the state with other element segments
abbrev pub with_segments : State → List SegmentValue → State
with_segments s segments = record s { segments = segments }

-- the state with other data segments
abbrev pub with_data_segments : State → List (List ℕ) → State
with_data_segments s segments = record s { data_segments = segments }

-- the state with other globals
abbrev pub with_globals : State → List GlobalInstance → State
with_globals s globals = record s { globals = globals }

-- the state with other registers
abbrev pub with_registers : State → List RawVal → State
with_registers s registers = record s { registers = registers }

-- what a call can reach: the machine's state and the limiter
pub record World (S : Type 0) : Type 0 where
  pub state : State
  pub limiter : S

-- a machine in this state with this limiter
abbrev pub world : {S : Type 0} → State → S → World S
world machine limiter = record { state = machine; limiter = limiter }

-- one call with its reply, the fuel that it was charged, and the bytes that it has written by a growth or over a range
pub record Turn : Type 0 where
  pub call : Call
  pub reply : Reply
  pub charge : ℕ
  pub written : ℕ

-- what a turn has besides its call
pub record TurnOutcome : Type 0 where
  pub reply : Reply
  pub charge : ℕ
  pub written : ℕ

-- the outcome of a turn
abbrev pub outcome_of : Turn → TurnOutcome
outcome_of turn = record { reply = turn.reply; charge = turn.charge; written = turn.written }

-- the outcome of a turn that is charged nothing, and has written nothing by a growth or over a range
abbrev pub IsFree : TurnOutcome → Type 0
IsFree outcome = (outcome.charge ≡ 0) × (outcome.written ≡ 0)

-- a reply that tells why nothing was done
abbrev pub IsRefusal : Reply → Type 0
IsRefusal reply.Done = ⊥
IsRefusal (reply.Made index) = ⊥
IsRefusal (reply.Value value) = ⊥
IsRefusal (reply.Number number) = ⊥
IsRefusal (reply.Bytes bytes) = ⊥
IsRefusal (reply.Reference element) = ⊥
IsRefusal refusal = Unit {0}

-- how many a slot's value has, or had when it was dropped
abbrev pub slot_count : {X : Type 0} → (X → ℕ) → Slot X → ℕ
slot_count count (Live x) = count x
slot_count count (Gone last) = last

-- the bytes of a memory
abbrev pub byte_count : MemoryValue → ℕ
byte_count x = length x.bytes

-- the sizes of one kind: of the memories in bytes, or of the tables in elements, dropped ones at their last
abbrev pub sizes : State → Kind → List ℕ
sizes s Bytes = map (slot_count byte_count) s.memories
sizes s Elements = map (slot_count size_of) s.tables

-- their sum
abbrev pub total : State → Kind → ℕ
total s kind = sum (sizes s kind)

-- exactly the totals of the state are held
pub record HoldsTotals (h : Holdings) (s : State) : Type 0 where
  pub bytes : h.held.bytes ≡ total s Bytes
  pub elements : h.held.elements ≡ total s Elements

-- what is in a slot is valid, if it wasn't dropped
abbrev pub IsValidSlot : {X : Type 0} → (X → Type 0) → Slot X → Type 0
IsValidSlot Valid (Live x) = Valid x
IsValidSlot Valid (Gone size) = Unit {0}

-- a segment has at most the greatest number of items
abbrev pub IsValidSegment : SegmentValue → Type 0
IsValidSegment segment = length segment.items ≤ most_items

-- memories and tables have valid types and as many whole pages and elements as these allow, segments aren't too long,
-- and there are 16 registers
pub record IsValid (s : State) : Type 0 where
  pub memories : All (IsValidSlot IsValidMemory) s.memories
  pub tables : All (IsValidSlot IsValidTable) s.tables
  pub segments : All IsValidSegment s.segments
  pub registers : length s.registers ≡ 16

-- a type that a call names is valid
abbrev pub IsValidCall : Call → Type 0
IsValidCall (NewMemory ty) = memory.IsValid ty
IsValidCall (NewLentMemory ty) = memory.IsValid ty
IsValidCall (NewTable ty init) = table.IsValid ty
IsValidCall call = Unit {0}
