-- What is reserved on a machine: lent regions of memories, elements of tables, and free slots of each kind. Calls and
-- runs that need no other memory: none of their replies says out of memory.
use Rattle.std.specs.Prelude.{◌≡◌, ◌<◌, ◌≤◌, ◌+◌, ◌⊎◌, ℕ, Bool, true, false, List, [], length, All, MatchOption, count_by}
use Rattle.wasmi_store.specs.Buffer.{Room, Owned, Lent}
use Rattle.wasmi_store.specs.Memory.{MemoryValue}
use Rattle.wasmi_store.specs.Table.{TableValue, size_of}
use Rattle.wasmi_meter.specs.Limiter.{Rules}
use Rattle.wasmi_machine.specs.declared.{calls.Call.Call, calls.Reply.Reply, slots.Slot.Slot, slots.SlotCounts.SlotCounts}
use Rattle.wasmi_machine.specs.declared.calls.Call.TheVariants.{NewMemory, NewLentMemory, GrowMemory, Read, NewTable, GrowTable, NewSegment, NewData, NewGlobal}
use Rattle.wasmi_machine.specs.State.{State, live_at, with_reserved, World, Turn}
use Rattle.wasmi_machine.specs.Determinism.{IsNotOutOfMemory}
use Rattle.wasmi_machine.specs.Steps.{Step, IsRunOf}

-- room is reserved: bytes grow in what is left of a lent region
abbrev pub IsLentRoom : Room → Type 0
IsLentRoom Owned = ⊥
IsLentRoom (Lent rest) = Unit {0}

-- a memory lies in a lent region, which is reserved for it
abbrev pub IsLent : MemoryValue → Type 0
IsLent x = IsLentRoom x.room

-- an index names a memory in a lent region, if it names a live one
abbrev pub IsInRegion : List (Slot MemoryValue) → ℕ → Type 0
IsInRegion slots k = MatchOption (live_at slots k) (Unit {0}) IsLent

-- memory is reserved for all elements of a table up to its maximum
abbrev pub IsReservedToMaximum : TableValue → Type 0
IsReservedToMaximum x = MatchOption x.ty.maximum ⊥ (λ maximum. maximum ≤ x.reserved)

-- an index names a table that is reserved up to its maximum, if it names a live one
abbrev pub IsReservedTable : List (Slot TableValue) → ℕ → Type 0
IsReservedTable slots k = MatchOption (live_at slots k) (Unit {0}) IsReservedToMaximum

-- memory is reserved for n more elements of a table, or for all up to its maximum
abbrev pub HasElements : ℕ → TableValue → Type 0
HasElements n x = (size_of x + n ≤ x.reserved) ⊎ IsReservedToMaximum x

-- a table of an index, if it is there, has memory for n more elements
abbrev pub HasElementsAt : List (Slot TableValue) → ℕ → ℕ → Type 0
HasElementsAt slots k n = MatchOption (live_at slots k) (Unit {0}) (HasElements n)

-- a kind of what is made in a slot that can be reserved for it, without memory of its own
pub data SlotKind : Type 0 where
  Memories Segments DataSegments Globals : SlotKind

-- how many of a kind were made on a machine, each in a slot
abbrev pub made_of : State → SlotKind → ℕ
made_of s Memories = length s.memories
made_of s Segments = length s.segments
made_of s DataSegments = length s.data_segments
made_of s Globals = length s.globals

-- how many slots are reserved for a kind, of the numbers for each
abbrev pub slots_for : SlotCounts → SlotKind → ℕ
slots_for counts Memories = counts.memories
slots_for counts Segments = counts.segments
slots_for counts DataSegments = counts.data_segments
slots_for counts Globals = counts.globals

-- memory for the slot of one more of a kind is there, since one that is reserved is free
abbrev pub HasSlot : State → SlotKind → Type 0
HasSlot s kind = made_of s kind < slots_for s.reserved kind

-- a call on a machine in this state needs no memory: what it makes has a slot that is reserved, and nothing else that
-- isn't in a lent region; the memory that it grows lies in one; the table that it grows has the memory reserved; no byte
-- is read; and no table is made
abbrev pub NeedsNoMemory : State → Call → Type 0
NeedsNoMemory s (NewMemory ty) = ⊥
NeedsNoMemory s (NewLentMemory ty) = HasSlot s Memories
NeedsNoMemory s (GrowMemory k pages) = IsInRegion s.memories k
NeedsNoMemory s (Read k offset len) = len ≡ 0
NeedsNoMemory s (NewTable ty init) = ⊥
NeedsNoMemory s (GrowTable k n init) = (n ≡ 0) ⊎ HasElementsAt s.tables k n
NeedsNoMemory s (NewSegment ty items) = (items.items ≡ []) × HasSlot s Segments
NeedsNoMemory s (NewData bytes) = (bytes.items ≡ []) × HasSlot s DataSegments
NeedsNoMemory s (NewGlobal value ty) = HasSlot s Globals
NeedsNoMemory s call = Unit {0}

-- a call needs no memory but for the slot of what it makes, where a memory that it grows and that was there in this
-- state still lies in its region, and a table that it grows is still reserved up to its maximum
abbrev pub NeedsOnlySlot : State → Call → Type 0
NeedsOnlySlot s (NewMemory ty) = ⊥
NeedsOnlySlot s (GrowMemory k pages) = IsInRegion s.memories k
NeedsOnlySlot s (Read k offset len) = len ≡ 0
NeedsOnlySlot s (NewTable ty init) = ⊥
NeedsOnlySlot s (GrowTable k n init) = (n ≡ 0) ⊎ IsReservedTable s.tables k
NeedsOnlySlot s (NewSegment ty items) = items.items ≡ []
NeedsOnlySlot s (NewData bytes) = bytes.items ≡ []
NeedsOnlySlot s call = Unit {0}

-- whether a call takes a slot of a kind: it makes a memory in the spare region, a segment of either kind or a global
abbrev pub takes_slot : SlotKind → Call → Bool
takes_slot Memories (NewLentMemory ty) = true
takes_slot Segments (NewSegment ty items) = true
takes_slot DataSegments (NewData bytes) = true
takes_slot Globals (NewGlobal value ty) = true
takes_slot kind call = false

-- as many slots of a kind as these calls take are reserved and free
abbrev pub HasSlots : State → List Call → SlotKind → Type 0
HasSlots s calls kind = made_of s kind + count_by (takes_slot kind) calls ≤ slots_for s.reserved kind

-- a machine has reserved what these calls need: each needs only a slot, and of each kind as many as they take are free
pub record IsReservedFor (s : State) (calls : List Call) : Type 0 where
  pub needs : All (NeedsOnlySlot s) calls
  pub enough : (kind : SlotKind) → HasSlots s calls kind

-- these numbers of slots are enough for what these calls make, and each of them needs only a slot
pub record FitsSlots (s : State) (more : SlotCounts) (calls : List Call) : Type 0 where
  pub needs : All (NeedsOnlySlot s) calls
  pub enough : (kind : SlotKind) → count_by (takes_slot kind) calls ≤ slots_for more kind

-- with so many more slots a machine has reserved what such calls need
abbrev pub SlotsSuffice : Type 0
SlotsSuffice = (s : State) (more : SlotCounts) (calls : List Call) → FitsSlots s more calls
    → IsReservedFor (with_reserved s more) calls

module _ {S : Type 0} (rules : Rules S) where
  -- the reply to a call that needs no memory doesn't say out of memory
  abbrev pub ReservedCallsSucceed : Type 0
  ReservedCallsSucceed = (w : World S) (turn : Turn) (w' : World S) → Step rules w turn w'
      → NeedsNoMemory w.state turn.call → IsNotOutOfMemory turn.reply

  -- no reply to calls for which a machine has reserved what they need says out of memory
  abbrev pub ReservedRunsSucceed : Type 0
  ReservedRunsSucceed = (calls : List Call) (w : World S) (replies : List Reply) (w' : World S)
      → IsReservedFor w.state calls → IsRunOf rules calls w replies w' → All IsNotOutOfMemory replies
