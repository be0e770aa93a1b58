-- What is at an index of a machine: which calls may change, drop or read it, and what it may become in turns and runs.
-- The laws over it: independent calls may be exchanged, a stored number is loaded again, and a memory or a table that a
-- host keeps by itself does as the one at an index.
use Rattle.std.specs.Prelude.{◌≡◌, ◌⊎◌, ◌*◌, ◌+◌, ◌%◌, ◌^◌, ℕ, List, [], ◌∷◌, Option, Some, None, length, map, All, slice_get, MatchOption, Result, Vec, slice_set}
use Rattle.wasmi_raw.specs.declared.raw.RawVal.{RawVal}
use Rattle.wasmi_raw.specs.RawVal.{raw_of}
use Rattle.wasmi_access.specs.LoadStore.{IsSameOutside}
use Rattle.wasmi_ops.specs.declared.{load_store.LoadOp.LoadOp, load_store.StoreOp.StoreOp}
use Rattle.wasmi_typed.specs.Global.{GlobalInstance}
use Rattle.wasmi_typed.specs.declared.global.Mutability.TheVariants.{Const}
use Rattle.wasmi_meter.specs.Limiter.{Rules}
use Rattle.wasmi_store.specs.Memory.{MemoryValue, GrowsMemory, WritesMemory}
use Rattle.wasmi_store.specs.Segment.{SegmentValue}
use Rattle.wasmi_store.specs.Table.{TableValue, GrowsTable}
use Rattle.wasmi_machine.specs.declared.{calls.Call.Call, slots.Slot.Slot, calls.Reply.Reply}
use Rattle.wasmi_machine.specs.declared.slots.Slot.TheVariants.{Live, Gone}
use Rattle.wasmi_machine.specs.declared.calls.Reply.TheVariants.{Done, Value, Bytes, Memory, Number, Table}
use Rattle.wasmi_machine.specs.State.{State, live_at, with_memories, with_tables, World, Turn, world}
use Rattle.wasmi_machine.specs.Steps.{Step, RepliesWith, Run}
use Rattle.wasmi_types.specs.Access.{at}
use Rattle.wasmi_typed.specs.declared.typed_ref.TypedRawRef.{TypedRawRef}
use Rattle.wasmi_meter.specs.Meter.{Meter}
use Rattle.wasmi_meter.specs.declared.{error.MemoryError.MemoryError, error.TableError.TableError}
use Rattle.wasmi_meter.specs.declared.error.MemoryError.TheVariants.{OutOfBoundsAccess}
use Rattle.wasmi_store.specs.Growth.{metered_value}
use Rattle.wasmi_machine.specs.declared.calls.Call.TheVariants.{GrowMemory, GrowTable, Read, Write}
use Rattle.wasmi_machine.specs.Effects.{reply_of}
use Rattle.wasmi_ops.specs.declared.load_store.LoadOp.TheVariants as load
use Rattle.wasmi_ops.specs.declared.load_store.StoreOp.TheVariants as store
use Rattle.wasmi_machine.specs.declared.calls.Call.TheVariants as call

-- an index of a machine: of a memory, a table, a segment of either kind or a global, as they were made, or a register
pub data Location : Type 0 where
  MemoryAt TableAt SegmentAt DataAt GlobalAt RegisterAt : ℕ → Location

-- what can be at an index: of a memory or a table its slot, live or dropped
abbrev pub Content : Location → Type 0
Content (MemoryAt k) = Slot MemoryValue
Content (TableAt k) = Slot TableValue
Content (SegmentAt k) = SegmentValue
Content (DataAt k) = List ℕ
Content (GlobalAt k) = GlobalInstance
Content (RegisterAt k) = RawVal

-- what a machine in this state has at an index, if it has anything there
abbrev pub content_at : (location : Location) → State → Option (Content location)
content_at (MemoryAt k) s = slice_get s.memories k
content_at (TableAt k) s = slice_get s.tables k
content_at (SegmentAt k) s = slice_get s.segments k
content_at (DataAt k) s = slice_get s.data_segments k
content_at (GlobalAt k) s = slice_get s.globals k
content_at (RegisterAt k) s = slice_get s.registers k

-- What tools/generate writes begins.
-- the one index at which a call may change what is there; a call that makes something, or that only reads, changes what
-- is at none
abbrev pub changed_location : Call → Option Location
changed_location (call.GrowMemory memory pages) = Some (MemoryAt memory)
changed_location (call.DropMemory memory) = Some (MemoryAt memory)
changed_location (call.Write memory offset bytes) = Some (MemoryAt memory)
changed_location (call.Store op memory ptr offset value) = Some (MemoryAt memory)
changed_location (call.FillMemory memory dst value len) = Some (MemoryAt memory)
changed_location (call.CopyMemory dst_memory dst src_memory src len) = Some (MemoryAt dst_memory)
changed_location (call.InitMemory memory segment dst src len) = Some (MemoryAt memory)
changed_location (call.GrowTable table delta init) = Some (TableAt table)
changed_location (call.DropTable table) = Some (TableAt table)
changed_location (call.SetElement table index value) = Some (TableAt table)
changed_location (call.InitTable table segment dst src len) = Some (TableAt table)
changed_location (call.CopyTable dst_table dst src_table src len) = Some (TableAt dst_table)
changed_location (call.FillTable table dst value len) = Some (TableAt table)
changed_location (call.DropItems segment) = Some (SegmentAt segment)
changed_location (call.DropData segment) = Some (DataAt segment)
changed_location (call.SetGlobal global value) = Some (GlobalAt global)
changed_location (call.SetRegister dst value) = Some (RegisterAt dst)
changed_location (call.Make op dst a) = Some (RegisterAt dst)
changed_location (call.Unary op dst a) = Some (RegisterAt dst)
changed_location (call.Binary op dst a b) = Some (RegisterAt dst)
changed_location (call.Ternary op dst a b c) = Some (RegisterAt dst)
changed_location (call.Shift op dst a amount) = Some (RegisterAt dst)
changed_location (call.Replace op dst a item) = Some (RegisterAt dst)
changed_location (call.Shuffle dst a b lanes) = Some (RegisterAt dst)
changed_location (call.VectorLoad op dst memory ptr offset) = Some (RegisterAt dst)
changed_location (call.LoadLane op dst a memory ptr offset) = Some (RegisterAt dst)
changed_location (call.VectorStore a memory ptr offset) = Some (MemoryAt memory)
changed_location (call.StoreLane op a memory ptr offset) = Some (MemoryAt memory)
changed_location call = None

-- the index at which a call drops a memory or a table
abbrev pub dropped_location : Call → Option Location
dropped_location (call.DropMemory memory) = Some (MemoryAt memory)
dropped_location (call.DropTable table) = Some (TableAt table)
dropped_location call = None

-- the other indices of which a call reads what is there
abbrev pub read_locations : Call → List Location
read_locations (call.Read memory offset len) = MemoryAt memory ∷ []
read_locations (call.Load op memory ptr offset) = MemoryAt memory ∷ []
read_locations (call.CopyMemory dst_memory dst src_memory src len) = MemoryAt src_memory ∷ []
read_locations (call.InitMemory memory segment dst src len) = DataAt segment ∷ []
read_locations (call.GetElement table index) = TableAt table ∷ []
read_locations (call.InitTable table segment dst src len) = SegmentAt segment ∷ []
read_locations (call.CopyTable dst_table dst src_table src len) = TableAt src_table ∷ []
read_locations (call.GetGlobal global) = GlobalAt global ∷ []
read_locations (call.GetRegister a) = RegisterAt a ∷ []
read_locations (call.Make op dst a) = RegisterAt a ∷ []
read_locations (call.Unary op dst a) = RegisterAt a ∷ []
read_locations (call.Binary op dst a b) = RegisterAt a ∷ RegisterAt b ∷ []
read_locations (call.Ternary op dst a b c) = RegisterAt a ∷ RegisterAt b ∷ RegisterAt c ∷ []
read_locations (call.Shift op dst a amount) = RegisterAt a ∷ []
read_locations (call.Test op a) = RegisterAt a ∷ []
read_locations (call.Extract op a) = RegisterAt a ∷ []
read_locations (call.Replace op dst a item) = RegisterAt a ∷ RegisterAt item ∷ []
read_locations (call.Shuffle dst a b lanes) = RegisterAt a ∷ RegisterAt b ∷ []
read_locations (call.VectorLoad op dst memory ptr offset) = MemoryAt memory ∷ []
read_locations (call.LoadLane op dst a memory ptr offset) = RegisterAt a ∷ MemoryAt memory ∷ []
read_locations (call.VectorStore a memory ptr offset) = RegisterAt a ∷ []
read_locations (call.StoreLane op a memory ptr offset) = RegisterAt a ∷ []
read_locations call = []

-- a call acts on what is at indices alone: it makes nothing, is never charged, and reaches neither the meter nor the
-- limiter
abbrev pub IsLocal : Call → Type 0
IsLocal (call.SetFuel fuel) = ⊥
IsLocal call.GetFuel = ⊥
IsLocal (call.NewMemory ty) = ⊥
IsLocal (call.NewLentMemory ty) = ⊥
IsLocal (call.GrowMemory memory pages) = ⊥
IsLocal (call.FillMemory memory dst value len) = ⊥
IsLocal (call.CopyMemory dst_memory dst src_memory src len) = ⊥
IsLocal (call.InitMemory memory segment dst src len) = ⊥
IsLocal (call.NewTable ty init) = ⊥
IsLocal (call.GrowTable table delta init) = ⊥
IsLocal (call.InitTable table segment dst src len) = ⊥
IsLocal (call.CopyTable dst_table dst src_table src len) = ⊥
IsLocal (call.FillTable table dst value len) = ⊥
IsLocal (call.NewSegment ty items) = ⊥
IsLocal (call.NewData bytes) = ⊥
IsLocal (call.NewGlobal value ty) = ⊥
IsLocal call = Unit {0}

-- What tools/generate writes ends.

-- a call may not change what is at this index
abbrev pub LeavesAlone : Location → Call → Type 0
LeavesAlone location call = changed_location call ≡ Some location → ⊥

-- a call doesn't drop what is at this index
abbrev pub DropsNot : Location → Call → Type 0
DropsNot location call = dropped_location call ≡ Some location → ⊥

-- neither of two calls may change what the other may change or reads
pub record IsIndependent (first second : Call) : Type 0 where
  pub changes : (location : Location) → changed_location first ≡ Some location → LeavesAlone location second
  pub first_leaves : All (λ location. LeavesAlone location first) (read_locations second)
  pub second_leaves : All (λ location. LeavesAlone location second) (read_locations first)

-- what was at an index is there
abbrev pub StaysAt : Location → State → State → Type 0
StaysAt location s s' = (x : Content location) → content_at location s ≡ Some x → content_at location s' ≡ Some x

-- what may become of a slot: a live value stays of its type or is dropped, and a dropped one stays, with its size
abbrev pub IsLaterSlot : {X T : Type 0} → (X → T) → Slot X → Slot X → Type 0
IsLaterSlot type (Live x) (Live x') = type x' ≡ type x
IsLaterSlot type (Live x) (Gone size) = Unit {0}
IsLaterSlot type (Gone size) later = later ≡ Gone size

-- what may become of what is at an index: an element segment keeps its items or has none, so a data segment its bytes,
-- and a constant global keeps its value
abbrev pub IsLater : (location : Location) → Content location → Content location → Type 0
IsLater (MemoryAt k) x x' = IsLaterSlot (λ (m : MemoryValue). m.ty) x x'
IsLater (TableAt k) x x' = IsLaterSlot (λ (t : TableValue). t.ty) x x'
IsLater (SegmentAt k) x x' = (x'.ty ≡ x.ty) × ((x'.items ≡ x.items) ⊎ (x'.items ≡ []))
IsLater (DataAt k) x x' = (x' ≡ x) ⊎ (x' ≡ [])
IsLater (GlobalAt k) x x' = (x'.ty ≡ x.ty) × (x.ty.mutability ≡ Const → x' ≡ x)
IsLater (RegisterAt k) x x' = Unit {0}

-- the slot at an index isn't dropped
abbrev pub IsLiveSlot : {X : Type 0} → Slot X → Type 0
IsLiveSlot (Live x) = Unit {0}
IsLiveSlot (Gone size) = ⊥

-- what is at an index isn't dropped, as only memories and tables are
abbrev pub IsLive : (location : Location) → Content location → Type 0
IsLive (MemoryAt k) x = IsLiveSlot x
IsLive (TableAt k) x = IsLiveSlot x
IsLive location x = Unit {0}

-- something is at an index, and this holds of it
abbrev pub HasAt : (location : Location) → State → (Content location → Type 0) → Type 0
HasAt location s Holds = (x : Content location) × (content_at location s ≡ Some x) × Holds x

-- the load that reads as many bytes as a store of a number writes, without a sign
abbrev pub load_of : StoreOp → LoadOp
load_of store.I32Store8 = load.I32Load8U
load_of store.I32Store16 = load.I32Load16U
load_of store.I64Store8 = load.I64Load8U
load_of store.I64Store16 = load.I64Load16U
load_of store.I64Store32 = load.I64Load32U
load_of store.Store32 = load.LoadU32
load_of store.Store64 = load.LoadU64

-- the bytes that a store of a number writes
abbrev pub stored_size : StoreOp → ℕ
stored_size store.I32Store8 = 1
stored_size store.I32Store16 = 2
stored_size store.I64Store8 = 1
stored_size store.I64Store16 = 2
stored_size store.I64Store32 = 4
stored_size store.Store32 = 4
stored_size store.Store64 = 8

-- the number of a raw value's low bits, as many as a store writes
abbrev pub stored_part : StoreOp → RawVal → RawVal
stored_part op value = raw_of (value.lo % 2 ^ (8 * stored_size op))

-- a store of a number to a memory: the instruction, the memory's index, the two parts of the address, and the value
pub record NumberStore : Type 0 where
  pub op : StoreOp
  pub memory : ℕ
  pub ptr : ℕ
  pub offset : ℕ
  pub value : RawVal

-- the call that makes a store of a number
abbrev pub store_call : NumberStore → Call
store_call it = call.Store it.op it.memory it.ptr it.offset it.value

-- the call that loads as many bytes from the address of a store, without a sign
abbrev pub load_call : NumberStore → Call
load_call it = call.Load (load_of it.op) it.memory it.ptr it.offset

-- the memory of a store has as many bytes after it, and the same ones except those that it writes
abbrev pub KeepsOtherBytes : NumberStore → State → State → Type 0
KeepsOtherBytes it s s' =
    (x x' : MemoryValue) → live_at s.memories it.memory ≡ Some x → live_at s'.memories it.memory ≡ Some x'
    → IsSameOutside x.bytes x'.bytes (it.ptr + it.offset) (stored_size it.op) × (length x'.bytes ≡ length x.bytes)

module _ {S : Type 0} (rules : Rules S) where
  -- a turn leaves what is at each index except the one that its call may change
  abbrev pub OthersStay : Type 0
  OthersStay = (w : World S) (turn : Turn) (w' : World S) → Step rules w turn w' → (location : Location)
      → LeavesAlone location turn.call → StaysAt location w.state w'.state

  -- a run leaves what is at each index that none of its calls may change
  abbrev pub OthersStayInRuns : Type 0
  OthersStayInRuns = (w : World S) (turns : List Turn) (w' : World S) → Run rules w turns w' → (location : Location)
      → All (LeavesAlone location) (map Turn.call turns) → StaysAt location w.state w'.state

  -- after a run, what was at an index is there, as it may have become
  abbrev pub IndicesLast : Type 0
  IndicesLast = (w : World S) (turns : List Turn) (w' : World S) → Run rules w turns w' → (location : Location)
      → (x : Content location) → content_at location w.state ≡ Some x → HasAt location w'.state (IsLater location x)

  -- after a run none of whose calls drops it, what was live at an index is live
  abbrev pub LiveUntilDropped : Type 0
  LiveUntilDropped = (w : World S) (turns : List Turn) (w' : World S) → Run rules w turns w' → (location : Location)
      → All (DropsNot location) (map Turn.call turns) → HasAt location w.state (IsLive location)
      → HasAt location w'.state (IsLive location)

  -- an accepted store is read back by the load of its size, after any turns whose calls don't change its memory
  abbrev pub StoresAreReadBack : Type 0
  StoresAreReadBack = (it : NumberStore) (t u v w : World S) (turns : List Turn) (reply : Reply)
      → RepliesWith rules (store_call it) t Done u → Run rules u turns v
      → All (LeavesAlone (MemoryAt it.memory)) (map Turn.call turns) → RepliesWith rules (load_call it) v reply w
      → (reply ≡ Value (stored_part it.op it.value)) × (w ≡ v)

  -- an accepted store keeps all other bytes of its memory, and how many there are
  abbrev pub StoresKeepOtherBytes : Type 0
  StoresKeepOtherBytes = (it : NumberStore) (t u : World S) → RepliesWith rules (store_call it) t Done u
      → KeepsOtherBytes it t.state u.state

  -- two turns one after the other whose calls are local and independent may be exchanged
  abbrev pub IndependentTurnsSwap : Type 0
  IndependentTurnsSwap = (w : World S) (first second : Turn) (w' : World S) → IsLocal first.call → IsLocal second.call
      → IsIndependent first.call second.call → Run rules w (first ∷ second ∷ []) w'
      → Run rules w (second ∷ first ∷ []) w'

-- the state with this memory at an index
abbrev pub with_memory_at : State → ℕ → MemoryValue → State
with_memory_at s k x = with_memories s (slice_set s.memories k (Live x))

-- the state with another meter, as a growth of what is at an index leaves it
abbrev pub with_meter : State → Meter → State
with_meter s m = record s { meter = m }

module _ {S : Type 0} (rules : Rules S) where
  -- a memory that grows by itself, under the meter and the limiter of a machine that has this memory at an index, grows
  -- as the machine's does: with the same reply, and with what it leaves at the index
  abbrev pub MemoriesGrowAlike : Type 0
  MemoriesGrowAlike =
      (w : World S) (k pages : ℕ) (x x' : MemoryValue) (result : Result ℕ MemoryError) (m' : Meter) (l' : S)
      → live_at w.state.memories k ≡ Some x
      → GrowsMemory rules pages (metered_value x (Some w.state.meter) w.limiter) result (metered_value x' (Some m') l')
      → RepliesWith rules (GrowMemory k pages) w (reply_of Number Memory result)
      (world (with_meter (with_memory_at w.state k x') m') l')

  -- a table that grows by itself grows as the one at an index of a machine does, with the same reply
  abbrev pub TablesGrowAlike : Type 0
  TablesGrowAlike =
      (w : World S) (k n : ℕ) (init : TypedRawRef) (x x' : TableValue) (result : Result ℕ TableError) (m' : Meter)
      (l' : S) → live_at w.state.tables k ≡ Some x
      → GrowsTable rules n init (metered_value x (Some w.state.meter) w.limiter) result (metered_value x' (Some m') l')
      → RepliesWith rules (GrowTable k n init) w (reply_of Number Table result)
      (world (with_meter (with_tables w.state (slice_set w.state.tables k (Live x'))) m') l')

  -- bytes that are read of a memory by itself are those that the machine answers, and a read past its end is refused
  abbrev pub MemoriesReadAlike : Type 0
  MemoriesReadAlike = (w : World S) (k offset len : ℕ) (x : MemoryValue) → live_at w.state.memories k ≡ Some x
      → MatchOption (at x.bytes offset len) (RepliesWith rules (Read k offset len) w (Memory OutOfBoundsAccess) w)
      (λ bytes. RepliesWith rules (Read k offset len) w (Bytes bytes) w)

  -- bytes that are written over those of a memory by itself are written by the machine's call, or refused by it
  abbrev pub MemoriesWriteAlike : Type 0
  MemoriesWriteAlike =
      (w : World S) (k offset : ℕ) (bytes : Vec ℕ _) (x x' : MemoryValue) (result : Result (Unit {0}) MemoryError)
      → live_at w.state.memories k ≡ Some x → WritesMemory x offset bytes.items result x'
      → RepliesWith rules (Write k offset bytes) w (reply_of (λ _. Done) Memory result)
      (world (with_memory_at w.state k x') w.limiter)
