-- Steps and runs of a machine: the subject and the effect of each call, the vector that it makes, whether it is charged
-- for what it writes, what each effect changes in a world, the replies to it, also by a copy of a slice, and turns one
-- after another.
use Rattle.std.specs.Prelude.{◌≡◌, ◌⊎◌, ◌+◌, ◌<◌, ◌≤◌, ℕ, Bool, true, false, List, Option, Some, None, Result, Ok, Vec, slice_get, [], ◌∷◌, length, map, option_map, option_and_then}
use Rattle.std.specs.Global.{Global}
use Rattle.wasmi_types.specs.Numbers.{le_bytes}
use Rattle.wasmi_types.specs.declared.{trap.TrapCode.TrapCode, value.RefType.RefType}
use Rattle.wasmi_raw.specs.declared.raw.RawVal.{RawVal}
use Rattle.wasmi_typed.specs.declared.{typed.TypedRawVal.TypedRawVal, typed_ref.TypedRawRef.TypedRawRef}
use Rattle.wasmi_typed.specs.Global.{GlobalInstance}
use Rattle.wasmi_lanewise.specs.VectorTable.{shuffle}
use Rattle.wasmi_ops.specs.VectorOps.{binary_vector, made_vector, shifted_vector, ternary_vector, tested_raw, unary_vector}
use Rattle.wasmi_ops.specs.LaneOps.{extracted_raw, replaced_vector, stored_lane}
use Rattle.wasmi_meter.specs.Limiter.{Rules}
use Rattle.wasmi_store.specs.Buffer.{Owned}
use Rattle.wasmi_store.specs.Memory.{MemoryTypeValue, MakesMemory, GrowsMemoryCharging}
use Rattle.wasmi_store.specs.Table.{TableTypeValue, size_of, MakesTable, GrowsTableCharging}
use Rattle.wasmi_machine.specs.declared.{calls.Call.Call, calls.Reply.Reply}
use Rattle.wasmi_machine.specs.State.{World, Turn, TurnOutcome, outcome_of, world, State, live_at, with_memories, memory_part, with_tables, with_segments, with_data_segments, with_globals, with_registers, byte_count}
use Rattle.wasmi_machine.specs.Effects.{reply_of, AddsItem, Creates, DropsAt, ActsAt, ChangesPart, OnlyReplies, Changes, Asks, ActsMetered, ActsMeteredUnasked, WritesRangeAt, item_bytes}
use Rattle.wasmi_ops.specs.LoadStoreOps.{stored_bytes}
use Rattle.wasmi_machine.specs.ValueEffects.{SetsFuel, get_fuel_reply, CreatesSegment, DropsItemsAt, DropsDataAt, SetsGlobalAt, global_reply}
use Rattle.wasmi_machine.specs.MemoryEffects.{ByteSource, byte_write_of, bytes_in, bytes_appended, CreatesLent, ReadsMemoryAt, WritesMemoryAt, load_reply}
use Rattle.wasmi_machine.specs.TableEffects.{Source, element_reply, SetsElementAt, write_of, element_bytes}
use Rattle.wasmi_machine.specs.RegisterEffects.{SetsRegister, StoresVectorAt, given_vector, of_one, of_two, of_three, vector_loaded, lane_loaded, raw_reply, vector_at}
use Rattle.wasmi_machine.specs.MemoryEffects as byte_source
use Rattle.wasmi_machine.specs.TableEffects as element_source
use Rattle.wasmi_machine.specs.declared.calls.Call.TheVariants as call
use Rattle.wasmi_machine.specs.declared.calls.Reply.TheVariants as reply

-- what a call is about
pub data Subject : Type 0 where
  TheMeter Memories Tables Values RegisterFile VectorAccesses : Subject

-- What tools/generate writes begins.
-- what each call is about
abbrev pub subject_of : Call → Subject
subject_of (call.SetFuel fuel) = TheMeter
subject_of call.GetFuel = TheMeter
subject_of (call.NewMemory ty) = Memories
subject_of (call.NewLentMemory ty) = Memories
subject_of (call.GrowMemory memory pages) = Memories
subject_of (call.DropMemory memory) = Memories
subject_of (call.Read memory offset len) = Memories
subject_of (call.Write memory offset bytes) = Memories
subject_of (call.Load op memory ptr offset) = Memories
subject_of (call.Store op memory ptr offset value) = Memories
subject_of (call.FillMemory memory dst value len) = Memories
subject_of (call.CopyMemory dst_memory dst src_memory src len) = Memories
subject_of (call.InitMemory memory segment dst src len) = Memories
subject_of (call.NewTable ty init) = Tables
subject_of (call.GrowTable table delta init) = Tables
subject_of (call.DropTable table) = Tables
subject_of (call.GetElement table index) = Tables
subject_of (call.SetElement table index value) = Tables
subject_of (call.InitTable table segment dst src len) = Tables
subject_of (call.CopyTable dst_table dst src_table src len) = Tables
subject_of (call.FillTable table dst value len) = Tables
subject_of (call.NewSegment ty items) = Values
subject_of (call.DropItems segment) = Values
subject_of (call.NewData bytes) = Values
subject_of (call.DropData segment) = Values
subject_of (call.NewGlobal value ty) = Values
subject_of (call.SetGlobal global value) = Values
subject_of (call.GetGlobal global) = Values
subject_of (call.VectorLoad op dst memory ptr offset) = VectorAccesses
subject_of (call.LoadLane op dst a memory ptr offset) = VectorAccesses
subject_of (call.VectorStore a memory ptr offset) = VectorAccesses
subject_of (call.StoreLane op a memory ptr offset) = VectorAccesses
subject_of call = RegisterFile

-- the calls that are charged for what they write: growths, and those that write over a range of a memory or a table
abbrev pub is_charged : Call → Bool
is_charged (call.GrowMemory memory pages) = true
is_charged (call.FillMemory memory dst value len) = true
is_charged (call.CopyMemory dst_memory dst src_memory src len) = true
is_charged (call.InitMemory memory segment dst src len) = true
is_charged (call.GrowTable table delta init) = true
is_charged (call.InitTable table segment dst src len) = true
is_charged (call.CopyTable dst_table dst src_table src len) = true
is_charged (call.FillTable table dst value len) = true
is_charged call = false

-- What tools/generate writes ends.

-- what changes one part of the state, but for the meter: nothing is charged, and the limiter isn't reached
pub data Change : Type 0 where
  BytesWritten : ℕ → ℕ → List ℕ → Change
  BytesStored : ℕ → ℕ → Option (List ℕ) → Change
  RegisterSet : ℕ → Option (Result RawVal TrapCode) → Change
  MemoryDropped TableDropped ItemsDropped DataDropped : ℕ → Change
  ElementSet : ℕ → ℕ → TypedRawRef → Change
  SegmentMade : RefType → List ℕ → Change
  DataMade : List ℕ → Change
  GlobalMade : GlobalInstance → Change
  GlobalSet : ℕ → TypedRawVal → Change

-- what is written over a range of one part of the state, with a charge, without the limiter
pub data RangeWrite : Type 0 where
  TableWritten : ℕ → Source → ℕ → ℕ → RangeWrite
  MemoryWritten : ℕ → ByteSource → ℕ → ℕ → RangeWrite

-- what a call does, once its operands are read: all calls that only reply what is known have one kind of effect, all
-- that change one part alone another, and all that write over a range of one part a third
pub data Effect : Type 0 where
  Told : Reply → Effect
  BytesRead : ℕ → ℕ → ℕ → Effect
  FuelSet : ℕ → Effect
  Changed : Change → Effect
  MemoryMade LentMemoryMade : MemoryTypeValue → Effect
  MemoryGrown : ℕ → ℕ → Effect
  TableMade : TableTypeValue → TypedRawRef → Effect
  TableGrown : ℕ → ℕ → TypedRawRef → Effect
  RangeWritten : RangeWrite → Effect

-- What tools/generate writes begins.
-- what a call that makes a vector of what is in registers gives the register of its result
abbrev pub vector_given : List RawVal → Call → Option (Result RawVal TrapCode)
vector_given rs (call.Make op dst a) = option_map (λ raw. given_vector (made_vector op raw)) (slice_get rs a)
vector_given rs (call.Unary op dst a) = of_one (unary_vector op) (vector_at rs a)
vector_given rs (call.Binary op dst a b) = of_two (binary_vector op) (vector_at rs a) (vector_at rs b)
vector_given rs (call.Ternary op dst a b c) = of_three (ternary_vector op) (vector_at rs a) (vector_at rs b)
    (vector_at rs c)
vector_given rs (call.Shift op dst a amount) = of_one (λ v. shifted_vector op v amount) (vector_at rs a)
vector_given rs (call.Replace op dst a item) = option_and_then
    (λ raw. of_one (λ v. replaced_vector op v raw) (vector_at rs a)) (slice_get rs item)
vector_given rs (call.Shuffle dst a b lanes) = of_two (λ x y. shuffle x y lanes) (vector_at rs a) (vector_at rs b)
vector_given rs call = None

-- a call makes a vector of what is in registers
abbrev pub MakesVector : Call → Type 0
MakesVector (call.Make op dst a) = Unit {0}
MakesVector (call.Unary op dst a) = Unit {0}
MakesVector (call.Binary op dst a b) = Unit {0}
MakesVector (call.Ternary op dst a b c) = Unit {0}
MakesVector (call.Shift op dst a amount) = Unit {0}
MakesVector (call.Replace op dst a item) = Unit {0}
MakesVector (call.Shuffle dst a b lanes) = Unit {0}
MakesVector call = ⊥

-- the effect of a call on a machine in this state
abbrev pub effect_of : State → Call → Effect
effect_of s (call.SetFuel fuel) = FuelSet fuel
effect_of s call.GetFuel = Told (get_fuel_reply s.meter)
effect_of s (call.NewMemory ty) = MemoryMade ty
effect_of s (call.NewLentMemory ty) = LentMemoryMade ty
effect_of s (call.GrowMemory memory pages) = MemoryGrown memory pages
effect_of s (call.DropMemory memory) = Changed (MemoryDropped memory)
effect_of s (call.Read memory offset len) = BytesRead memory offset len
effect_of s (call.Write memory offset bytes) = Changed (BytesWritten memory offset bytes.items)
effect_of s (call.Load op memory ptr offset) = Told (load_reply op (ptr + offset) (live_at s.memories memory))
effect_of s (call.Store op memory ptr offset value) = Changed
    (BytesStored memory (ptr + offset) (Some (stored_bytes op value)))
effect_of s (call.FillMemory memory dst value len) = RangeWritten
    (MemoryWritten memory (byte_source.OfByte value) dst len)
effect_of s (call.CopyMemory dst_memory dst src_memory src len) = RangeWritten (MemoryWritten dst_memory
    (byte_source.OfBytes (bytes_in (live_at s.memories src_memory)) src) dst len)
effect_of s (call.InitMemory memory segment dst src len) = RangeWritten (MemoryWritten memory
    (byte_source.OfBytes (slice_get s.data_segments segment) src) dst len)
effect_of s (call.NewTable ty init) = TableMade ty init
effect_of s (call.GrowTable table delta init) = TableGrown table delta init
effect_of s (call.DropTable table) = Changed (TableDropped table)
effect_of s (call.GetElement table index) = Told (element_reply index (live_at s.tables table))
effect_of s (call.SetElement table index value) = Changed (ElementSet table index value)
effect_of s (call.InitTable table segment dst src len) = RangeWritten (TableWritten table
    (element_source.OfSegment (slice_get s.segments segment) src) dst len)
effect_of s (call.CopyTable dst_table dst src_table src len) = RangeWritten (TableWritten dst_table
    (element_source.OfTable (live_at s.tables src_table) src) dst len)
effect_of s (call.FillTable table dst value len) = RangeWritten
    (TableWritten table (element_source.OfReference value) dst len)
effect_of s (call.NewSegment ty items) = Changed (SegmentMade ty items.items)
effect_of s (call.DropItems segment) = Changed (ItemsDropped segment)
effect_of s (call.NewData bytes) = Changed (DataMade bytes.items)
effect_of s (call.DropData segment) = Changed (DataDropped segment)
effect_of s (call.NewGlobal value ty) = Changed (GlobalMade (record { value = value; ty = ty }))
effect_of s (call.SetGlobal global value) = Changed (GlobalSet global value)
effect_of s (call.GetGlobal global) = Told (global_reply (slice_get s.globals global))
effect_of s (call.SetRegister dst value) = Changed (RegisterSet dst (Some (Ok value)))
effect_of s (call.GetRegister a) = Told (raw_reply (slice_get s.registers a))
effect_of s (call.Make op dst a) = Changed (RegisterSet dst (vector_given s.registers (call.Make op dst a)))
effect_of s (call.Unary op dst a) = Changed (RegisterSet dst (vector_given s.registers (call.Unary op dst a)))
effect_of s (call.Binary op dst a b) = Changed (RegisterSet dst (vector_given s.registers (call.Binary op dst a b)))
effect_of s (call.Ternary op dst a b c) = Changed
    (RegisterSet dst (vector_given s.registers (call.Ternary op dst a b c)))
effect_of s (call.Shift op dst a amount) = Changed
    (RegisterSet dst (vector_given s.registers (call.Shift op dst a amount)))
effect_of s (call.Test op a) = Told (raw_reply (option_map (tested_raw op) (vector_at s.registers a)))
effect_of s (call.Extract op a) = Told (raw_reply (option_map (extracted_raw op) (vector_at s.registers a)))
effect_of s (call.Replace op dst a item) = Changed
    (RegisterSet dst (vector_given s.registers (call.Replace op dst a item)))
effect_of s (call.Shuffle dst a b lanes) = Changed
    (RegisterSet dst (vector_given s.registers (call.Shuffle dst a b lanes)))
effect_of s (call.VectorLoad op dst memory ptr offset) = Changed (RegisterSet dst
    (vector_loaded op (ptr + offset) (live_at s.memories memory)))
effect_of s (call.LoadLane op dst a memory ptr offset) = Changed (RegisterSet dst (lane_loaded op (ptr + offset)
    (vector_at s.registers a) (live_at s.memories memory)))
effect_of s (call.VectorStore a memory ptr offset) = Changed (BytesStored memory (ptr + offset)
    (option_map (le_bytes 16) (vector_at s.registers a)))
effect_of s (call.StoreLane op a memory ptr offset) = Changed (BytesStored memory (ptr + offset)
    (option_map (stored_lane op) (vector_at s.registers a)))

-- What tools/generate writes ends.

-- memory for one more slot may be refused in a step, since each one that is reserved is used
abbrev pub LacksSlot : {A : Type 0} → ℕ → List A → Type 0
LacksSlot reserved list = reserved ≤ length list

-- one part of the state changes: a line for each kind
abbrev pub HasChange : Change → State → Reply → State → Type 0
HasChange (BytesWritten k offset bytes) s = ChangesPart (with_memories s) (WritesMemoryAt k offset bytes s.memories)
HasChange (BytesStored k a stored) s = ChangesPart (with_memories s) (StoresVectorAt k a stored s.memories)
HasChange (RegisterSet dst given) s = ChangesPart (with_registers s) (SetsRegister dst given s.registers)
HasChange (MemoryDropped k) s = ChangesPart (with_memories s) (DropsAt byte_count k s.memories)
HasChange (TableDropped k) s = ChangesPart (with_tables s) (DropsAt size_of k s.tables)
HasChange (ElementSet k index value) s = ChangesPart (with_tables s) (SetsElementAt k index value s.tables)
HasChange (SegmentMade ty items) s = ChangesPart (with_segments s)
    (CreatesSegment (LacksSlot s.reserved.segments s.segments) ty items s.segments)
HasChange (ItemsDropped k) s = ChangesPart (with_segments s) (DropsItemsAt k s.segments)
HasChange (DataMade bytes) s = ChangesPart (with_data_segments s)
    (AddsItem ((0 < length bytes) ⊎ LacksSlot s.reserved.data_segments s.data_segments) bytes s.data_segments)
HasChange (DataDropped k) s = ChangesPart (with_data_segments s) (DropsDataAt k s.data_segments)
HasChange (GlobalMade global) s = ChangesPart (with_globals s)
    (AddsItem (LacksSlot s.reserved.globals s.globals) global s.globals)
HasChange (GlobalSet k value) s = ChangesPart (with_globals s) (SetsGlobalAt k value s.globals)

-- a range of one part of the state is written over: a line for each kind
abbrev pub HasRangeWrite : {S : Type 0} → RangeWrite → World S → TurnOutcome → World S → Type 0
HasRangeWrite (TableWritten k source dst len) w outcome w' =
    ActsMeteredUnasked w outcome w' w.state.tables (with_tables w.state)
    (WritesRangeAt reply.Table k (write_of source dst len)) (element_bytes len)
HasRangeWrite (MemoryWritten k source dst len) w outcome w' =
    ActsMeteredUnasked w outcome w' w.state.memories (with_memories w.state)
    (WritesRangeAt reply.Memory k (byte_write_of source dst len)) (item_bytes 1 len)

-- an effect takes place from one world to the next: a line for each kind
abbrev pub HasEffect : {S : Type 0} → Rules S → Effect → World S → TurnOutcome → World S → Type 0
HasEffect rules (Told told) w outcome w' = OnlyReplies w outcome w' (λ answer. answer ≡ told)
HasEffect rules (BytesRead k offset len) w outcome w' =
    OnlyReplies w outcome w' (ReadsMemoryAt k offset len w.state.memories)
HasEffect rules (FuelSet fuel) w outcome w' = Changes w outcome w' (SetsFuel fuel w.state)
HasEffect rules (Changed change) w outcome w' = Changes w outcome w' (HasChange change w.state)
HasEffect rules (MemoryMade ty) w outcome w' =
    Asks w outcome w' (LacksSlot w.state.reserved.memories w.state.memories) (with_memories w.state)
    (Creates reply.Memory (MakesMemory rules Owned ty) w.state.memories)
HasEffect rules (LentMemoryMade ty) w outcome w' =
    Asks w outcome w' (LacksSlot w.state.reserved.memories w.state.memories)
    (λ part. record w.state { memories = part.slots; spare = part.spare }) (CreatesLent rules ty (memory_part w.state))
HasEffect rules (MemoryGrown k pages) w outcome w' = ActsMetered w outcome w' w.state.memories (with_memories w.state)
    (ActsAt k (reply_of reply.Number reply.Memory) (GrowsMemoryCharging rules pages))
    (bytes_appended (live_at w.state.memories k) pages)
HasEffect rules (TableMade ty init) w outcome w' =
    Asks w outcome w' (LacksSlot w.state.reserved.tables w.state.tables) (with_tables w.state)
    (Creates reply.Table (MakesTable rules ty init) w.state.tables)
HasEffect rules (TableGrown k n init) w outcome w' = ActsMetered w outcome w' w.state.tables (with_tables w.state)
    (ActsAt k (reply_of reply.Number reply.Table) (GrowsTableCharging rules n init)) (element_bytes n)
HasEffect rules (RangeWritten write) w outcome w' = HasRangeWrite write w outcome w'

-- a step from one world to the next: the effect of the turn's call takes place
abbrev pub Step : {S : Type 0} → Rules S → World S → Turn → World S → Type 0
Step rules w turn w' = HasEffect rules (effect_of w.state turn.call) w (outcome_of turn) w'

-- a call is answered by a reply: there is a step by it, with some charge and some bytes written
abbrev pub RepliesWith : {S : Type 0} → Rules S → Call → World S → Reply → World S → Type 0
RepliesWith rules call w reply w' = (charge : ℕ) × (written : ℕ)
    × Step rules w (record { call = call; reply = reply; charge = charge; written = written }) w'

-- a call is answered by a reply without the limiter, whatever the limiter is, in a step that charges and writes nothing
abbrev pub RepliesWithoutLimiter : {S : Type 0} → Rules S → Call → State → Reply → State → Type 0
RepliesWithoutLimiter {S} rules call s reply s' = (limiter : S)
    → Step rules (world s limiter) (record { call = call; reply = reply; charge = 0; written = 0 }) (world s' limiter)

-- a fact of a `Vec` that has these items, as a copy of them has: what a call that takes it does can be done with a slice
abbrev pub SomeCopy : List ℕ → (Vec ℕ Global → Type 0) → Type 0
SomeCopy items Fact = (copy : Vec ℕ Global) × (copy.items ≡ items) × Fact copy

-- turns one after another from one world to another, each of which relates the worlds before and after it
abbrev pub Sequence : {S : Type 0} → (World S → Turn → World S → Type 0) → World S → List Turn → World S → Type 0
Sequence Relates w [] w' = w' ≡ w
Sequence Relates w (turn ∷ turns) w' = (v : World _) × Relates w turn v × Sequence Relates v turns w'

-- a run: each turn is a step
abbrev pub Run : {S : Type 0} → Rules S → World S → List Turn → World S → Type 0
Run rules = Sequence (Step rules)

-- turns of these calls with these replies
pub record AreTurns (calls : List Call) (replies : List Reply) (turns : List Turn) : Type 0 where
  pub calls_of : map Turn.call turns ≡ calls
  pub replies_of : map Turn.reply turns ≡ replies

-- the replies are those of a run of the calls, from one world to another
abbrev pub IsRunOf : {S : Type 0} → Rules S → List Call → World S → List Reply → World S → Type 0
IsRunOf rules calls w replies w' =
    (turns : List Turn) × (map Turn.call turns ≡ calls) × (map Turn.reply turns ≡ replies) × Run rules w turns w'
