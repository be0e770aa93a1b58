-- The calls on memories: their replies, what each does to the slots and to the spare region, and what a growth, a store
-- or a write over a range writes.
use Rattle.std.specs.Prelude.{◌≡◌, ◌⊎◌, ◌*◌, ◌<◌, ℕ, Option, Some, None, Result, List, length, MatchOption}
use Rattle.std.specs.Option.{option_map, option_map_or}
use Rattle.wasmi_types.specs.Access.{at}
use Rattle.wasmi_types.specs.Numbers.{le_bytes}
use Rattle.wasmi_types.specs.declared.trap.TrapCode.{TrapCode}
use Rattle.wasmi_access.specs.LoadStore.{IsStore}
use Rattle.wasmi_meter.specs.declared.error.MemoryError.{MemoryError}
use Rattle.wasmi_meter.specs.declared.error.MemoryError.TheVariants.{OutOfBoundsAccess}
use Rattle.wasmi_meter.specs.Limiter.{Rules}
use Rattle.wasmi_store.specs.Buffer.{Lent}
use Rattle.wasmi_store.specs.Memory.{MemoryTypeValue, page_bytes, MemoryValue, MakesMemory, MemoryWrite, WritesMemory, byte_copy_of, byte_filling_of}
use Rattle.wasmi_machine.specs.declared.{calls.Reply.Reply, memories.Stored.Stored, slots.Slot.Slot}
use Rattle.wasmi_machine.specs.declared.calls.Reply.TheVariants.{Done, Value, Number, Bytes, Memory, Trap, NoSuch, NoRegion, NoRoom}
use Rattle.wasmi_ops.specs.declared.load_store.LoadOp.{LoadOp}
use Rattle.wasmi_ops.specs.LoadStoreOps.{loaded_raw, stored_bytes}
use Rattle.wasmi_ops.specs.LaneOps.{stored_lane}
use Rattle.wasmi_machine.specs.State.{MemoryPart, live_at}
use Rattle.wasmi_machine.specs.Effects.{reply_of, Creates, ChangesAt}
use Rattle.wasmi_machine.specs.declared.memories.Stored.TheVariants as stored

-- how many bytes a growth of a memory by so many pages has appended, by its reply
abbrev pub bytes_appended : Option MemoryValue → ℕ → Reply → ℕ
bytes_appended None pages reply = 0
bytes_appended (Some x) pages (Number size) = pages * page_bytes x.ty.page
bytes_appended (Some x) pages reply = 0

-- the spare region after a creation in it: it is spent, unless a slot could not be had
abbrev pub spare_after : Reply → Option (List ℕ) → Option (List ℕ)
spare_after NoRoom spare = spare
spare_after reply spare = None

-- a creation in the spare region; without one nothing is asked
abbrev pub CreatesLent : {S : Type 0} → Rules S → MemoryTypeValue → MemoryPart → S → Reply → MemoryPart → S → Type 0
CreatesLent rules ty part l reply part' l' = MatchOption part.spare ((reply ≡ NoRegion) × (part' ≡ part) × (l' ≡ l))
    (λ region. Creates Memory (MakesMemory rules (Lent region) ty) part.slots l reply part'.slots l'
    × (part'.spare ≡ spare_after reply part.spare))

-- a read: its bounds are tested before memory for the reply is asked for, which no byte needs
abbrev pub ReadsBytes : Option (List ℕ) → Reply → Type 0
ReadsBytes None reply = reply ≡ Memory OutOfBoundsAccess
ReadsBytes (Some bytes) reply = ((reply ≡ NoRoom) × (0 < length bytes)) ⊎ (reply ≡ Bytes bytes)

-- the reply to a read of so many bytes from an offset on, by the memory of an index
abbrev pub ReadsMemoryAt : ℕ → ℕ → ℕ → List (Slot MemoryValue) → Reply → Type 0
ReadsMemoryAt k offset len slots reply =
    MatchOption (live_at slots k) (reply ≡ NoSuch) (λ x. ReadsBytes (at x.bytes offset len) reply)

-- the memory of an index is written over with bytes from an offset on, or the write is refused
abbrev pub WritesMemoryAt : ℕ → ℕ → List ℕ → List (Slot MemoryValue) → Reply → List (Slot MemoryValue) → Type 0
WritesMemoryAt k offset bytes slots reply slots' = ChangesAt k slots reply slots'
    (λ x x'. (result : Result (Unit {0}) MemoryError) × WritesMemory x offset bytes result x'
    × (reply ≡ reply_of (λ _. Done) Memory result))

-- the reply to a load from a memory, if the memory is there
abbrev pub load_reply : LoadOp → ℕ → Option MemoryValue → Reply
load_reply op a memory = option_map_or (λ x. reply_of Value Trap (loaded_raw op x.bytes a)) memory NoSuch

-- the bytes that a store writes
abbrev pub bytes_of_stored : Stored → List ℕ
bytes_of_stored (stored.Number op value) = stored_bytes op value
bytes_of_stored (stored.Vector vector) = le_bytes 16 vector
bytes_of_stored (stored.Lane op vector) = stored_lane op vector

-- what a range of a memory is written over with: a byte, or bytes from a place on, if there are some
pub data ByteSource : Type 0 where
  OfByte : ℕ → ByteSource
  OfBytes : Option (List ℕ) → ℕ → ByteSource

-- the write over so many bytes from a place on, with what a source has, if the source is there
abbrev pub byte_write_of : ByteSource → ℕ → ℕ → Option (MemoryValue → MemoryWrite)
byte_write_of (OfByte value) dst len = Some (byte_filling_of dst value len)
byte_write_of (OfBytes source src) dst len = option_map (byte_copy_of dst src len) source

-- the bytes of a memory, if it is there
abbrev pub bytes_in : Option MemoryValue → Option (List ℕ)
bytes_in memory = option_map (λ x. x.bytes) memory

-- what a call copies over a part of a memory is of another one
abbrev pub memory_copy_of : ℕ → ℕ → ℕ → MemoryValue → MemoryValue → MemoryWrite
memory_copy_of dst src len source = byte_copy_of dst src len source.bytes

-- a store: the memory has the bytes at the address, or the store traps and the memory is the same
abbrev pub StoresMemory : MemoryValue → ℕ → List ℕ → Result (Unit {0}) TrapCode → MemoryValue → Type 0
StoresMemory x a stored result x' = IsStore x.bytes a stored x'.bytes result × (x'.ty ≡ x.ty) × (x'.room ≡ x.room)

-- the memory of an index has the stored bytes at the address, or the store traps
abbrev pub StoresMemoryAt : ℕ → ℕ → List ℕ → List (Slot MemoryValue) → Reply → List (Slot MemoryValue) → Type 0
StoresMemoryAt k a stored slots reply slots' = ChangesAt k slots reply slots'
    (λ x x'. (result : Result (Unit {0}) TrapCode) × StoresMemory x a stored result x'
    × (reply ≡ reply_of (λ _. Done) Trap result))
