-- What holds of each effect on memories: that they stay valid, errors for lack of memory, reads, writes and stores.
use Rattle.std.proofs.Common.{Err, List, None, Ok, Option, Result, Some, ap, inl, inr, length, refl, sym, ℕ, ◌∙◌, ◌≡◌}
use Rattle.wasmi_machine.proofs.Common.{IsNotOutOfMemory, ReadsBytes, StoresMemory, WritesMemoryAt, StoresVectorAt, byte_count, Reply, MemoryError, LacksMemory, Lent, Owned, Room, IsValidMemory, MemoryValue, WritesMemory, overwrite}
use Rattle.wasmi_machine.proofs.EffectLemmas.{PutsOr, SlotFacts, setting_facts, settled_facts}
use Rattle.wasmi_meter.specs.declared.error.MemoryError.TheVariants.{OutOfBoundsAccess}
use Rattle.wasmi_access.specs.LoadStore.{accessed}
use Rattle.wasmi_types.specs.declared.trap.TrapCode.{TrapCode}
use Rattle.wasmi_types.specs.declared.trap.TrapCode.TheVariants.{MemoryOutOfBounds}
use Rattle.wasmi_machine.specs.declared.calls.Reply.TheVariants as replied
use Rattle.wasmi_machine.proofs.SlotsLemmas.{overwrite_length, accessed_length}

-- an error of an effect on memories for lack of memory, in any room, is one for a memory of its own
pub lacks_owned : (room : Room) (cause : MemoryError) → LacksMemory room cause → LacksMemory Owned cause
lacks_owned Owned cause lacks = lacks
lacks_owned (Lent rest) cause lacks = absurd lacks

-- two reads of a memory's bytes have one reply, where there is enough memory
pub read_same : (found : Option (List ℕ)) (reply reply' : Reply) → IsNotOutOfMemory reply → IsNotOutOfMemory reply'
    → ReadsBytes found reply → ReadsBytes found reply' → reply ≡ reply'
read_same None reply reply' room room' a b = a ∙ sym b
read_same (Some bytes) reply reply' room room' (inl none) b = absurd (rw none.0 at room)
read_same (Some bytes) reply reply' room room' (inr a) (inl none) = absurd (rw none.0 at room')
read_same (Some bytes) reply reply' room room' (inr a) (inr b) = a ∙ sym b

-- a memory of another one's type with as many bytes is valid
pub memory_as_long : (x x' : MemoryValue) → x'.ty ≡ x.ty → byte_count x' ≡ byte_count x → IsValidMemory x → IsValidMemory x'
memory_as_long x x' same long valid = record { type = rw same valid.type; sized = rw (same, long) valid.sized }

-- a memory with other bytes, as a write or a store leaves it
abbrev pub with_bytes : MemoryValue → List ℕ → MemoryValue
with_bytes x bytes = record x { bytes = bytes }

-- a memory with other bytes, as many, has this number and stays valid
bytes_keep : (x : MemoryValue) (bytes : List ℕ) → length bytes ≡ byte_count x
    → (byte_count (with_bytes x bytes) ≡ byte_count x) × (IsValidMemory x → IsValidMemory (with_bytes x bytes))
bytes_keep x bytes long = (long, memory_as_long x (with_bytes x bytes) refl long)

-- a write puts bytes, or is refused
write_puts : (offset : ℕ) (source : List ℕ) (x : MemoryValue) (result : Result (Unit {0}) MemoryError) (x' : MemoryValue)
    → WritesMemory x offset source result x'
    → PutsOr (overwrite x.bytes offset source) (with_bytes x) OutOfBoundsAccess x result x'
write_puts offset source x (Ok done) x' (bytes, ty, room) =
    rw bytes (refl, λ k. record { ty = ty k; bytes = x'.bytes; room = room k })
write_puts offset source x (Err error) x' (is, outside, same) = rw outside (ap Err is, same)

-- the facts of a write to the memory of an index
pub write_facts : (k offset : ℕ) (source : List ℕ)
    → SlotFacts byte_count IsValidMemory (WritesMemoryAt k offset source)
write_facts k offset source = setting_facts byte_count IsValidMemory replied.Memory
    (λ x result x'. WritesMemory x offset source result x') (λ x. overwrite x.bytes offset source) with_bytes
    (λ x. OutOfBoundsAccess) (write_puts offset source)
    (λ x bytes. overwrite_length x.bytes source bytes offset) bytes_keep k

-- a store puts bytes, or traps
store_puts : (a : ℕ) (stored : List ℕ) (x : MemoryValue) (result : Result (Unit {0}) TrapCode) (x' : MemoryValue)
    → StoresMemory x a stored result x'
    → PutsOr (accessed a (overwrite x.bytes a stored)) (with_bytes x) MemoryOutOfBounds x result x'
store_puts a stored x (Ok done) x' (bytes, ty, room) =
    rw bytes (refl, λ k. record { ty = ty k; bytes = x'.bytes; room = room k })
store_puts a stored x (Err trap) x' ((is, outside, bytes), ty, room) =
    rw outside (ap Err is, λ k. record { ty = ty k; bytes = bytes k; room = room k })

-- a store leaves the number of bytes
pub stored_count : (x x' : MemoryValue) (a : ℕ) (stored : List ℕ) (result : Result (Unit {0}) TrapCode)
    → StoresMemory x a stored result x' → byte_count x' ≡ byte_count x
stored_count x x' a stored (Ok _) stores = accessed_length x.bytes stored x'.bytes a _ stores.0
stored_count x x' a stored (Err trap) stores = ap length stores.0.2

-- the facts of a store of bytes that may be missing to the memory of an index
pub vector_store_facts : (k a : ℕ) (stored : Option (List ℕ))
    → SlotFacts byte_count IsValidMemory (StoresVectorAt k a stored)
vector_store_facts k a None slots = settled_facts (λ refused. refl) (refl, λ valid. valid)
vector_store_facts k a (Some stored) slots = setting_facts byte_count IsValidMemory replied.Trap
    (λ x result x'. StoresMemory x a stored result x') (λ x. accessed a (overwrite x.bytes a stored)) with_bytes
    (λ x. MemoryOutOfBounds) (store_puts a stored)
    (λ x bytes. accessed_length x.bytes stored bytes a _) bytes_keep k slots
