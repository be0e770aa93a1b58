-- The bytes of a linear memory: the room that they may grow into, the block of which they are the front, and how they
-- are written over.
use Rattle.std.specs.Prelude.{◌≡◌, ℕ, Bool, true, nat_le, MatchBool, List, ◌++◌, length, drop, replicate, take, ◌≤◌}
use Rattle.std.specs.List.{refill}
use Rattle.wasmi_meter.specs.declared.error.MemoryError.{MemoryError}
use Rattle.wasmi_meter.specs.declared.error.MemoryError.TheVariants.{OutOfSystemMemory, InvalidStaticBufferSize}
use Rattle.std.specs.Borrow.{MutBor}
use denote.Ref.{at_last}
use Rattle.std.specs.Vec.{with_items_from}
use Rattle.wasmi_store.specs.declared.memory.buffer.Storage.{Storage}
use Rattle.wasmi_store.specs.declared.memory.buffer.Storage.TheVariants as storage

-- where bytes may grow: into memory of their own, or into the bytes that are left of a lent region
pub data Room : Type 0 where
  Owned : Room
  Lent : List ℕ → Room

-- a buffer: its bytes, and its room
pub record BufferValue : Type 0 where
  pub bytes : List ℕ
  pub room : Room

-- the buffer whose bytes were written over, by as many
abbrev pub with_bytes : BufferValue → List ℕ → BufferValue
with_bytes b ws = record { bytes = refill (length b.bytes) b.bytes ws; room = b.room }

-- whether a room has place for n more bytes: what is left of a lent region may be too short
abbrev pub fits_room : Room → ℕ → Bool
fits_room Owned n = true
fits_room (Lent rest) n = nat_le n (length rest)

-- why bytes that fit a room could not be had: owned memory may be refused, a lent region allocates none
abbrev pub LacksMemory : Room → MemoryError → Type 0
LacksMemory Owned error = error ≡ OutOfSystemMemory
LacksMemory (Lent rest) error = ⊥

-- why n more bytes could not be had: a lent region is too short, or memory is refused
abbrev pub CanFail : Room → ℕ → MemoryError → Type 0
CanFail room n error = MatchBool (fits_room room n) (LacksMemory room error) (error ≡ InvalidStaticBufferSize)

-- the room once n bytes of it are used
abbrev pub room_after : Room → ℕ → Room
room_after Owned n = Owned
room_after (Lent rest) n = Lent (drop n rest)

-- a buffer of n zeros in a room
abbrev pub zeros_in : Room → ℕ → BufferValue
zeros_in room n = record { bytes = replicate n 0; room = room_after room n }

-- the buffer with n zeros after its bytes
abbrev pub with_zeros : BufferValue → ℕ → BufferValue
with_zeros b n = record { bytes = b.bytes ++ replicate n 0; room = room_after b.room n }

-- xs with its first items, up to place end, written over by as many
abbrev pub refilled_front : List ℕ → ℕ → List ℕ → List ℕ
refilled_front xs end ws = refill (length (take end xs)) (take end xs) ws ++ drop end xs

-- the reference to a region whose front was written over
abbrev pub region_refilled : MutBor (List ℕ) → ℕ → List ℕ → MutBor (List ℕ)
region_refilled r end ws = at_last r (refilled_front r.now end ws)

module _ {Region : Type 0} where
  -- the block of bytes of which a buffer's are the first: memory of its own, or a region
  abbrev pub block : (Region → List ℕ) → Storage Region → List ℕ
  block bytes (storage.Owned v) = v.items
  block bytes (storage.Lent region) = bytes region

  -- the buffer of the first bytes of a block, up to an end
  abbrev pub view_of : (Region → List ℕ) → Storage Region → ℕ → BufferValue
  view_of bytes (storage.Owned v) end = record { bytes = take end v.items; room = Owned }
  view_of bytes (storage.Lent region) end =
      record { bytes = take end (bytes region); room = Lent (drop end (bytes region)) }

  -- memory of a buffer's own ends with its bytes, and a region doesn't end before them
  abbrev pub EndsWithin : (Region → List ℕ) → Storage Region → ℕ → Type 0
  EndsWithin bytes (storage.Owned v) end = end ≡ length v.items
  EndsWithin bytes (storage.Lent region) end = end ≤ length (bytes region)

  -- the storage once the front of its block, up to an end, was written over
  abbrev pub block_refilled : (Region → ℕ → List ℕ → Region) → Storage Region → ℕ → List ℕ → Storage Region
  block_refilled refilled (storage.Owned v) end ws = storage.Owned (with_items_from v 0 ws)
  block_refilled refilled (storage.Lent region) end ws = storage.Lent (refilled region end ws)
