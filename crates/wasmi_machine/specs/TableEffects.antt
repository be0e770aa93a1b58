-- The calls on tables: their replies, what each does to the slots, and what a write over a range writes.
use Rattle.std.specs.Prelude.{◌≡◌, ◌<◌, ◌⊎◌, ℕ, Option, Some, Result, List}
use Rattle.std.specs.Option.{option_map, option_map_or}
use Rattle.wasmi_typed.specs.declared.typed_ref.TypedRawRef.{TypedRawRef}
use Rattle.wasmi_meter.specs.declared.error.TableError.{TableError}
use Rattle.wasmi_store.specs.Segment.{SegmentValue}
use Rattle.wasmi_store.specs.Table.{TableValue, TableWrite, with_elements_reserved, SetsTable, element_at, filling_of, copy_of, initialization_of}
use Rattle.wasmi_machine.specs.declared.{calls.Reply.Reply, slots.Slot.Slot}
use Rattle.wasmi_machine.specs.declared.calls.Reply.TheVariants.{Done, Reference, Table, NoRoom, NoSuch}
use Rattle.wasmi_machine.specs.Effects.{reply_of, ChangesAt, item_bytes}

-- the element that is asked of a table, if the table is there
abbrev pub element_reply : ℕ → Option TableValue → Reply
element_reply index table = option_map_or (λ x. Reference (element_at x index)) table NoSuch

-- an element of the table of an index is set, or the call is refused
abbrev pub SetsElementAt : ℕ → ℕ → TypedRawRef → List (Slot TableValue) → Reply → List (Slot TableValue) → Type 0
SetsElementAt k index value slots reply slots' = ChangesAt k slots reply slots'
    (λ x x'. (result : Result (Unit {0}) TableError) × SetsTable index value x result x'
    × (reply ≡ reply_of (λ _. Done) Table result))

-- memory is reserved for so many elements in all of the table of an index, unless it is refused for more than it was
-- reserved for; then nothing has changed
abbrev pub ReservesElementsAt : ℕ → ℕ → List (Slot TableValue) → Reply → List (Slot TableValue) → Type 0
ReservesElementsAt k n slots reply slots' = ChangesAt k slots reply slots'
    (λ x x'. ((reply ≡ Done) × (x' ≡ with_elements_reserved x n))
    ⊎ ((reply ≡ NoRoom) × (x.reserved < n) × (x' ≡ x)))

-- what a range of a table is written over with: a reference, elements of a table, or items of an element segment, from a
-- place on, if it is there
pub data Source : Type 0 where
  OfReference : TypedRawRef → Source
  OfTable : Option TableValue → ℕ → Source
  OfSegment : Option SegmentValue → ℕ → Source

-- the write over so many elements from a place on, with what a source has, if the source is there
abbrev pub write_of : Source → ℕ → ℕ → Option (TableValue → TableWrite)
write_of (OfReference value) dst len = Some (filling_of dst value len)
write_of (OfTable source src) dst len = option_map (copy_of dst src len) source
write_of (OfSegment segment src) dst len = option_map (initialization_of dst src len) segment

-- the bytes that an accepted call on so many elements has written
abbrev pub element_bytes : ℕ → Reply → ℕ
element_bytes = item_bytes 4
