-- In which list of a state each index lies, and what becomes of what is at it, by each effect, in a turn and in a run:
-- it keeps its type and its reserved memory, the lent region that a memory is made in or the elements of a table, where
-- no effect takes other memory. What a call may not change stays as it is, and what was made stays at its index.
use Rattle.std.proofs.Common.{Err, List, None, Ok, Option, Result, Some, [], ap, ⊎_elim, arith, inl, inr, length, map, refl, subst, sym, ℕ, ◌*◌, ◌+◌, ◌≤◌, ◌∙◌, ◌∷◌, ◌≡◌, ◌⊎◌}
use Rattle.wasmi_laws.proofs.Common.{MeteredValue, value_after, Grows, Growth, All-head, All-tail, none-some, same_Some, option_and_then, option_map, slice_get, on_live, on_live_too, source_writes, MatchOption, reply_of, ByteSource, byte_write_of, SetsAt, MemoryPart, State, Turn, outcome_of, World, byte_count, live_value, with_data_segments, with_globals, with_memories, with_registers, with_segments, with_tables, BytesStored, BytesWritten, Change, Changed, DataDropped, DataMade, Effect, ElementSet, FuelSet, GlobalMade, GlobalSet, ItemsDropped, LentMemoryMade, MemoryDropped, MemoryGrown, MemoryMade, RangeWritten, RegisterSet, SegmentMade, Step, TableDropped, TableGrown, TableMade, MemoryWritten, TableWritten, HasChange, HasEffect, effect_of, OfReference, OfSegment, OfTable, Source, write_of, Call, SetFuel, Reply, Slot, Gone, Live, Content, DataAt, DropsNot, GlobalAt, HasAt, IndicesLast, IsLater, IsLaterSlot, IsLive, LeavesAlone, LiveUntilDropped, Location, MemoryAt, OthersStay, OthersStayInRuns, RegisterAt, SegmentAt, TableAt, changed_location, content_at, dropped_location, IsLent, IsLentRoom, IsReservedToMaximum, AttemptOutcome, Met, answer_of, Rules, Meter, meter_set, MemoryError, TableError, RawVal, on_test, Lent, Owned, Room, room_after, metered_value, GrowsMemoryCharging, MakesMemory, MemoryTypeValue, MemoryValue, MemoryWrite, WritesMemory, new_memory, page_bytes, copied, filled, GrowsTableCharging, MakesTable, SetsTable, TableValue, same_type, size_of, with_elements, TypedRawRef, overwrite, TrapCode, memory_growth, table_growth}
use Rattle.wasmi_laws.proofs.ListLemmas.{EachAfter, entry_added, item_added, item_changed, put, slot_acted, slot_changed, slot_dropped, slot_made, slot_written, unchanged}
use Rattle.wasmi_store.specs.Memory as memory
use Rattle.wasmi_store.specs.Segment.{SegmentValue}
use Rattle.wasmi_typed.specs.Global.{GlobalInstance, SetsGlobal}
use Rattle.wasmi_typed.specs.declared.{global.GlobalError.GlobalError, global.GlobalType.GlobalType, typed.TypedRawVal.TypedRawVal}
use Rattle.wasmi_typed.specs.declared.global.GlobalError.TheVariants.{ImmutableWrite, TypeMismatch}
use Rattle.wasmi_machine.proofs.ValueEffectsLemmas.{var_const}
use Rattle.wasmi_machine.specs.declared.calls.Reply.TheVariants as replied

-- a memory keeps its type, and its region if it lies in one
abbrev StaysMemory : MemoryValue → MemoryValue → Type 0
StaysMemory x x' = (x'.ty ≡ x.ty) × (IsLent x → IsLent x')

-- the same memory keeps its type and its region
memory_stays : (x : MemoryValue) → StaysMemory x x
memory_stays x = (refl, λ lent. lent)

-- a table keeps its type, and stays reserved up to its maximum if it is
abbrev StaysTable : TableValue → TableValue → Type 0
StaysTable x x' = (x'.ty ≡ x.ty) × (IsReservedToMaximum x → IsReservedToMaximum x')

-- the same table keeps its type and what is reserved
table_stays : (x : TableValue) → StaysTable x x
table_stays x = (refl, λ full. full)

-- a memory that is written keeps its type and its region
written_stays : (x x' : MemoryValue) (offset : ℕ) (source : List ℕ) (result : Result (Unit {0}) MemoryError)
    → WritesMemory x offset source result x' → StaysMemory x x'
written_stays x x' offset source (Ok _) writes = (writes.1, λ lent. rw writes.2 lent)
written_stays x x' offset source (Err error) writes = rw writes.2 (memory_stays x)

-- a memory over a range of which is written keeps its type and its region
bytes_stay : (x : MemoryValue) (written : Option (List ℕ)) (x' : MemoryValue)
    → option_map (λ bytes. record x { bytes = bytes }) written ≡ Some x' → StaysMemory x x'
bytes_stay x None x' is = absurd (none-some x' is)
bytes_stay x (Some bytes) x' is = subst (StaysMemory x) (same_Some (record x { bytes = bytes }) x' is) (memory_stays x)

-- a memory keeps its type and its region in a write over a range of it, whatever its source
range_stays : (source : ByteSource) (dst len : ℕ) → MatchOption (byte_write_of source dst len) (Unit {0})
    (λ w. (x x' : MemoryValue) → (w x).written ≡ Some x' → StaysMemory x x')
range_stays source dst len = on_live_too (byte_write_of source dst len) _ _ _ _ (λ missing. missing)
    (λ write w x x' is. bytes_stay x (w.written x.bytes) x' (ap (λ (v : MemoryWrite). v.written) (sym (w.is x)) ∙ is))
    (source_writes source dst len)

-- what is left of a lent region, as a memory keeps it, is lent
rest_lent : (room : Room) (n : ℕ) → IsLentRoom room → IsLentRoom (room_after room n)
rest_lent Owned n lent = lent
rest_lent (Lent rest) n lent = lent

-- a memory that is made in a region lies in it
made_lent : (region : List ℕ) (ty : MemoryTypeValue) (outcome : AttemptOutcome MemoryError) (x : MemoryValue)
    → Ok x ≡ answer_of (memory.creation_of (Lent region) ty) (new_memory (Lent region) ty) outcome → IsLent x
made_lent region ty Met x is = let same : x ≡ new_memory (Lent region) ty = cc in rw same tt
made_lent region ty outcome x is = absurd cc

-- a table whose element is set keeps its type and what is reserved
set_stays : (index : ℕ) (value : TypedRawRef) (x : TableValue) (result : Result (Unit {0}) TableError) (x' : TableValue)
    → SetsTable index value x result x' → StaysTable x x'
set_stays index value x result x' sets = on_test (same_type x.ty.element value.ty) _ _ sets
    (λ raw. on_live (overwrite x.elements index (value.raw ∷ [])) _ _ raw
    (λ outside. rw outside.1 (table_stays x)) (λ elements found set. rw set.1 (table_stays x)))
    (λ other. rw other.1 (table_stays x))

-- a table over a range of which is written keeps its type and what is reserved
elements_stay : (x : TableValue) (written : Option (List ℕ)) (x' : TableValue)
    → option_map (with_elements x) written ≡ Some x' → StaysTable x x'
elements_stay x None x' is = absurd (none-some x' is)
elements_stay x (Some elements) x' is =
    subst (StaysTable x) (same_Some (with_elements x elements) x' is) (table_stays x)

-- a table keeps its type and what is reserved in a write over a range of it, whatever its source
table_range_stays : (source : Source) (dst len : ℕ) → MatchOption (write_of source dst len) (Unit {0})
    (λ w. (x x' : TableValue) → (w x).written ≡ Some x' → StaysTable x x')
table_range_stays (OfReference value) dst len = λ x. elements_stay x (filled x.elements dst value.raw len)
table_range_stays (OfTable (Some source) src) dst len = λ x. elements_stay x (copied x.elements dst source.elements src len)
table_range_stays (OfSegment (Some segment) src) dst len = λ x. elements_stay x (copied x.elements dst segment.items src len)
table_range_stays source dst len = tt

-- what an attempt to grow keeps of a memory or a table, if the grown one keeps it
attempted_stays : {V E : Type 0} (Stays : V → V → Type 0) (g : Growth V E) (value : V) → Stays value value
    → Stays value g.request.grown → (outcome : AttemptOutcome E) → Stays value (value_after g.request value outcome)
attempted_stays Stays g value same grown Met = grown
attempted_stays Stays g value same grown outcome = same

-- what a growth keeps of a memory or a table, if the grown one keeps it
grown_stays : {V E S : Type 0} (Stays : V → V → Type 0) (rules : Rules S) (g : Growth V E) (s s' : MeteredValue V S)
    (result : Result ℕ E) (charge : ℕ) → Stays s.value s.value → Stays s.value g.request.grown
    → Grows rules g s result charge s' → Stays s.value s'.value
grown_stays Stays rules g s s' result charge same grown (inl none) = rw none.same same
grown_stays Stays rules g s s' result charge same grown (inr some) =
    rw some.attempt.value (attempted_stays Stays g s.value same grown some.outcome)

-- a table that grows keeps its type and what is reserved
table_grown_stays : {S : Type 0} (rules : Rules S) (n : ℕ) (init : TypedRawRef) (s s' : MeteredValue TableValue S)
    (result : Result ℕ TableError) (charge : ℕ) → GrowsTableCharging rules n init s result charge s'
    → StaysTable s.value s'.value
table_grown_stays rules n init s s' result charge grows = on_test (same_type s.value.ty.element init.ty) _ _ grows
    (grown_stays StaysTable rules (table_growth n init.raw s.value) s s' result charge (table_stays s.value)
    (table_stays s.value))
    (λ other. rw other.2 (table_stays s.value))

-- a memory that grows keeps its type and its region
memory_grown_stays : {S : Type 0} (rules : Rules S) (pages : ℕ) (s s' : MeteredValue MemoryValue S)
    (result : Result ℕ MemoryError) (charge : ℕ) → GrowsMemoryCharging rules pages s result charge s'
    → StaysMemory s.value s'.value
memory_grown_stays rules pages s s' result charge = grown_stays StaysMemory rules (memory_growth pages s.value) s s' result
    charge (memory_stays s.value) (refl, rest_lent s.value.room (pages * page_bytes s.value.ty.page))

-- a global that is set keeps its type, and a constant its value
global_later : (k : ℕ) (x : GlobalInstance) (value : TypedRawVal) (result : Result (Unit {0}) GlobalError)
    (x' : GlobalInstance) → SetsGlobal x value result x' → IsLater (GlobalAt k) x x'
global_later k x value (Ok _) x' sets =
    (ap (λ (g : GlobalInstance). g.ty) sets.2, λ const. absurd (var_const x.ty.mutability sets.0 const))
global_later k x value (Err ImmutableWrite) x' sets = (ap (λ (g : GlobalInstance). g.ty) sets.1, λ const. sets.1)
global_later k x value (Err TypeMismatch) x' sets = (ap (λ (g : GlobalInstance). g.ty) sets.2, λ const. sets.2)

-- the index at which a change may change what is there
abbrev pub changed_by : Change → Option Location
changed_by (BytesWritten k offset bytes) = Some (MemoryAt k)
changed_by (BytesStored k a stored) = Some (MemoryAt k)
changed_by (RegisterSet dst given) = Some (RegisterAt dst)
changed_by (MemoryDropped k) = Some (MemoryAt k)
changed_by (TableDropped k) = Some (TableAt k)
changed_by (ElementSet k index value) = Some (TableAt k)
changed_by (ItemsDropped k) = Some (SegmentAt k)
changed_by (DataDropped k) = Some (DataAt k)
changed_by (GlobalSet k value) = Some (GlobalAt k)
changed_by change = None

-- the index at which an effect may change what is there
abbrev pub changed_in : Effect → Option Location
changed_in (Changed change) = changed_by change
changed_in (MemoryGrown k pages) = Some (MemoryAt k)
changed_in (TableGrown k n init) = Some (TableAt k)
changed_in (RangeWritten (TableWritten k source dst len)) = Some (TableAt k)
changed_in (RangeWritten (MemoryWritten k source dst len)) = Some (MemoryAt k)
changed_in effect = None

-- the index at which an effect drops what is there
abbrev pub dropped_in : Effect → Option Location
dropped_in (Changed (MemoryDropped k)) = Some (MemoryAt k)
dropped_in (Changed (TableDropped k)) = Some (TableAt k)
dropped_in effect = None

-- an effect makes a memory or a table that may take memory that isn't reserved
abbrev pub TakesMemory : Effect → Type 0
TakesMemory (MemoryMade ty) = Unit {0}
TakesMemory (TableMade ty init) = Unit {0}
TakesMemory effect = ⊥

-- how many more there may be of the kind of an index
abbrev pub made_in : Effect → Location → ℕ
made_in (MemoryMade ty) (MemoryAt k) = 1
made_in (LentMemoryMade ty) (MemoryAt k) = 1
made_in (TableMade ty init) (TableAt k) = 1
made_in (Changed (SegmentMade ty items)) (SegmentAt k) = 1
made_in (Changed (DataMade bytes)) (DataAt k) = 1
made_in (Changed (GlobalMade global)) (GlobalAt k) = 1
made_in effect location = 0

-- the list of a state in which a location is, and the index there
pub record Part (location : Location) : Type 0 where
  pub index : ℕ
  pub read : State → List (Content location)
  pub with_part : State → List (Content location) → State
  pub whole : (s : State) → with_part s (read s) ≡ s
  pub found : (s t : State) → content_at location t ≡ content_at location s
      → slice_get (read t) index ≡ slice_get (read s) index

-- a part by its fields, in their order
abbrev part_of : {location : Location} (index : ℕ) (read : State → List (Content location))
    (with_part : State → List (Content location) → State) → ((s : State) → with_part s (read s) ≡ s)
    → ((s t : State) → content_at location t ≡ content_at location s
    → slice_get (read t) index ≡ slice_get (read s) index) → Part location
part_of index read with_part whole found =
    record { index = index; read = read; with_part = with_part; whole = whole; found = found }

-- the list of a state in which each location is
abbrev pub part_at : (location : Location) → Part location
part_at (MemoryAt k) = part_of k State.memories with_memories (λ s. refl) (λ s t same. same)
part_at (TableAt k) = part_of k State.tables with_tables (λ s. refl) (λ s t same. same)
part_at (SegmentAt k) = part_of k State.segments with_segments (λ s. refl) (λ s t same. same)
part_at (DataAt k) = part_of k State.data_segments with_data_segments (λ s. refl) (λ s t same. same)
part_at (GlobalAt k) = part_of k State.globals with_globals (λ s. refl) (λ s t same. same)
part_at (RegisterAt k) = part_of k State.registers with_registers (λ s. refl) (λ s t same. same)

-- how many there are of the kind of an index
abbrev pub count_at : Location → State → ℕ
count_at location s = length ((part_at location).read s)

-- what is at an index of a machine has its memory reserved, if there is something that can have it: a memory its lent
-- region, a table what is reserved up to its maximum
abbrev pub IsReservedIn : (location : Location) → Option (Content location) → Type 0
IsReservedIn (MemoryAt k) slot = MatchOption (option_and_then live_value slot) (Unit {0}) IsLent
IsReservedIn (TableAt k) slot = MatchOption (option_and_then live_value slot) (Unit {0}) IsReservedToMaximum
IsReservedIn location item = Unit {0}

-- what may become of what is at an index, where a call may change what is at one and drop what is at one
pub record May (changed dropped : Option Location) (location : Location) (x x' : Content location) : Type 0 where
  named : changed ≡ Some location
  later : IsLater location x x'
  live : IsLive location x → IsLive location x' ⊎ (dropped ≡ Some location)
  reserved : IsReservedIn location (Some x) → IsReservedIn location (Some x')

-- what may become of an index by an effect, also where nothing was there: what is made may take memory that isn't
-- reserved
abbrev pub MayAt : Effect → (location : Location) → Option (Content location) → Option (Content location) → Type 0
MayAt effect location None new = TakesMemory effect ⊎ IsReservedIn location new
MayAt effect location (Some x) None = ⊥
MayAt effect location (Some x) (Some x') = May (changed_in effect) (dropped_in effect) location x x'

module _ (k : ℕ) where
  -- a live memory stays of its type, and in its region
  same_memory : (x x' : MemoryValue) → StaysMemory x x' → May (Some (MemoryAt k)) None (MemoryAt k) (Live x) (Live x')
  same_memory x x' stays = record { named = refl; later = stays.0; live = λ live. inl live; reserved = stays.1 }

  -- a live table stays of its type, and reserved up to its maximum
  same_table : (x x' : TableValue) → StaysTable x x' → May (Some (TableAt k)) None (TableAt k) (Live x) (Live x')
  same_table x x' stays = record { named = refl; later = stays.0; live = λ live. inl live; reserved = stays.1 }

-- after an effect every index has what it had, if anything, or what that may become, and of its kind there are at most
-- so many more
abbrev pub EachLocation : Effect → State → State → Type 0
EachLocation effect s s' = (location : Location) → ((content_at location s' ≡ content_at location s)
    ⊎ MayAt effect location (content_at location s) (content_at location s'))
    × (count_at location s' ≤ count_at location s + made_in effect location)

module _ (effect : Effect) (location : Location) where
  -- what holds of what was there, and of what that may become, holds of what is there
  item_after : (x : Content location) (old new : Option (Content location)) → old ≡ Some x
      → (new ≡ old) ⊎ MayAt effect location old new → (Holds : Content location → Type 0) → Holds x
      → ((now : Content location) → May (changed_in effect) (dropped_in effect) location x now → Holds now)
      → (now : Content location) × (new ≡ Some now) × Holds now
  item_after x old new found (inl same) Holds own becomes = (x, same ∙ found, own)
  item_after x None new found (inr may) Holds own becomes = absurd (none-some x found)
  item_after x (Some y) None found (inr may) Holds own becomes = absurd may
  item_after x (Some y) (Some z) found (inr may) Holds own becomes =
      (z, refl, becomes z (subst (λ v. May (changed_in effect) (dropped_in effect) location v z) (same_Some y x found) may))

  -- what is at an index keeps its lent region or what is reserved for it, where nothing is made that takes memory
  pub stays_reserved : (TakesMemory effect → ⊥) → (old new : Option (Content location))
      → (new ≡ old) ⊎ MayAt effect location old new → IsReservedIn location old → IsReservedIn location new
  stays_reserved none old new (inl same) holds = subst (IsReservedIn location) (sym same) holds
  stays_reserved none None new (inr may) holds = ⊎_elim (λ takes. absurd (none takes)) (λ made. made) may
  stays_reserved none (Some x) None (inr may) holds = absurd may
  stays_reserved none (Some x) (Some x') (inr may) holds = may.reserved holds

-- another meter leaves what is at each index, and how much there is
at_metered : (s : State) (m : Meter) (location : Location)
    → (content_at location (record s { meter = m }) ≡ content_at location s)
    × (count_at location (record s { meter = m }) ≡ count_at location s)
at_metered s m (MemoryAt k) = (refl, refl)
at_metered s m location = (refl, refl)

-- what becomes of the registers where one takes what it is given
register_set : (Becomes : ℕ → Option RawVal → Option RawVal → Type 0) (dst : ℕ) (registers : List RawVal)
    (reply : Reply) (registers' : List RawVal) (given : Option (Result RawVal TrapCode)) (old : Option RawVal)
    → ((x x' : RawVal) → Becomes dst (Some x) (Some x')) → slice_get registers dst ≡ old
    → SetsAt given old dst registers reply registers' → EachAfter 0 Becomes registers registers'
register_set Becomes dst registers reply registers' (Some given) None becomes is takes =
    unchanged Becomes registers registers' 0 takes.1
register_set Becomes dst registers reply registers' (Some (Ok value)) (Some old) becomes is takes =
    put Becomes registers registers' dst old value is (becomes old value) takes.1
register_set Becomes dst registers reply registers' given old becomes is takes =
    unchanged Becomes registers registers' 0 takes.1

-- the effect of a call may change what is at the index that the call names for that
pub changed_is : (s : State) (call : Call) → changed_in (effect_of s call) ≡ changed_location call
changed_is s (SetFuel fuel) = refl
changed_is s call = refl

-- the effect of a call drops what is at the index that the call names for that
dropped_is : (s : State) (call : Call) → dropped_in (effect_of s call) ≡ dropped_location call
dropped_is s (SetFuel fuel) = refl
dropped_is s call = refl

module _ (s : State) (reply : Reply) (s' : State) where
  -- a change leaves what is at each index, or what that may become
  change_locations : (change : Change) → HasChange change s reply s'
      → EachLocation (Changed change) s s'
  change_locations (BytesWritten k offset bytes) c (MemoryAt j) = rw c.after
      (slot_changed (λ i. MayAt (Changed (BytesWritten k offset bytes)) (MemoryAt i)) k s.memories reply c.part _
      (λ x x' h. same_memory k x x' (written_stays x x' offset bytes h.0 h.1)) c.effect j)
  change_locations (BytesStored k a None) c (MemoryAt j) = rw c.after
      (unchanged (λ i. MayAt (Changed (BytesStored k a None)) (MemoryAt i)) s.memories c.part 0 c.effect.1 j)
  change_locations (BytesStored k a (Some stored)) c (MemoryAt j) = rw c.after
      (slot_changed (λ i. MayAt (Changed (BytesStored k a (Some stored))) (MemoryAt i)) k s.memories reply c.part _
      (λ x x' h. same_memory k x x' (h.1.1, λ lent. subst IsLentRoom (sym h.1.2) lent)) c.effect j)
  change_locations (RegisterSet dst given) c (RegisterAt j) = rw c.after
      (register_set (λ i. MayAt (Changed (RegisterSet dst given)) (RegisterAt i)) dst s.registers reply c.part given
      (slice_get s.registers dst)
      (λ x x'. record { named = refl; later = tt; live = λ live. inl live; reserved = λ none. none }) refl c.effect j)
  change_locations (MemoryDropped k) c (MemoryAt j) = rw c.after
      (slot_dropped (λ i. MayAt (Changed (MemoryDropped k)) (MemoryAt i)) byte_count k s.memories reply c.part
      (λ x. record { named = refl; later = tt; live = λ live. inr refl; reserved = λ lent. tt }) c.effect j)
  change_locations (TableDropped k) c (TableAt j) = rw c.after
      (slot_dropped (λ i. MayAt (Changed (TableDropped k)) (TableAt i)) size_of k s.tables reply c.part
      (λ x. record { named = refl; later = tt; live = λ live. inr refl; reserved = λ full. tt }) c.effect j)
  change_locations (ElementSet k index value) c (TableAt j) = rw c.after
      (slot_changed (λ i. MayAt (Changed (ElementSet k index value)) (TableAt i)) k s.tables reply c.part _
      (λ x x' h. same_table k x x' (set_stays index value x h.0 x' h.1)) c.effect j)
  change_locations (SegmentMade ty items) c (SegmentAt j) = rw c.after (⊎_elim
      (λ none. unchanged (λ i. MayAt (Changed (SegmentMade ty items)) (SegmentAt i)) s.segments c.part 1 none.1 j)
      (λ made. entry_added (λ i. MayAt (Changed (SegmentMade ty items)) (SegmentAt i)) (λ x. x) replied.Segment made.0
      s.segments reply c.part (λ i x is. inr tt) made.2 j) c.effect)
  change_locations (ItemsDropped k) c (SegmentAt j) = rw c.after
      (item_changed (λ i. MayAt (Changed (ItemsDropped k)) (SegmentAt i)) k s.segments reply c.part _
      (λ x x' h. record {
        named = refl;
        later = (ap (λ (y : SegmentValue). y.ty) h.1, inr (ap (λ (y : SegmentValue). y.items) h.1));
        live = λ live. inl tt;
        reserved = λ none. none;
      }) c.effect j)
  change_locations (DataMade bytes) c (DataAt j) = rw c.after
      (item_added (λ i. MayAt (Changed (DataMade bytes)) (DataAt i)) bytes s.data_segments reply c.part (λ i. inr tt) c.effect j)
  change_locations (DataDropped k) c (DataAt j) = rw c.after
      (item_changed (λ i. MayAt (Changed (DataDropped k)) (DataAt i)) k s.data_segments reply c.part _
      (λ x x' h. record { named = refl; later = inr h.1; live = λ live. inl tt; reserved = λ none. none }) c.effect j)
  change_locations (GlobalMade global) c (GlobalAt j) = rw c.after
      (item_added (λ i. MayAt (Changed (GlobalMade global)) (GlobalAt i)) global s.globals reply c.part (λ i. inr tt) c.effect j)
  change_locations (GlobalSet k value) c (GlobalAt j) = rw c.after
      (item_changed (λ i. MayAt (Changed (GlobalSet k value)) (GlobalAt i)) k s.globals reply c.part _
      (λ x x' h. record {
        named = refl;
        later = global_later k x value h.0 x' h.1;
        live = λ live. inl tt;
        reserved = λ none. none;
      }) c.effect j)
  change_locations change c location = (inl (ap (content_at location) c.after), rw c.after (omega arith))

module _ {S : Type 0} (rules : Rules S) (w : World S) (turn : Turn) (w' : World S) where
  -- a turn with an effect leaves what is at each index, or what that may become
  pub effect_locations : (effect : Effect) → HasEffect rules effect w (outcome_of turn) w'
      → EachLocation effect w.state w'.state
  effect_locations (FuelSet fuel) step location =
      let same = at_metered w.state (meter_set w.state.meter fuel) location in (
        inl (rw (step.after, step.effect.1) same.0),
        rw step.after (rw step.effect.1 (omega (arith, same.1))),
      )
  effect_locations (Changed change) step location =
      rw step.after (change_locations w.state turn.reply step.machine change step.effect location)
  effect_locations (MemoryMade ty) step (MemoryAt j) = rw step.after
      (slot_made (λ i. MayAt (MemoryMade ty) (MemoryAt i)) replied.Memory (MakesMemory rules Owned ty) w.state.memories w.limiter
      turn.reply step.part step.limiter (λ i x makes. inl tt) step.effect j)
  effect_locations (LentMemoryMade ty) step (MemoryAt j) = rw step.after (on_live w.state.spare _ _ step.effect
      (λ none. unchanged (λ i. MayAt (LentMemoryMade ty) (MemoryAt i)) w.state.memories step.part.slots 1
      (ap (λ (p : MemoryPart). p.slots) none.1) j)
      (λ region found h. slot_made (λ i. MayAt (LentMemoryMade ty) (MemoryAt i)) replied.Memory
      (MakesMemory rules (Lent region) ty) w.state.memories w.limiter turn.reply step.part.slots step.limiter
      (λ i x makes. inr (made_lent region ty makes.0 x makes.2)) h.0 j))
  effect_locations (MemoryGrown k pages) step (MemoryAt j) = rw step.after
      (slot_acted (λ i. MayAt (MemoryGrown k pages) (MemoryAt i)) k (reply_of replied.Number replied.Memory)
      (GrowsMemoryCharging rules pages) (metered_value w.state.memories (Some w.state.meter) w.limiter)
      (metered_value step.part (Some step.meter) step.limiter) turn.reply turn.charge
      (λ x x' result acts. same_memory k x x' (memory_grown_stays rules pages _ _ result turn.charge acts)) step.effect j)
  effect_locations (TableMade ty init) step (TableAt j) = rw step.after
      (slot_made (λ i. MayAt (TableMade ty init) (TableAt i)) replied.Table (MakesTable rules ty init) w.state.tables w.limiter
      turn.reply step.part step.limiter (λ i x makes. inl tt) step.effect j)
  effect_locations (TableGrown k n init) step (TableAt j) = rw step.after
      (slot_acted (λ i. MayAt (TableGrown k n init) (TableAt i)) k (reply_of replied.Number replied.Table)
      (GrowsTableCharging rules n init) (metered_value w.state.tables (Some w.state.meter) w.limiter)
      (metered_value step.part (Some step.meter) step.limiter) turn.reply turn.charge
      (λ x x' result acts. same_table k x x' (table_grown_stays rules n init _ _ result turn.charge acts)) step.effect j)
  effect_locations (RangeWritten (TableWritten k source dst len)) step (TableAt j) = rw step.after
      (slot_written (λ i. MayAt (RangeWritten (TableWritten k source dst len)) (TableAt i)) replied.Table StaysTable
      table_stays k (same_table k) (write_of source dst len) (table_range_stays source dst len) _ _ _ _ step.effect j)
  effect_locations (RangeWritten (MemoryWritten k source dst len)) step (MemoryAt j) = rw step.after
      (slot_written (λ i. MayAt (RangeWritten (MemoryWritten k source dst len)) (MemoryAt i)) replied.Memory StaysMemory memory_stays k
      (same_memory k) (byte_write_of source dst len) (range_stays source dst len) _ _ _ _ step.effect j)
  effect_locations effect step location =
      (inl (ap (λ (v : World S). content_at location v.state) step.after), rw step.after (omega arith))

  -- what holds of what was there, and of what that may become in a turn, holds of what is there afterwards
  after_step : Step rules w turn w' → (location : Location) (x : Content location) → content_at location w.state ≡ Some x
      → (Holds : Content location → Type 0) → Holds x
      → ((now : Content location) → May (changed_in (effect_of w.state turn.call))
      (dropped_in (effect_of w.state turn.call)) location x now → Holds now) → HasAt location w'.state Holds
  after_step step location x found = item_after (effect_of w.state turn.call) location x _ _ found
      (effect_locations (effect_of w.state turn.call) step location).0

-- a turn leaves what is at each index that its call may not change
pub others_stay : {S : Type 0} (rules : Rules S) → OthersStay rules
others_stay rules w turn w' step location leaves x found =
    let after = after_step rules w turn w' step location x found (λ now. now ≡ x) refl
    (λ now may. absurd (leaves (sym (changed_is w.state turn.call) ∙ may.named))) in
    after.1 ∙ ap Some after.2

-- a run leaves what is at each index that none of its calls may change
pub others_stay_in_runs : {S : Type 0} (rules : Rules S) → OthersStayInRuns rules
others_stay_in_runs rules w [] w' ran location leaves x found =
    ap (λ (v : World _). content_at location v.state) ran ∙ found
others_stay_in_runs rules w (turn ∷ turns) w' (v, step, ran) location leaves x found =
    let first = others_stay rules w turn v step location
    (All-head (LeavesAlone location) turn.call (map Turn.call turns) leaves) x found in
    others_stay_in_runs rules v turns w' ran location
    (All-tail (LeavesAlone location) turn.call (map Turn.call turns) leaves) x first

-- what may become of a slot: it stays as it is
later_same_slot : {X T : Type 0} (type : X → T) (x : Slot X) → IsLaterSlot type x x
later_same_slot type (Live x) = refl
later_same_slot type (Gone size) = refl

-- what may become of what is at an index: it stays as it is
pub later_same : (location : Location) (x : Content location) → IsLater location x x
later_same (MemoryAt k) x = later_same_slot (λ (m : MemoryValue). m.ty) x
later_same (TableAt k) x = later_same_slot (λ (t : TableValue). t.ty) x
later_same (SegmentAt k) x = (refl, inl refl)
later_same (DataAt k) x = inl refl
later_same (GlobalAt k) x = (refl, λ const. refl)
later_same (RegisterAt k) x = tt

-- what may become of what a slot has become may become of the slot
later_twice_slot : {X T : Type 0} (type : X → T) (x y z : Slot X) → IsLaterSlot type x y → IsLaterSlot type y z
    → IsLaterSlot type x z
later_twice_slot type (Live x) (Live y) (Live z) first second = second ∙ first
later_twice_slot type (Live x) (Gone size) (Live z) first second = absurd cc
later_twice_slot type (Live x) y (Gone last) first second = tt
later_twice_slot type (Gone size) y z first second = subst (λ v. IsLaterSlot type v z) first second

-- items of a segment that are kept or dropped, and then kept or dropped again, are kept or dropped
items_twice : (xs ys zs : List ℕ) → (ys ≡ xs) ⊎ (ys ≡ []) → (zs ≡ ys) ⊎ (zs ≡ []) → (zs ≡ xs) ⊎ (zs ≡ [])
items_twice xs ys zs first (inr none) = inr none
items_twice xs ys zs (inl same) (inl second) = inl (second ∙ same)
items_twice xs ys zs (inr none) (inl second) = inr (second ∙ none)

-- what may become of what something at an index has become may become of it
later_twice : (location : Location) (x y z : Content location) → IsLater location x y → IsLater location y z
    → IsLater location x z
later_twice (MemoryAt k) x y z first second = later_twice_slot (λ (m : MemoryValue). m.ty) x y z first second
later_twice (TableAt k) x y z first second = later_twice_slot (λ (t : TableValue). t.ty) x y z first second
later_twice (SegmentAt k) x y z first second =
    (second.0 ∙ first.0, items_twice x.items y.items z.items first.1 second.1)
later_twice (DataAt k) x y z first second = items_twice x y z first second
later_twice (GlobalAt k) x y z first second = (
  second.0 ∙ first.0,
  λ const. second.1 (ap (λ (t : GlobalType). t.mutability) first.0 ∙ const) ∙ first.1 const,
)
later_twice (RegisterAt k) x y z first second = tt

-- what was at an index is there after a run, as it may have become
pub indices_last : {S : Type 0} (rules : Rules S) → IndicesLast rules
indices_last rules w [] w' ran location x found =
    (x, ap (λ (v : World _). content_at location v.state) ran ∙ found, later_same location x)
indices_last rules w (turn ∷ turns) w' (v, step, ran) location x found =
    let first = after_step rules w turn v step location x found (IsLater location x) (later_same location x)
    (λ now may. may.later) in
    let rest = indices_last rules v turns w' ran location first.0 first.1 in
    (rest.0, rest.1, later_twice location x first.0 rest.0 first.2 rest.2)

-- what was live at an index is live after a run that doesn't drop it
pub live_until_dropped : {S : Type 0} (rules : Rules S) → LiveUntilDropped rules
live_until_dropped rules w [] w' ran location drops has =
    (has.0, ap (λ (v : World _). content_at location v.state) ran ∙ has.1, has.2)
live_until_dropped rules w (turn ∷ turns) w' (v, step, ran) location drops has =
    let first = after_step rules w turn v step location has.0 has.1 (IsLive location) has.2
    (λ now may. ⊎_elim (λ live. live) (λ is. absurd (All-head (DropsNot location) turn.call (map Turn.call turns) drops
    (sym (dropped_is w.state turn.call) ∙ is))) (may.live has.2)) in
    live_until_dropped rules v turns w' ran location
    (All-tail (DropsNot location) turn.call (map Turn.call turns) drops) first

-- what a turn and a run leave at other indices
pub ruleset all_others_stay = (others_stay, others_stay_in_runs)
