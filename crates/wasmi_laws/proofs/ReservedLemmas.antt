-- What is reserved is enough: no reply to a call that needs no other memory says out of memory, as no cause of its
-- attempts, writes, reads and changes is lack of memory. A call takes its slot alone, and what is reserved stays so.
use Rattle.wasmi_laws.proofs.Common.{nat_tests, append-nil, All-cons, All-head, All-nil, All-tail, All-weaker, option_map, option_map_or, All, MatchOption, count_by, if◌then◌else◌, is_some, max, nat_eq, nat_le, slice_get, overwrite, TrapCode, RefType, RawVal, TypedRawRef, AttemptOutcome, Denied, Failed, MayEnd, Met, MeteredValue, Request, Unasked, answer_of, covers, with_value, Rules, Meter, MemoryError, TableError, on_test, LacksMemory, Lent, Owned, Room, GrowsMemoryCharging, MakesMemory, MemoryTypeValue, MemoryValue, WritesMemory, new_memory, pages_of, GrowsTableCharging, SetsTable, TableValue, elements_write, is_within_maximum, same_type, size_of, with_elements_reserved, EndsBy, IsRefusedFor, MeteredWrite, copied, filled, write_due, both_live, on_live, on_live_too, source_writes, IsNotOutOfMemory, AddsEntry, AddsItem, Creates, MeteredSlots, WritesRangeAt, reply_of, ByteSource, ReadsBytes, byte_write_of, SetsAt, vector_at, State, Turn, World, live_at, with_reserved, with_tables, BytesRead, BytesStored, BytesWritten, Change, Changed, DataDropped, DataMade, Effect, ElementSet, FuelSet, GlobalMade, GlobalSet, HasChange, HasEffect, IsRunOf, ItemsDropped, LacksSlot, LentMemoryMade, MemoryDropped, MemoryGrown, MemoryMade, MemoryWritten, RangeWritten, RegisterSet, Run, SegmentMade, Step, TableDropped, TableGrown, TableMade, TableWritten, Told, effect_of, ReservesElementsAt, OfReference, OfSegment, OfTable, Source, write_of, CreatesSegment, IsSegmentOf, Call, Extract, GetElement, GetFuel, GetGlobal, GetRegister, GrowMemory, GrowTable, Load, NewData, NewGlobal, NewLentMemory, NewMemory, NewSegment, Test, Reply, Slot, Live, DataAt, GlobalAt, Location, MemoryAt, SegmentAt, TableAt, content_at, HasElements, HasElementsAt, HasSlot, HasSlots, SlotKind, Memories, Segments, DataSegments, Globals, made_of, slots_for, takes_slot, IsReservedToMaximum, IsLent, IsLentRoom, IsReservedFor, IsReservedTable, NeedsNoMemory, NeedsOnlySlot, ReservedCallsSucceed, ReservedRunsSucceed, SlotsSuffice, IsInRegion, outcome_of}
use Rattle.std.proofs.Common.{◌++◌, Bool, Err, List, None, Ok, Option, Result, Some, [], ap, arith, cond, drop, false, inl, inr, length, map, refl, subst, sym, take, true, ℕ, ◌+◌, ◌≤◌, ◌∷◌, ◌≡◌, ◌⊎◌, ⊎_elim}
use Rattle.std.proofs.lemmas.List.Sums.{sum_by-cons}
use Rattle.wasmi_ops.specs.LoadStoreOps.{loaded_raw}
use Rattle.wasmi_ops.specs.VectorOps.{tested_raw}
use Rattle.wasmi_ops.specs.LaneOps.{extracted_raw}
use Rattle.wasmi_meter.specs.declared.fuel.FuelError.{FuelError}
use Rattle.wasmi_store.specs.Segment.{SegmentValue}
use Rattle.wasmi_store.specs.declared.table.element.SegmentError.{SegmentError}
use Rattle.wasmi_machine.specs.declared.slots.SlotCounts.{SlotCounts}
use Rattle.wasmi_laws.proofs.ListLemmas.{slot_changed}
use Rattle.wasmi_laws.proofs.RefusalLemmas.{LaterCauses, causes, first_has, tested}
use Rattle.wasmi_laws.proofs.LocationLemmas.{IsReservedIn, TakesMemory, count_at, effect_locations, made_in, stays_reserved}
use Rattle.wasmi_machine.proofs.WritingLemmas.{early_none}
use Rattle.wasmi_machine.specs.declared.calls.Reply.TheVariants as replied
use Rattle.wasmi_store.specs.Memory as memory
use Rattle.wasmi_store.specs.Table as table

-- ---- replies

-- an error is another one than lack of memory, by the reply that tells it
abbrev IsOther : {E : Type 0} → (E → Reply) → E → Type 0
IsOther refusal error = IsNotOutOfMemory (refusal error)

-- a reply by an option doesn't say out of memory, where neither of both replies does
option_told : {X : Type 0} (o : Option X) (answer : X → Reply) (missing : Reply) → ((x : X) → IsNotOutOfMemory (answer x))
    → IsNotOutOfMemory missing → IsNotOutOfMemory (option_map_or answer o missing)
option_told None answer missing found none = none
option_told (Some x) answer missing found none = found x

-- the reply by a result doesn't say out of memory
result_told : {T E : Type 0} (result : Result T E) (answer : T → Reply) (refusal : E → Reply)
    → ((t : T) → IsNotOutOfMemory (answer t)) → ((error : E) → result ≡ Err error → IsOther refusal error)
    → IsNotOutOfMemory (reply_of answer refusal result)
result_told (Ok t) answer refusal done refused = done t
result_told (Err error) answer refusal done refused = refused error refl

-- ---- attempts

module _ {V E : Type 0} (refusal : E → Reply) (e : Request V E)
    (early : (cause : E) → e.early ≡ Some cause → IsOther refusal cause) (later : LaterCauses (IsOther refusal) e)
    (m : Option Meter) where
  -- the reply to an attempt none of whose causes is lack of memory doesn't say out of memory
  attempt_told : {T : Type 0} (answer : T → Reply) → ((t : T) → IsNotOutOfMemory (answer t)) → (value : T)
      (outcome : AttemptOutcome E) → MayEnd e m outcome
      → IsNotOutOfMemory (reply_of answer refusal (answer_of e value outcome))
  attempt_told answer done value (Unasked cause) may = early cause may
  attempt_told answer done value (Denied (Ok permitted)) may = later.denied
  attempt_told answer done value Met may = done value
  attempt_told answer done value (Failed cause (Ok accepted)) may =
      first_has (IsOther refusal) e later m e.late refl cause may.1
  attempt_told answer done value outcome may = later.refused

-- ---- writes over a range

-- no cause of a write is lack of memory
record WritesWithoutWant {V E : Type 0} (refusal : E → Reply) (w : MeteredWrite V E) : Type 0 where
  early : (cause : E) → w.early ≡ Some cause → IsOther refusal cause
  outside : IsOther refusal w.outside
  unpaid : (amount : ℕ) → IsOther refusal (w.unpaid amount)

module _ {V E : Type 0} (refusal : E → Reply) (w : MeteredWrite V E) (no : WritesWithoutWant refusal w)
    (s : MeteredValue V (Unit {0})) (result : Result (Unit {0}) E) (s' : MeteredValue V (Unit {0})) where
  -- the reply to a write doesn't say out of memory
  abbrev Tells : Type 0
  Tells = IsNotOutOfMemory (reply_of (λ _. replied.Done) refusal result)

  -- the reply to a write that was refused for a cause other than lack of memory
  cause_told : (cause : E) → IsOther refusal cause → IsRefusedFor w s result s' cause → Tells
  cause_told cause other is = rw is.0 other

  -- the reply to a write no cause of which is lack of memory
  write_told : (early : Option E) (written : Option V) → w.early ≡ early → EndsBy w s result s' early written → Tells
  write_told (Some cause) written is ends = cause_told cause (no.early cause is) ends
  write_told None None is ends = cause_told w.outside no.outside ends
  write_told None (Some value) is ends = on_test (covers s.meter (write_due w s)) _ _ ends (λ paid. rw paid.0 tt)
      (λ unpaid. cause_told (w.unpaid (write_due w s)) (no.unpaid (write_due w s)) unpaid)

-- a write to a table has no cause that is lack of memory
table_write_told : (x : TableValue) (typed : Bool) (written : Option (List ℕ)) (outside : TableError) (paid : Option ℕ)
    → IsOther replied.Table outside → WritesWithoutWant replied.Table (elements_write x typed written outside paid)
table_write_told x typed written outside paid other = record {
  early = tested (IsOther replied.Table) typed TableError.ElementTypeMismatch tt;
  outside = other;
  unpaid = λ amount. tt;
}

-- no cause of a write over a range of a memory is lack of memory, whatever its source
bytes_told : (source : ByteSource) (dst len : ℕ) → MatchOption (byte_write_of source dst len) (Unit {0})
    (λ w. (x : MemoryValue) → WritesWithoutWant replied.Memory (w x))
bytes_told source dst len = on_live_too (byte_write_of source dst len) _ _ _ _ (λ missing. missing)
    (λ write w x. rw (w.is x) (record { early = w.told x.ty; outside = tt; unpaid = λ amount. tt }))
    (source_writes source dst len)

-- no cause of a write over a range of a table is lack of memory, whatever its source
elements_told : (source : Source) (dst len : ℕ) → MatchOption (write_of source dst len) (Unit {0})
    (λ w. (x : TableValue) → WritesWithoutWant replied.Table (w x))
elements_told (OfReference value) dst len = λ x. table_write_told x (same_type x.ty.element value.ty)
    (filled x.elements dst value.raw len) TableError.FillOutOfBounds (Some len) tt
elements_told (OfTable (Some source) src) dst len = λ x. table_write_told x
    (same_type x.ty.element source.ty.element) (copied x.elements dst source.elements src len)
    TableError.CopyOutOfBounds (Some len) tt
elements_told (OfSegment (Some segment) src) dst len = λ x. table_write_told x (same_type x.ty.element segment.ty)
    (copied x.elements dst segment.items src len) TableError.InitOutOfBounds (if nat_eq len 0 then None else Some len) tt
elements_told source dst len = tt

-- the reply to a write over a range of the value of an index
range_told : {X E : Type 0} (refusal : E → Reply) (k : ℕ) (write : Option (X → MeteredWrite X E))
    → MatchOption write (Unit {0}) (λ w. (x : X) → WritesWithoutWant refusal (w x)) → (s : MeteredSlots X)
    (reply : Reply) (charge : ℕ) (s' : MeteredSlots X) → WritesRangeAt refusal k write s reply charge s' → IsNotOutOfMemory reply
range_told refusal k None without s reply charge s' writes = rw writes.0 tt
range_told refusal k (Some w) without s reply charge s' writes = on_live (live_at s.value k) _ _ writes
    (λ missing. rw missing.0 tt) (λ x found h. rw h.3
    (write_told refusal (w x) (without x) (with_value s x) h.0 (with_value s' h.1) (w x).early (w x).written refl h.2.writes))

-- ---- creations and growths of memories in lent regions

-- no later cause of a request for a lent region is lack of memory
lent_told : (region : List ℕ) (ty : MemoryTypeValue)
    → LaterCauses (IsOther replied.Memory) (memory.creation_of (Lent region) ty)
lent_told region ty = causes tt tt (tested (IsOther replied.Memory) _ MemoryError.InvalidStaticBufferSize tt)
    (λ amount. tt) (λ late cause lacks. absurd lacks)

-- a lent room never lacks memory
lent_lacks : (room : Room) (cause : MemoryError) → IsLentRoom room → LacksMemory room cause → ⊥
lent_lacks Owned cause lent lacks = lent
lent_lacks (Lent rest) cause lent lacks = lacks

-- no later cause of a growth of a lent memory is lack of memory
growth_told : (x : MemoryValue) (pages : ℕ) → IsLent x
    → LaterCauses (IsOther replied.Memory) (memory.growth_of x pages)
growth_told x pages lent = causes tt tt (tested (IsOther replied.Memory) _ MemoryError.InvalidStaticBufferSize tt)
    (λ amount. tt) (λ late cause lacks. absurd (lent_lacks x.room cause lent lacks))

-- the reply to a growth of a lent memory
grown_told : {S : Type 0} (rules : Rules S) (pages : ℕ) (s : MeteredValue MemoryValue S) → IsLent s.value
    → (result : Result ℕ MemoryError) (charge : ℕ) (s' : MeteredValue MemoryValue S)
    → GrowsMemoryCharging rules pages s result charge s' → IsNotOutOfMemory (reply_of replied.Number replied.Memory result)
grown_told rules pages s lent result charge s' (inl none) = rw none.answered tt
grown_told rules pages s lent result charge s' (inr some) =
    rw some.answered (attempt_told replied.Memory (memory.growth_of s.value pages)
    (tested (IsOther replied.Memory) _ MemoryError.OutOfBoundsGrowth tt) (growth_told s.value pages lent) s.meter
    replied.Number (λ size. tt) (pages_of s.value) some.outcome some.attempt.may_end)

-- ---- growths of reserved tables

-- a size that is within a maximum up to which memory is reserved has its memory
within_reserved : (maximum : Option ℕ) (size reserved : ℕ) → MatchOption maximum ⊥ (λ n. n ≤ reserved)
    → option_map_or (λ n. nat_le size n) maximum true ≡ true → size ≤ reserved
within_reserved None size reserved enough within = absurd enough
within_reserved (Some n) size reserved enough within =
    let above : n ≤ reserved = enough in
    let below : nat_le size n ≡ true = within in
    grind (arith, nat_tests, above, below)

-- a growth of a table within the maximum has its memory
elements_there : (x : TableValue) (n : ℕ) → HasElements n x → is_within_maximum x.ty (size_of x + n) ≡ true
    → size_of x + n ≤ x.reserved
elements_there x n (inl there) within = there
elements_there x n (inr full) within = within_reserved x.ty.maximum (size_of x + n) x.reserved full within

-- no later cause of a growth of a table for which it is reserved is lack of memory
table_told : (x : TableValue) (n reference : ℕ) → HasElements n x
    → LaterCauses (IsOther replied.Table) (table.growth_of x n reference)
table_told x n reference has = causes tt tt (tested (IsOther replied.Table) _ TableError.GrowOutOfBounds tt)
    (λ amount. tt) (λ late cause lacks.
    let there : size_of x + n ≤ x.reserved = elements_there x n has (early_none _ _ late) in
    absurd (omega (arith, there, lacks.1)))

-- ---- entries

-- the reply to an entry whose error isn't lack of memory
entry_told : {X A E : Type 0} (entry : X → A) (refusal : E → Reply) (result : Result X E) (list : List A)
    (reply : Reply) (list' : List A) → IsNotOutOfMemory (reply_of (λ _. replied.Done) refusal result)
    → AddsEntry entry refusal result list reply list' → IsNotOutOfMemory reply
entry_told entry refusal (Ok x) list reply list' other adds = rw adds.0 tt
entry_told entry refusal (Err error) list reply list' other adds = rw adds.0 other

-- the reply to a creation in a lent region with a slot that is reserved
creation_told : {S : Type 0} (rules : Rules S) (region : List ℕ) (ty : MemoryTypeValue)
    (slots : List (Slot MemoryValue)) (l : S) (reply : Reply) (slots' : List (Slot MemoryValue)) (l' : S)
    → (reply ≡ replied.NoRoom → ⊥) → Creates replied.Memory (MakesMemory rules (Lent region) ty) slots l reply slots' l'
    → IsNotOutOfMemory reply
creation_told rules region ty slots l reply slots' l' room (inl none) = absurd (room none.0)
creation_told rules region ty slots l reply slots' l' room (inr (result, (outcome, attempt, answered), adds)) =
    entry_told Live replied.Memory result slots reply slots'
    (rw answered (attempt_told replied.Memory (memory.creation_of (Lent region) ty)
    (tested (IsOther replied.Memory) _ MemoryError.MinimumSizeOverflow tt) (lent_told region ty) None (λ x. replied.Done)
    (λ x. tt) (new_memory (Lent region) ty) outcome attempt.may_end)) adds

-- ---- reads

-- the reply to a read of no byte
read_told : (xs : List ℕ) (test : Bool) (reply : Reply) → ReadsBytes (if test then Some (take 0 xs) else None) reply
    → IsNotOutOfMemory reply
read_told xs false reply reads = rw reads tt
read_told xs true reply (inl refused) = absurd (omega (arith, refused.1))
read_told xs true reply (inr read) = rw read tt

-- ---- changes of one part

-- the reply to an addition of an item for which there is memory
added_told : {Lacks X : Type 0} (x : X) (items : List X) (reply : Reply) (items' : List X) → (Lacks → ⊥)
    → AddsItem Lacks x items reply items' → IsNotOutOfMemory reply
added_told x items reply items' has (inl none) = absurd (has none.2)
added_told x items reply items' has (inr made) = rw made.0 tt

-- the error of a segment of no item isn't lack of memory
segment_error_told : (ty : RefType) (items : List ℕ) (result : Result SegmentValue SegmentError) → items ≡ []
    → IsSegmentOf ty items result → IsNotOutOfMemory (reply_of (λ _. replied.Done) replied.Segment result)
segment_error_told ty items (Ok segment) none fits = tt
segment_error_told ty items (Err SegmentError.TooManyItems) none fits = tt
segment_error_told ty items (Err SegmentError.OutOfSystemMemory) none fits =
    absurd (omega (arith, ap length none, fits))

-- the reply to a creation of a segment of no item
segment_told : {Lacks : Type 0} (ty : RefType) (items : List ℕ) (segments : List SegmentValue) (reply : Reply)
    (segments' : List SegmentValue) → items ≡ [] → (Lacks → ⊥)
    → CreatesSegment Lacks ty items segments reply segments' → IsNotOutOfMemory reply
segment_told ty items segments reply segments' none has (inl lacks) = absurd (has lacks.2)
segment_told ty items segments reply segments' none has (inr (result, fits, adds)) =
    entry_told (λ x. x) replied.Segment result segments reply segments'
    (segment_error_told ty items result none fits) adds

-- the error of a write to a memory isn't lack of memory
write_error_told : (x : MemoryValue) (offset : ℕ) (source : List ℕ) (result : Result (Unit {0}) MemoryError)
    (x' : MemoryValue) → WritesMemory x offset source result x'
    → IsNotOutOfMemory (reply_of (λ _. replied.Done) replied.Memory result)
write_error_told x offset source (Ok done) x' writes = tt
write_error_told x offset source (Err error) x' writes = rw writes.0 tt

-- the reply to a call that sets a register
takes_told : (given : Option (Result RawVal TrapCode)) (old : Option RawVal) (dst : ℕ) (registers : List RawVal)
    (reply : Reply) (registers' : List RawVal) → SetsAt given old dst registers reply registers'
    → IsNotOutOfMemory reply
takes_told (Some given) None dst registers reply registers' takes = rw takes.0 tt
takes_told (Some (Err trap)) (Some old) dst registers reply registers' takes = rw takes.0 tt
takes_told given old dst registers reply registers' takes = rw takes.0 tt

-- the reply to a call that sets an element
set_told : (index : ℕ) (value : TypedRawRef) (x : TableValue) (result : Result (Unit {0}) TableError) (x' : TableValue)
    → SetsTable index value x result x' → IsNotOutOfMemory (reply_of (λ _. replied.Done) replied.Table result)
set_told index value x result x' sets = on_test (same_type x.ty.element value.ty) _ _ sets
    (λ raw. on_live (overwrite x.elements index (value.raw ∷ [])) _ _ raw
    (λ outside. rw outside.0 tt) (λ elements found set. rw set.0 tt)) (λ other. rw other.0 tt)

-- a change needs no memory
abbrev ChangeHas : State → Change → Type 0
ChangeHas s (SegmentMade ty items) = (items ≡ []) × HasSlot s Segments
ChangeHas s (DataMade bytes) = (bytes ≡ []) × HasSlot s DataSegments
ChangeHas s (GlobalMade global) = HasSlot s Globals
ChangeHas s change = Unit {0}

-- the reply to each change
change_told : (s : State) (reply : Reply) (s' : State) (change : Change) → ChangeHas s change
    → HasChange change s reply s' → IsNotOutOfMemory reply
change_told s reply s' (BytesWritten k offset bytes) has c = on_live (live_at s.memories k) _ _ c.effect
    (λ missing. rw missing.0 tt) (λ x is h. rw h.1.2 (write_error_told x offset bytes h.1.0 h.0 h.1.1))
change_told s reply s' (BytesStored k a None) has c = rw c.effect.0 tt
change_told s reply s' (BytesStored k a (Some stored)) has c = on_live (live_at s.memories k) _ _ c.effect
    (λ missing. rw missing.0 tt)
    (λ x is h. rw h.1.2 (result_told h.1.0 (λ _. replied.Done) replied.Trap (λ done. tt) (λ trap is. tt)))
change_told s reply s' (RegisterSet dst given) has c =
    takes_told given (slice_get s.registers dst) dst s.registers reply c.part c.effect
change_told s reply s' (MemoryDropped k) has c = on_live (live_at s.memories k) _ _ c.effect
    (λ missing. rw missing.0 tt) (λ x found h. rw h.0 tt)
change_told s reply s' (TableDropped k) has c = on_live (live_at s.tables k) _ _ c.effect
    (λ missing. rw missing.0 tt) (λ x found h. rw h.0 tt)
change_told s reply s' (ElementSet k index value) has c = on_live (live_at s.tables k) _ _ c.effect
    (λ missing. rw missing.0 tt) (λ x is h. rw h.1.2 (set_told index value x h.1.0 h.0 h.1.1))
change_told s reply s' (SegmentMade ty items) has c =
    segment_told ty items s.segments reply c.part has.0 (λ lacks. omega (arith, has.1, lacks)) c.effect
change_told s reply s' (ItemsDropped k) has c = on_live (slice_get s.segments k) _ _ c.effect
    (λ missing. rw missing.0 tt) (λ x is h. rw h.1.0 tt)
change_told s reply s' (DataMade bytes) has c = added_told bytes s.data_segments reply c.part
    (⊎_elim (λ some. omega (arith, ap length has.0, some)) (λ lacks. omega (arith, has.1, lacks))) c.effect
change_told s reply s' (DataDropped k) has c = on_live (slice_get s.data_segments k) _ _ c.effect
    (λ missing. rw missing.0 tt) (λ x is h. rw h.1.0 tt)
change_told s reply s' (GlobalMade global) has c =
    added_told global s.globals reply c.part (λ lacks. omega (arith, has, lacks)) c.effect
change_told s reply s' (GlobalSet k value) has c = on_live (slice_get s.globals k) _ _ c.effect
    (λ missing. rw missing.0 tt)
    (λ x is h. rw h.1.2 (result_told h.1.0 (λ _. replied.Done) replied.Global (λ done. tt) (λ error is. tt)))

-- ---- effects

-- an effect needs no memory
abbrev EffectHas : State → Effect → Type 0
EffectHas s (Told reply) = IsNotOutOfMemory reply
EffectHas s (BytesRead k offset len) = len ≡ 0
EffectHas s (Changed change) = ChangeHas s change
EffectHas s (MemoryMade ty) = ⊥
EffectHas s (LentMemoryMade ty) = HasSlot s Memories
EffectHas s (MemoryGrown k pages) = IsInRegion s.memories k
EffectHas s (TableMade ty init) = ⊥
EffectHas s (TableGrown k n init) = (n ≡ 0) ⊎ HasElementsAt s.tables k n
EffectHas s effect = Unit {0}

-- for what is reserved: a fact, or one of a live value, is one or the other of it
none_or_live : {X P : Type 0} (Fact : X → Type 0) (o : Option X) → P ⊎ MatchOption o (Unit {0}) Fact
    → MatchOption o (Unit {0}) (λ x. P ⊎ Fact x)
none_or_live Fact None has = tt
none_or_live Fact (Some x) has = has

-- the effect of a call that needs no memory needs none
effect_has : (s : State) (call : Call) → NeedsNoMemory s call → EffectHas s (effect_of s call)
effect_has s GetFuel needs =
    option_told s.meter.left (λ left. replied.Number left) (replied.Fuel FuelError.FuelMeteringDisabled) (λ left. tt) tt
effect_has s (Load op k ptr offset) needs = option_told (live_at s.memories k) _ replied.NoSuch
    (λ x. result_told (loaded_raw op x.bytes (ptr + offset)) replied.Value replied.Trap (λ value. tt) (λ trap is. tt)) tt
effect_has s (GetElement k index) needs = option_told (live_at s.tables k) _ replied.NoSuch (λ x. tt) tt
effect_has s (GetGlobal k) needs = option_told (slice_get s.globals k) _ replied.NoSuch (λ x. tt) tt
effect_has s (GetRegister a) needs = option_told (slice_get s.registers a) _ replied.NoSuch (λ x. tt) tt
effect_has s (Test op a) needs =
    option_told (option_map (tested_raw op) (vector_at s.registers a)) _ replied.NoSuch (λ x. tt) tt
effect_has s (Extract op a) needs =
    option_told (option_map (extracted_raw op) (vector_at s.registers a)) _ replied.NoSuch (λ x. tt) tt
effect_has s call needs = needs

module _ {S : Type 0} (rules : Rules S) (w : World S) (turn : Turn) (w' : World S) where
  -- the reply to a call that sets the fuel
  set_fuel_told : (on : Bool)
      → turn.reply ≡ (if on then replied.Done else replied.Fuel FuelError.FuelMeteringDisabled)
      → IsNotOutOfMemory turn.reply
  set_fuel_told true is = rw is tt
  set_fuel_told false is = rw is tt

  -- the reply to a growth of a table by nothing, or by what is reserved
  table_growth_told : (n : ℕ) (init : TypedRawRef) (s s' : MeteredValue TableValue S) → (n ≡ 0) ⊎ HasElements n s.value
      → (result : Result ℕ TableError) (charge : ℕ) → GrowsTableCharging rules n init s result charge s'
      → IsNotOutOfMemory (reply_of replied.Number replied.Table result)
  table_growth_told n init s s' has result charge grows = on_test (same_type s.value.ty.element init.ty) _ _ grows
      (⊎_elim (λ grown. rw grown.answered tt)
      (λ grown. rw grown.answered (⊎_elim (λ none. absurd (omega (arith, none, grown.some)))
      (λ there. attempt_told replied.Table (table.growth_of s.value n init.raw)
      (tested (IsOther replied.Table) _ TableError.GrowOutOfBounds tt) (table_told s.value n init.raw there) s.meter
      replied.Number (λ size. tt) (size_of s.value) grown.outcome grown.attempt.may_end) has)))
      (λ other. rw other.0 tt)

  -- the reply in a turn with each effect
  effect_told : (effect : Effect) → EffectHas w.state effect → HasEffect rules effect w (outcome_of turn) w'
      → IsNotOutOfMemory turn.reply
  effect_told (Told reply) has step = rw step.effect has
  effect_told (BytesRead k offset len) has step = on_live (live_at w.state.memories k) _ _ step.effect
      (λ missing. rw missing tt) (λ x found h. read_told (drop offset x.bytes) _ turn.reply (rw has at h))
  effect_told (FuelSet fuel) has step = set_fuel_told (is_some w.state.meter.left) step.effect.0
  effect_told (Changed change) has step = change_told w.state turn.reply step.machine change has step.effect
  effect_told (LentMemoryMade ty) has step = on_live w.state.spare _ _ step.effect (λ none. rw none.0 tt)
      (λ region found h. creation_told rules region ty w.state.memories w.limiter turn.reply step.part.slots step.limiter
      (λ is. let lacks : LacksSlot w.state.reserved.memories w.state.memories = rw is at step.room in
      omega (arith, has, lacks)) h.0)
  effect_told (MemoryGrown k pages) has step =
      on_live (live_at w.state.memories k) _ _ (both_live (live_at w.state.memories k) _ _ _ _ has step.effect)
      (λ missing. rw missing.1.0 tt) (λ x found h. rw h.1.3 (grown_told rules pages _ h.0 _ _ _ h.1.2))
  effect_told (TableGrown k n init) has step = on_live (live_at w.state.tables k) _ _
      (both_live (live_at w.state.tables k) _ _ _ _ (none_or_live (HasElements n) (live_at w.state.tables k) has) step.effect)
      (λ missing. rw missing.1.0 tt) (λ x found h. rw h.1.3 (table_growth_told n init _ _ h.0 _ _ h.1.2))
  effect_told (RangeWritten (TableWritten k source dst len)) has step =
      range_told replied.Table k (write_of source dst len) (elements_told source dst len) _ _ _ _ step.effect
  effect_told (RangeWritten (MemoryWritten k source dst len)) has step =
      range_told replied.Memory k (byte_write_of source dst len) (bytes_told source dst len) _ _ _ _ step.effect
  effect_told effect has step = absurd has

-- the reply to a call that needs no memory doesn't say out of memory
pub reserved_calls_succeed : {S : Type 0} (rules : Rules S) → ReservedCallsSucceed rules
reserved_calls_succeed rules w turn w' step needs = effect_told rules w turn w' (effect_of w.state turn.call)
    (effect_has w.state turn.call needs) step

-- ---- what stays reserved

-- an effect that needs no memory takes none
takes_none : (s : State) (effect : Effect) → EffectHas s effect → TakesMemory effect → ⊥
takes_none s (MemoryMade ty) has takes = has
takes_none s (TableMade ty init) has takes = has
takes_none s effect has takes = takes

-- a change of one part leaves how many slots are reserved
change_reserves : (s : State) (reply : Reply) (s' : State) (change : Change) → HasChange change s reply s'
    → s'.reserved ≡ s.reserved
change_reserves s reply s' (DataMade bytes) c = rw c.after refl
change_reserves s reply s' change c = rw c.after refl

module _ {S : Type 0} (rules : Rules S) (w : World S) (turn : Turn) (w' : World S) where
  -- an effect leaves how many slots are reserved
  effect_reserves : (effect : Effect) → HasEffect rules effect w (outcome_of turn) w'
      → w'.state.reserved ≡ w.state.reserved
  effect_reserves (FuelSet fuel) step = rw (step.after, step.effect.1) refl
  effect_reserves (Changed change) step =
      rw step.after (change_reserves w.state turn.reply step.machine change step.effect)
  effect_reserves (RangeWritten (TableWritten k source dst len)) step = rw step.after refl
  effect_reserves effect step = rw step.after refl

  -- what is reserved at an index stays so where no memory is needed
  still_reserved : (effect : Effect) → EffectHas w.state effect → HasEffect rules effect w (outcome_of turn) w'
      → (location : Location) → IsReservedIn location (content_at location w.state)
      → IsReservedIn location (content_at location w'.state)
  still_reserved effect has step location = stays_reserved effect location (takes_none w.state effect has) _ _
      (effect_locations rules w turn w' effect step location).0

-- ---- runs

-- what a call needs in a state, it needs in a later one, where memories stay in their regions and tables reserved
needs_later : (s s' : State) → ((k : ℕ) → IsInRegion s.memories k → IsInRegion s'.memories k)
    → ((k : ℕ) → IsReservedTable s.tables k → IsReservedTable s'.tables k) → (call : Call) → NeedsOnlySlot s call
    → NeedsOnlySlot s' call
needs_later s s' lent full (GrowMemory k pages) needs = lent k needs
needs_later s s' lent full (GrowTable k n init) (inl none) = inl none
needs_later s s' lent full (GrowTable k n init) (inr needs) = inr (full k needs)
needs_later s s' lent full call needs = needs

-- the first index of a kind that slots are reserved for
abbrev first_of : SlotKind → Location
first_of Memories = MemoryAt 0
first_of Segments = SegmentAt 0
first_of DataSegments = DataAt 0
first_of Globals = GlobalAt 0

-- as many of a kind that slots are reserved for were made as there are of the kind of its first index
made_at : (s : State) (kind : SlotKind) → made_of s kind ≡ count_at (first_of kind) s
made_at s Memories = refl
made_at s kind = refl

-- the slots that the first of calls takes, and those of the others
slots_of_first : (kind : SlotKind) (call : Call) (calls : List Call) → count_by (takes_slot kind) (call ∷ calls)
    ≡ cond (takes_slot kind call) 1 0 + count_by (takes_slot kind) calls
slots_of_first kind call calls = sum_by-cons (λ c. cond (takes_slot kind c) 1 0) call calls

-- a slot is free for the first of calls, if it takes one
first_slot : (s : State) (kind : SlotKind) (call : Call) (calls : List Call) → takes_slot kind call ≡ true
    → HasSlots s (call ∷ calls) kind → HasSlot s kind
first_slot s kind call calls is fits =
    omega (arith, slots_of_first kind call calls, ap {B = ℕ} (λ b. cond b 1 0) is, fits)

-- the first call needs no memory where it needs only a slot
with_slot : (s : State) (call : Call) (calls : List Call) → IsReservedFor s (call ∷ calls) → NeedsOnlySlot s call
    → NeedsNoMemory s call
with_slot s (NewLentMemory ty) calls r needs = first_slot s Memories (NewLentMemory ty) calls refl (r.enough Memories)
with_slot s (GrowTable k n init) calls r (inl none) = inl none
with_slot s (GrowTable k n init) calls r (inr full) =
    inr (on_live_too (live_at s.tables k) _ _ _ _ (λ missing. missing) (λ x most. inr most) full)
with_slot s (NewSegment ty items) calls r needs =
    (needs, first_slot s Segments (NewSegment ty items) calls refl (r.enough Segments))
with_slot s (NewData bytes) calls r needs =
    (needs, first_slot s DataSegments (NewData bytes) calls refl (r.enough DataSegments))
with_slot s (NewGlobal value ty) calls r needs = first_slot s Globals (NewGlobal value ty) calls refl (r.enough Globals)
with_slot s call calls r needs = needs

-- the first of calls for which enough was reserved needs no memory
first_needs : (s : State) (call : Call) (calls : List Call) → IsReservedFor s (call ∷ calls) → NeedsNoMemory s call
first_needs s call calls r = with_slot s call calls r (All-head (NeedsOnlySlot s) call calls r.needs)

-- an effect that takes no other memory takes the slots that its call does
takes_slots : (s : State) (kind : SlotKind) (call : Call) → (TakesMemory (effect_of s call) → ⊥)
    → cond (takes_slot kind call) 1 0 ≡ made_in (effect_of s call) (first_of kind)
takes_slots s Memories (NewMemory ty) none = absurd (none tt)
takes_slots s Memories (NewLentMemory ty) none = refl
takes_slots s Segments (NewSegment ty items) none = refl
takes_slots s DataSegments (NewData bytes) none = refl
takes_slots s Globals (NewGlobal value ty) none = refl
takes_slots s kind call none = refl

-- the slots of the other calls are left where the first takes its own
slots_left : {S : Type 0} (rules : Rules S) (w : World S) (turn : Turn) (v : World S) (calls : List Call)
    → EffectHas w.state (effect_of w.state turn.call) → Step rules w turn v → (kind : SlotKind)
    → HasSlots w.state (turn.call ∷ calls) kind → HasSlots v.state calls kind
slots_left rules w turn v calls has step kind fits =
    let effect = effect_of w.state turn.call in
    let slots = takes_slots w.state kind turn.call (takes_none w.state effect has) in
    let few = (effect_locations rules w turn v effect step (first_of kind)).1 in
    let same = ap (λ counts. slots_for counts kind) (effect_reserves rules w turn v effect step) in
    let before = made_at w.state kind in
    omega (arith, slots_of_first kind turn.call calls, slots, few, same, fits, before, made_at v.state kind)

module _ {S : Type 0} (rules : Rules S) where
  -- what is left is reserved for the other calls
  reserved_next : (w : World S) (turn : Turn) (v : World S) (calls : List Call) → Step rules w turn v
      → IsReservedFor w.state (turn.call ∷ calls) → IsReservedFor v.state calls
  reserved_next w turn v calls step r =
      let has = effect_has w.state turn.call (first_needs w.state turn.call calls r) in
      record {
        needs = All-weaker (NeedsOnlySlot w.state) (NeedsOnlySlot v.state) (needs_later w.state v.state
            (λ k. still_reserved rules w turn v (effect_of w.state turn.call) has step (MemoryAt k))
            (λ k. still_reserved rules w turn v (effect_of w.state turn.call) has step (TableAt k))) calls
            (All-tail (NeedsOnlySlot w.state) turn.call calls r.needs);
        enough = λ kind. slots_left rules w turn v calls has step kind (r.enough kind);
      }

  module _ (rest : List Call) where
    -- no turn of the first calls is out of memory, and what is left is reserved for the others
    turns_told : (w : World S) (turns : List Turn) (w' : World S) → IsReservedFor w.state (map Turn.call turns ++ rest)
        → Run rules w turns w' → All IsNotOutOfMemory (map Turn.reply turns) × IsReservedFor w'.state rest
    turns_told w [] w' r ran = (All-nil IsNotOutOfMemory, rw ran r)
    turns_told w (turn ∷ turns) w' r (v, step, ran) =
        let calls = map Turn.call turns ++ rest in
        let told = reserved_calls_succeed rules w turn v step (first_needs w.state turn.call calls r) in
        let others = turns_told v turns w' (reserved_next w turn v calls step r) ran in
        (All-cons IsNotOutOfMemory turn.reply (map Turn.reply turns) told others.0, others.1)

    -- no reply to the first of calls for which enough was reserved says out of memory, and what is left is reserved for
    -- the others
    pub front_told : (calls : List Call) (w : World S) (replies : List Reply) (w' : World S)
        → IsReservedFor w.state (calls ++ rest) → IsRunOf rules calls w replies w'
        → All IsNotOutOfMemory replies × IsReservedFor w'.state rest
    front_told calls w replies w' r (turns, made, told, ran) =
        let both = turns_told w turns w' (rw made r) ran in (rw told at both.0, both.1)

  -- no reply to calls for which enough was reserved says out of memory
  pub reserved_runs_succeed : ReservedRunsSucceed rules
  reserved_runs_succeed calls w replies w' r ran = (front_told [] calls w replies w' (rw (append-nil calls) r) ran).0

-- ---- what is reserved beside runs

-- where more slots are reserved, of each kind there is what there was, and there are slots for that and the more
kind_reserved : (s : State) (more : SlotCounts) (kind : SlotKind) → (made_of (with_reserved s more) kind ≡ made_of s kind)
    × (slots_for (with_reserved s more).reserved kind
    ≡ max (slots_for s.reserved kind) (made_of s kind + slots_for more kind))
kind_reserved s more Memories = (refl, refl)
kind_reserved s more kind = (refl, refl)

-- the calls find their slots of a kind: in what is reserved, or in what is reserved in addition
abbrev FindSlots : State → SlotCounts → List Call → SlotKind → Type 0
FindSlots s more calls kind = HasSlots s calls kind ⊎ (count_by (takes_slot kind) calls ≤ slots_for more kind)

-- slots that calls find are there once more slots are reserved
slots_found : (s : State) (more : SlotCounts) (calls : List Call) (kind : SlotKind) → FindSlots s more calls kind
    → HasSlots (with_reserved s more) calls kind
slots_found s more calls kind (inl has) =
    let is = kind_reserved s more kind in grind (arith, has, is.0, is.1)
slots_found s more calls kind (inr fits) =
    let is = kind_reserved s more kind in grind (arith, fits, is.0, is.1)

-- a machine has reserved what calls need if more slots are reserved on it, and these find theirs of each kind
with_more_slots : (s : State) (more : SlotCounts) (calls : List Call) → All (NeedsOnlySlot s) calls
    → ((kind : SlotKind) → FindSlots s more calls kind) → IsReservedFor (with_reserved s more) calls
with_more_slots s more calls needs finds = record {
  needs = All-weaker (NeedsOnlySlot s) (NeedsOnlySlot (with_reserved s more))
      (needs_later s (with_reserved s more) (λ k holds. holds) (λ k holds. holds)) calls needs;
  enough = λ kind. slots_found s more calls kind (finds kind);
}

-- where more slots are reserved, what was reserved is so
pub more_reserved : (s : State) (more : SlotCounts) (calls : List Call) → IsReservedFor s calls
    → IsReservedFor (with_reserved s more) calls
more_reserved s more calls r = with_more_slots s more calls r.needs (λ kind. inl (r.enough kind))

-- with so many more slots a machine has reserved what calls need for which they are enough
pub slots_suffice : SlotsSuffice
slots_suffice s more calls fits = with_more_slots s more calls fits.needs (λ kind. inr (fits.enough kind))

-- a table for which so many elements are reserved stays reserved up to its maximum
more_elements : (n : ℕ) (x x' : TableValue) → x' ≡ with_elements_reserved x n → IsReservedToMaximum x
    → IsReservedToMaximum x'
more_elements n x x' is full =
    rw is (on_live_too x.ty.maximum _ _ _ _ (λ none. none) (λ m most. omega (arith, most)) full)

-- where elements of a table are reserved, what was reserved is so
pub elements_stay_reserved : (s : State) (table elements : ℕ) (reply : Reply) (s' : State) (calls : List Call)
    → ReservesElementsAt table elements s.tables reply s'.tables → s' ≡ with_tables s s'.tables
    → IsReservedFor s calls → IsReservedFor s' calls
elements_stay_reserved s table elements reply s' calls reserves rest r =
    subst (λ t. IsReservedFor t calls) (sym rest) (record {
      needs = All-weaker (NeedsOnlySlot s) (NeedsOnlySlot (with_tables s s'.tables))
          (needs_later s (with_tables s s'.tables) (λ k holds. holds)
          (λ k full. ⊎_elim (λ same. subst (IsReservedIn (TableAt k)) (sym same) full) (λ keeps. keeps full)
          (slot_changed (λ i x x'. IsReservedIn (TableAt i) x → IsReservedIn (TableAt i) x') table s.tables reply s'.tables _
          (λ x x' h here. ⊎_elim (λ done. more_elements elements x x' done.1 here)
          (λ refused. subst IsReservedToMaximum (sym refused.2) here) h) reserves k).0)) calls r.needs;
      enough = r.enough;
    })
