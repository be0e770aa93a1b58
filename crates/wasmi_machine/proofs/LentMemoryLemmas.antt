-- What holds of memories in lent regions as of memories of their own: creations, growths, writes, effects and runs; and
-- a growth there that has all it needs succeeds or is denied.
use Rattle.std.proofs.Common.{Err, List, None, Ok, Option, Result, Some, [], ap, arith, inl, inr, length, map, refl, subst, sym, true, ℕ, ◌*◌, ◌+◌, ◌∙◌, ◌∷◌, ◌≡◌, ◌≤◌, ◌⊎◌}
use Rattle.wasmi_machine.proofs.Common.{nat_tests, length-map, map-set, map_push, none-some, slice_get-map, option_and_then, option_map, slice_get, slice_set, ByteSource, OfBytes, WritesMemoryAt, byte_write_of, bytes_appended, bytes_in, load_reply, StoresVectorAt, lane_loaded, vector_at, vector_loaded, AddsEntry, ChangesAt, Creates, IfNoRoom, IsNoSuch, MeteredSlots, MatchOption, WritesAt, WritesRangeAt, Run, BytesRead, BytesStored, BytesWritten, Change, Changed, Effect, FuelSet, LacksSlot, LentMemoryMade, MemoryDropped, MemoryGrown, MemoryMade, RangeWritten, RegisterSet, Step, TableGrown, MemoryWritten, TableWritten, TableMade, HasChange, HasEffect, Told, effect_of, State, live_at, live_value, byte_count, Turn, World, Call, CopyMemory, Load, LoadLane, NewLentMemory, NewMemory, VectorLoad, Reply, Slot, Gone, Live, AttemptOutcome, Met, MeteredValue, optional_due, answer_of, covers, with_value, Rules, Meter, MemoryError, on_test_too, grows_too, memory_growth, IsDenied, metered, metered_value, LacksMemory, Lent, Owned, Room, fits_room, GrowsMemory, GrowsMemoryCharging, MakesMemory, MemoryValue, MemoryWrite, WritesMemory, bytes_write, new_memory, pages_of, MemoryTypeValue, in_bounds, minimum_bytes, page_bytes, outcome_of}
use Rattle.std.specs.Result.{result_map_both}
use Rattle.wasmi_machine.proofs.EffectLemmas.{both_live, no_room_too, on_live_too}
use Rattle.wasmi_machine.proofs.MemoryEffectsLemmas.{lacks_owned}
use Rattle.wasmi_machine.proofs.RangeLemmas.{WritesBytes, source_writes}
use Rattle.wasmi_machine.proofs.StoreLemmas.{acts_too, asks_too, changes_too, unasked_too}
use Rattle.wasmi_machine.specs.LentMemory.{FitsRegions, FitsRoom, RunInRegions, owned, owned_memory, owned_slot, owned_world, unlent_world}
use Rattle.wasmi_store.proofs.DenialLemmas.{answers, attempts, met_or_denied}
use Rattle.wasmi_store.specs.Write.{Writes, item_price, write_charge}
use Rattle.wasmi_store.specs.Memory as memory
use Rattle.wasmi_machine.specs.declared.calls.Reply.TheVariants as replied

-- a growth that its room has place for has no cause of refusal after the question
fits_easy : (pages : ℕ) (x : MemoryValue) → FitsRoom pages x → (memory.growth_of x pages).early ≡ None
    → (memory.growth_of x pages).late ≡ None
fits_easy pages x (inl fits) early = rw fits
fits_easy pages x (inr outside) early = absurd (none-some MemoryError.OutOfBoundsGrowth (sym (rw outside at early)))

-- a memory that grows within its room grows as one of its own
grows_owned : {S : Type 0} (rules : Rules S) (pages : ℕ) (s : MeteredValue MemoryValue S)
    (result : Result ℕ MemoryError) (charge : ℕ) (s' : MeteredValue MemoryValue S) → FitsRoom pages s.value
    → GrowsMemoryCharging rules pages s result charge s'
    → GrowsMemoryCharging rules pages (with_value s (owned_memory s.value)) result charge
    (with_value s' (owned_memory s'.value))
grows_owned {S} rules pages s result charge s' fits =
    grows_too (memory_growth pages s.value) (memory.growth_of (owned_memory s.value) pages)
    (ap (λ (t : MeteredValue MemoryValue S). with_value t (owned_memory t.value))) (λ outcome answered a. (
      answered ∙ answered_eased outcome,
      attempts (memory.growth_of s.value pages) None (LacksMemory Owned) (lacks_owned s.value.room) owned_memory rules s
          s' outcome charge (fits_easy pages s.value fits) a,
    ))
  where
    answered_eased : (outcome : AttemptOutcome MemoryError)
        → answer_of (memory.growth_of s.value pages) (pages_of s.value) outcome ≡ answer_of
        (memory.growth_of (owned_memory s.value) pages) (pages_of s.value) outcome
    answered_eased Met = refl
    answered_eased outcome = refl

-- the live memory in a slot, as one of its own
owned_value : (slot : Option (Slot MemoryValue))
    → option_and_then live_value (option_map owned_slot slot) ≡ option_map owned_memory
    (option_and_then live_value slot)
owned_value (Some (Live x)) = refl
owned_value slot = refl

-- the live memory of an index, as one of its own
owned_at : (slots : List (Slot MemoryValue)) (k : ℕ)
    → live_at (map owned_slot slots) k ≡ option_map owned_memory (live_at slots k)
owned_at slots k = ap (option_and_then live_value) (slice_get-map owned_slot slots k) ∙ owned_value (slice_get slots k)

-- a fact of a live memory, or of none, from one of the memory in its room
owned_fact : (o : Option MemoryValue) (Missing Missing' : Type 0) (Fact Fact' : MemoryValue → Type 0)
    → MatchOption o Missing Fact → (Missing → Missing') → ((x : MemoryValue) → Fact x → Fact' (owned_memory x))
    → MatchOption (option_map owned_memory o) Missing' Fact'
owned_fact None Missing Missing' Fact Fact' h missing live = missing h
owned_fact (Some x) Missing Missing' Fact Fact' h missing live = live x h

-- Effects on memories.
module _ (slots : List (Slot MemoryValue)) (k : ℕ) where
  -- a fact of the live memory of an index, as one of its own
  on_owned : (Missing Missing' : Type 0) (Fact Fact' : MemoryValue → Type 0)
      → MatchOption (live_at slots k) Missing Fact → (Missing → Missing') → ((x : MemoryValue) → Fact x → Fact' (owned_memory x))
      → MatchOption (live_at (map owned_slot slots) k) Missing' Fact'
  on_owned Missing Missing' Fact Fact' h missing live =
      rw (owned_at slots k) (owned_fact (live_at slots k) Missing Missing' Fact Fact' h missing live)

  -- a slot is set where the memories are owned
  put_owned : (slots' : List (Slot MemoryValue)) (slot : Slot MemoryValue) → slots' ≡ slice_set slots k slot
      → map owned_slot slots' ≡ slice_set (map owned_slot slots) k (owned_slot slot)
  put_owned slots' slot put = ap (map owned_slot) put ∙ map-set owned_slot slots k slot

  module _ (reply : Reply) (slots' : List (Slot MemoryValue)) where
    -- a change of a memory is one of an owned memory
    changes_owned : (Change : MemoryValue → MemoryValue → Type 0)
        → ((x x' : MemoryValue) → Change x x' → Change (owned_memory x) (owned_memory x'))
        → ChangesAt k slots reply slots' Change
        → ChangesAt k (map owned_slot slots) reply (map owned_slot slots') Change
    changes_owned Change change changes = on_owned _ _ _ _ changes
        (λ missing. (missing.0, ap (map owned_slot) missing.1))
        (λ x h. (owned_memory h.0, change x h.0 h.1, put_owned slots' (Live h.0) h.2))

    -- a write to a memory is one to an owned memory
    writes_owned : (offset : ℕ) (source : List ℕ) → WritesMemoryAt k offset source slots reply slots'
        → WritesMemoryAt k offset source (map owned_slot slots) reply (map owned_slot slots')
    writes_owned offset source writes = changes_owned _ (λ x x' c. (c.0, written x x' c.0 c.1, c.2)) writes
      where
        written : (x x' : MemoryValue) (result : Result (Unit {0}) MemoryError) → WritesMemory x offset source result x'
            → WritesMemory (owned_memory x) offset source result (owned_memory x')
        written x x' (Ok _) h = (h.0, h.1, refl)
        written x x' (Err error) h = (h.0, h.1, ap owned_memory h.2)

    -- a store of bytes that may be missing is one to an owned memory
    vector_stores_owned : (a : ℕ) (stored : Option (List ℕ)) → StoresVectorAt k a stored slots reply slots'
        → StoresVectorAt k a stored (map owned_slot slots) reply (map owned_slot slots')
    vector_stores_owned a None stores = (stores.0, ap (map owned_slot) stores.1)
    vector_stores_owned a (Some stored) stores = changes_owned _ (λ x x' c. (c.0, (c.1.0, c.1.1, refl), c.2)) stores

  -- what is made of the live memory of an index, or of none, whatever its room is
  made_owned : {A : Type 0} (made : Option MemoryValue → A)
      → ((x : MemoryValue) → made (Some x) ≡ made (Some (owned_memory x)))
      → made (live_at slots k) ≡ made (live_at (map owned_slot slots) k)
  made_owned made same = by_value (live_at slots k) ∙ ap made (sym (owned_at slots k))
    where
      by_value : (o : Option MemoryValue) → made o ≡ made (option_map owned_memory o)
      by_value None = refl
      by_value (Some x) = same x

-- a write over the bytes of a memory is one over those of an owned memory
bytes_owned : (x : MemoryValue) (m : Option Meter) (result : Result (Unit {0}) MemoryError) (x' : MemoryValue)
    (m' : Option Meter) (paid : ℕ) (early : Option MemoryError) (written : Option (List ℕ))
    → Writes (bytes_write x early written paid) (metered x m) result (metered x' m')
    → Writes (bytes_write (owned_memory x) early written paid) (metered (owned_memory x) m) result
    (metered (owned_memory x') m')
bytes_owned x m result x' m' paid None (Some bytes) writes =
    let own = λ (s : MeteredValue MemoryValue (Unit {0})). metered (owned_memory s.value) s.meter in
    on_test_too (covers m (optional_due m (Some (item_price 1 paid)))) _ _ _ _ (λ h. (h.0, ap own h.1))
    (λ h. (h.0, ap own h.1)) writes
bytes_owned x m result x' m' paid early written writes = (
  writes.0,
  ap (λ (s : MeteredValue MemoryValue (Unit {0})). metered (owned_memory s.value) s.meter) writes.1,
)

-- a write has the same charge over an owned memory
charge_owned : (len : ℕ) (write : MemoryValue → MemoryWrite) (w : WritesBytes len write) (x : MemoryValue)
    (m : Option Meter) (result : Result (Unit {0}) MemoryError) → write_charge (write x) (metered x m) result
    ≡ write_charge (write (owned_memory x)) (metered (owned_memory x) m) result
charge_owned len write w x m (Ok done) = rw (w.is x, w.is (owned_memory x))
charge_owned len write w x m (Err error) = refl

-- a write over a range of the memory of an index is one over that of an owned memory
memory_write_owned : (source : ByteSource) (k dst len : ℕ) (s s' : MeteredSlots MemoryValue) (reply : Reply)
    (charge : ℕ) → WritesRangeAt replied.Memory k (byte_write_of source dst len) s reply charge s'
    → WritesRangeAt replied.Memory k (byte_write_of source dst len)
    (with_value s (map owned_slot s.value)) reply charge (with_value s' (map owned_slot s'.value))
memory_write_owned source k dst len s s' reply charge writes =
    on_live_too (byte_write_of source dst len) _ _ _ _ (λ h. missing h.1) (λ write h. at_index write h.0 h.1)
    (both_live (byte_write_of source dst len) _ _ _ _ (source_writes source dst len) writes)
  where
    -- where the index or the source names nothing
    missing : IsNoSuch s reply charge s'
        → IsNoSuch (with_value s (map owned_slot s.value)) reply charge (with_value s' (map owned_slot s'.value))
    missing h = (h.0, h.1, rw h.2)

    -- at an index, by what is written to each memory
    at_index : (write : MemoryValue → MemoryWrite) → WritesBytes len write
        → WritesAt replied.Memory k write s reply charge s'
        → WritesAt replied.Memory k write (with_value s (map owned_slot s.value)) reply charge
        (with_value s' (map owned_slot s'.value))
    at_index write w writes = on_owned s.value k _ _ _ _ writes missing (λ x h. (
      h.0,
      owned_memory h.1,
      record {
        writes = rw (w.is (owned_memory x)) (bytes_owned x s.meter h.0 h.1 s'.meter len (w.early x.ty)
            (w.written x.bytes) (rw (w.is x) at h.2.writes));
        charged = h.2.charged ∙ charge_owned len write w x s.meter h.0;
      },
      h.3,
      put_owned s.value k s'.value (Live h.1) h.4,
    ))

-- a memory that is added in a new slot is added as one of its own
appends_owned : (result : Result MemoryValue MemoryError) (slots : List (Slot MemoryValue)) (reply : Reply)
    (slots' : List (Slot MemoryValue)) → AddsEntry Live replied.Memory result slots reply slots'
    → AddsEntry Live replied.Memory (result_map_both owned_memory (λ error. error) result) (map owned_slot slots) reply
    (map owned_slot slots')
appends_owned (Ok x) slots reply slots' appends = (
  appends.0 ∙ ap replied.Made (sym (length-map slots owned_slot)),
  ap (map owned_slot) appends.1
      ∙ map_push owned_slot slots (Live x),
)
appends_owned (Err error) slots reply slots' appends = (appends.0, ap (map owned_slot) appends.1)

-- a memory is made in a new slot as one of its own
creates_owned : {S : Type 0} (rules : Rules S) (room : Room) (ty : MemoryTypeValue) (slots : List (Slot MemoryValue))
    (l : S) (reply : Reply) (slots' : List (Slot MemoryValue)) (l' : S) → fits_room room (minimum_bytes ty) ≡ true
    → Creates replied.Memory (MakesMemory rules room ty) slots l reply slots' l'
    → Creates replied.Memory (MakesMemory rules Owned ty) (map owned_slot slots) l reply (map owned_slot slots') l'
creates_owned rules room ty slots l reply slots' l' fits (inl none) = inl (none.0, ap (map owned_slot) none.1, none.2)
creates_owned rules room ty slots l reply slots' l' fits (inr (result, (outcome, attempt, answered), appends)) =
    let e = memory.creation_of room ty in
    inr (
      result_map_both owned_memory (λ error. error) result,
      (
        outcome,
        attempts e None (LacksMemory Owned) (lacks_owned room) (λ none. none) rules _ _ outcome 0
            (λ early. rw fits) attempt,
        ap (result_map_both owned_memory (λ error. error)) answered
            ∙ answers e None (LacksMemory Owned) (lacks_owned room) (λ none. none) owned_memory (new_memory room ty) outcome,
      ),
      appends_owned result slots reply slots' appends,
    )

-- an effect that fits the regions, as its call does
abbrev EffectFits : State → Effect → Type 0
EffectFits s (LentMemoryMade ty) = ⊥
EffectFits s (MemoryGrown k pages) = MatchOption (live_at s.memories k) (Unit {0}) (FitsRoom pages)
EffectFits s effect = Unit {0}

-- an effect fits the regions where its call does
effect_fits : (s : State) (call : Call) → FitsRegions s call → EffectFits s (effect_of s call)
effect_fits s (NewLentMemory ty) fits = fits
effect_fits s call fits = fits

-- a call has the same effect on both machines
effect_kept : (s : State) (call : Call) → effect_of s call ≡ effect_of (owned s) call
effect_kept s (Load op k ptr offset) = ap Told (made_owned s.memories k (load_reply op (ptr + offset)) (λ x. refl))
effect_kept s (CopyMemory k dst j src len) =
    ap (λ bytes. RangeWritten (MemoryWritten k (OfBytes bytes src) dst len)) (made_owned s.memories j bytes_in (λ x. refl))
effect_kept s (VectorLoad op dst k ptr offset) = ap (λ given. Changed (RegisterSet dst given))
    (made_owned s.memories k (vector_loaded op (ptr + offset)) (λ x. refl))
effect_kept s (LoadLane op dst a k ptr offset) = ap (λ given. Changed (RegisterSet dst given))
    (made_owned s.memories k (lane_loaded op (ptr + offset) (vector_at s.registers a)) (λ x. refl))
effect_kept s call = refl

-- a change of one part is the same change with such memories
change_owned : (s : State) (reply : Reply) (s' : State) (change : Change) → HasChange change s reply s'
    → HasChange change (owned s) reply (owned s')
change_owned s reply s' (BytesWritten k offset bytes) c = record {
  part = map owned_slot c.part;
  effect = writes_owned s.memories k reply c.part offset bytes c.effect;
  after = ap owned c.after;
}
change_owned s reply s' (BytesStored k a stored) c = record {
  part = map owned_slot c.part;
  effect = vector_stores_owned s.memories k reply c.part a stored c.effect;
  after = ap owned c.after;
}
change_owned s reply s' (MemoryDropped k) c = record {
  part = map owned_slot c.part;
  effect = on_owned s.memories k _ _ _ _ c.effect (λ missing. (missing.0, ap (map owned_slot) missing.1))
      (λ x h. (h.0, put_owned s.memories k c.part (Gone (byte_count x)) h.1));
  after = ap owned c.after;
}
change_owned s reply s' change c = record { part = c.part; effect = c.effect; after = ap owned c.after }

-- where a slot for a memory may lack, it may on both machines
slots_used : (s : State) (reply : Reply) → IfNoRoom reply (LacksSlot s.reserved.memories s.memories)
    → IfNoRoom reply (LacksSlot s.reserved.memories (map owned_slot s.memories))
slots_used s reply = no_room_too reply _ _ (λ used. omega (arith, length-map s.memories owned_slot))

module _ {S : Type 0} (rules : Rules S) (w : World S) (turn : Turn) (w' : World S) where
  -- an effect that fits does the same where the memories are owned
  effect_owned : (effect : Effect) → EffectFits w.state effect → HasEffect rules effect w (outcome_of turn) w'
      → HasEffect rules effect (owned_world w) (outcome_of turn) (owned_world w')
  effect_owned (Told told) fits step =
      record { free = step.free; effect = step.effect; after = ap owned_world step.after }
  effect_owned (BytesRead k offset len) fits step = record {
    free = step.free;
    effect = on_owned w.state.memories k _ _ _ _ step.effect (λ missing. missing) (λ x h. h);
    after = ap owned_world step.after;
  }
  effect_owned (FuelSet fuel) fits step =
      changes_too step (owned step.machine) (step.effect.0, ap owned step.effect.1) (ap owned_world step.after)
  effect_owned (Changed change) fits step =
      changes_too step (owned step.machine) (change_owned w.state turn.reply step.machine change step.effect)
      (ap owned_world step.after)
  effect_owned (MemoryMade ty) fits step = asks_too step (map owned_slot step.part) step.limiter
      (creates_owned rules Owned ty w.state.memories w.limiter turn.reply step.part step.limiter refl step.effect)
      (slots_used w.state turn.reply step.room) (ap owned_world step.after)
  effect_owned (LentMemoryMade ty) fits step = absurd fits
  effect_owned (MemoryGrown k pages) fits step = acts_too step (map owned_slot step.part) step.meter step.limiter
      (on_owned w.state.memories k _ _ _ _ (both_live (live_at w.state.memories k) _ _ _ _ fits step.effect)
      (λ missing. (
        missing.1.0,
        missing.1.1,
        ap (λ (s : MeteredValue (List (Slot MemoryValue)) S). with_value s (map owned_slot s.value)) missing.1.2,
      ))
      (λ x h. (
        h.1.0,
        owned_memory h.1.1,
        grows_owned rules pages (metered_value x (Some w.state.meter) w.limiter) h.1.0 turn.charge
            (metered_value h.1.1 (Some step.meter) step.limiter) h.0 h.1.2,
        h.1.3,
        put_owned w.state.memories k step.part (Live h.1.1) h.1.4,
      ))) (made_owned w.state.memories k (λ o. bytes_appended o pages turn.reply) (λ x. refl))
      (ap owned_world step.after)
  effect_owned (TableMade ty init) fits step =
      asks_too step step.part step.limiter step.effect step.room (ap owned_world step.after)
  effect_owned (TableGrown k n init) fits step =
      acts_too step step.part step.meter step.limiter step.effect refl (ap owned_world step.after)
  effect_owned (RangeWritten (TableWritten k source dst len)) fits step =
      unasked_too step step.part step.meter step.effect (ap owned_world step.after)
  effect_owned (RangeWritten (MemoryWritten k source dst len)) fits step =
      unasked_too step (map owned_slot step.part) step.meter
      (memory_write_owned source k dst len (metered w.state.memories (Some w.state.meter))
      (metered step.part (Some step.meter)) turn.reply turn.charge step.effect) (ap owned_world step.after)

-- a run within the regions is a run with memories of their own
pub run_is_owned : {S : Type 0} (rules : Rules S) (w : World S) (turns : List Turn) (w' : World S)
    → RunInRegions rules w turns w' → Run rules (owned_world w) turns (owned_world w')
run_is_owned rules w [] w' ran = ap owned_world ran
run_is_owned rules w (turn ∷ turns) w' (v, (fits, step), ran) =
    let taken = effect_owned rules w turn v (effect_of w.state turn.call) (effect_fits w.state turn.call fits) step in
    (owned_world v, rw (effect_kept w.state turn.call) at taken, run_is_owned rules v turns w' ran)

-- a creation in the spare region is one of a memory of its own
pub creation_is_owned : {S : Type 0} (rules : Rules S) (w : World S) (turn : Turn) (w' : World S)
    (ty : MemoryTypeValue) (region : List ℕ) → turn.call ≡ NewLentMemory ty → w.state.spare ≡ Some region
    → minimum_bytes ty ≤ length region
    → Step rules w turn w' → Step rules (unlent_world w) (record turn { call = NewMemory ty }) (unlent_world w')
creation_is_owned rules w turn w' ty region called spare fits step =
    let lent : HasEffect rules (LentMemoryMade ty) w (outcome_of turn) w' = subst
    (λ c. HasEffect rules (effect_of w.state c) w (outcome_of turn) w') called step in
    let creates = simp spare at lent.effect in
    record {
      free = lent.free;
      part = map owned_slot lent.part.slots;
      limiter = lent.limiter;
      effect = creates_owned rules (Lent region) ty w.state.memories w.limiter turn.reply lent.part.slots lent.limiter
          (grind (arith, nat_tests, fits)) creates.0;
      room = slots_used w.state turn.reply lent.room;
      after = ap unlent_world lent.after;
    }

-- a growth of a lent memory with all that it needs has succeeded or was denied
pub lent_growth_succeeds : {S : Type 0} (rules : Rules S) (pages : ℕ) (s : MeteredValue MemoryValue S) (rest : List ℕ)
    → s.value.room ≡ Lent rest → in_bounds s.value.ty (pages_of s.value + pages) ≡ true
    → fits_room s.value.room (pages * page_bytes s.value.ty.page) ≡ true
    → covers s.meter (optional_due s.meter (memory.growth_of s.value pages).price) ≡ true
    → (result : Result ℕ MemoryError) (s' : MeteredValue MemoryValue S) → GrowsMemory rules pages s result s'
    → (result ≡ Ok (pages_of s.value)) ⊎ IsDenied rules (memory.growth_of s.value pages).question s.limiter s'.limiter
lent_growth_succeeds rules pages s rest lent inside fits payable result s' (charge, inl none) = inl none.answered
lent_growth_succeeds rules pages s rest lent inside fits payable result s' (charge, inr some) =
    met_or_denied rules (memory.growth_of s.value pages) s.meter
    (record {
      early = rw inside;
      late = rw fits;
      paid = payable;
      room = λ cause lacks. rw lent at lacks;
    }) (pages_of s.value) s.limiter s'.limiter some.outcome some.attempt.may_end some.attempt.follows result
    some.answered
