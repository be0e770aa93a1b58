-- What holds of each write over a range of a memory or a table: it is refused, and nothing has changed, or it is paid
-- for. What each source of one writes and costs; copies from one index to another, for which what is at one is taken
-- out and put back.
use Rattle.std.proofs.Common.{List, None, Option, Result, Some, ap, inl, inr, refl, replicate, sym, true, false, Bool, ℕ, arith, ◌∙◌, ◌≡◌, ◌≤◌, ◌⊎◌, length, ◌≢◌}
use Rattle.wasmi_machine.proofs.Common.{nat_tests, none-some, same_Some, set-set, option_and_then, option_map, nat_eq, nat_le, slice_set, if◌then◌else◌, at, overwrite, MemoryError, TableError, CustomFuelCosts, MeteredValue, optional_due, Meter, amount_left, cut_product, meter_after, metered, IsValidMemory, MemoryTypeValue, MemoryValue, MemoryWrite, bytes_write, IsValidTable, TableValue, element_price, elements_write, size_of, with_elements, Reply, Slot, Live, Gone, IsNotOutOfMemory, ActsMeteredUnasked, IsNoSuch, MeteredSlots, MatchOption, WritesAt, WritesFrom, WritesRangeAt, item_bytes, reply_of, NothingGrows, writing_charge, IsValid, State, Turn, World, byte_count, live_at, sizes, with_memories, with_tables, live_value, HasRangeWrite, MemoryWritten, RangeWrite, TableWritten, ByteSource, OfByte, OfBytes, byte_write_of, bytes_in, memory_copy_of, OfReference, OfSegment, OfTable, Source, write_of, outcome_of}
use Rattle.wasmi_meter.specs.declared.error.MemoryError.TheVariants as memory_error
use Rattle.wasmi_meter.specs.declared.error.TableError.TheVariants.{OutOfFuel}
use Rattle.wasmi_store.specs.Write.{MeteredWrite, WritesCharging, copied, filled, item_price}
use Rattle.wasmi_store.proofs.WriteLemmas.{PaidWrite, write_ends, writes_once}
use Rattle.wasmi_machine.specs.State.{IsRefusal}
use Rattle.wasmi_machine.proofs.EffectLemmas.{HasOneEnding, acts_same, on_both, on_live, on_live_too, slot_kept}
use Rattle.wasmi_machine.proofs.MemoryEffectsLemmas.{memory_as_long, with_bytes}
use Rattle.wasmi_machine.proofs.SlotsLemmas.{put_back, set_other, overwrite_length}
use Rattle.wasmi_machine.proofs.StepsLemmas.{KeepsMemories, KeepsTables, PartOf, the_memories, the_tables, valid_by}
use Rattle.wasmi_machine.proofs.TableEffectsLemmas.{table_as_long}
use Rattle.wasmi_machine.proofs.TotalLemmas.{each_kind}
use Rattle.wasmi_machine.specs.declared.calls.Reply.TheVariants as replied

-- ---- a write in a slot

-- two writes at an index, which may be missing, are one
pub range_once : {X E : Type 0} (refusal : E → Reply) (k : ℕ) (write : Option (X → MeteredWrite X E))
    (s : MeteredSlots X) → HasOneEnding (WritesRangeAt refusal k write s)
range_once {X = X} refusal k write s o o' a b =
    on_both write _ _ _ _ a b (λ h h'. (h.0 ∙ sym h'.0, h.1 ∙ sym h'.1, h.2 ∙ sym h'.2))
    (λ w h h'. acts_same {X = X} {S = Unit {0}} (WritesCharging w) (writes_once w) k
    (reply_of (λ _. replied.Done) refusal) s o o' h h')

-- what is written with what a source has, as a write that is there if the source is
pub range_from : {X Y E : Type 0} (refusal : E → Reply) (source : Option Y) (k : ℕ)
    (write : Y → X → MeteredWrite X E) (s : MeteredSlots X) (reply : Reply) (charge : ℕ) (s' : MeteredSlots X)
    → WritesFrom refusal source k write s reply charge s'
    → WritesRangeAt refusal k (option_map write source) s reply charge s'
range_from refusal None k write s reply charge s' writes = writes
range_from refusal (Some y) k write s reply charge s' writes = writes

-- what is copied of a memory is what is copied of its bytes
pub range_of_bytes : (source : Option MemoryValue) (k dst src len : ℕ) (s : MeteredSlots MemoryValue) (reply : Reply)
    (charge : ℕ) (s' : MeteredSlots MemoryValue)
    → WritesFrom replied.Memory source k (memory_copy_of dst src len) s reply charge s'
    → WritesRangeAt replied.Memory k (byte_write_of (OfBytes (bytes_in source) src) dst len) s reply charge s'
range_of_bytes None k dst src len s reply charge s' writes = writes
range_of_bytes (Some y) k dst src len s reply charge s' writes = writes

-- a copy into one index from another, for which what is at the first was taken out of its slot
module _ {X E : Type 0} (refusal : E → Reply) (write : X → X → MeteredWrite X E) (slots taken : List (Slot X))
    (into from : ℕ) (other : into ≢ from) (m : Option Meter) (x : X) (found : Some x ≡ live_at slots into)
    (is : taken ≡ slice_set slots into (Gone 0)) where
  -- what the other slot has
  beside : live_at slots from ≡ live_at taken from
  beside = rw is (sym (ap (option_and_then live_value) (set_other slots into from (Gone 0) other)))

  -- what is put back
  put : (x' : X) → slice_set taken into (Live x') ≡ slice_set slots into (Live x')
  put x' = rw is (set-set slots into (Gone 0) (Live x'))

  -- what was taken out is put back as it was, where there is no source
  pub put_without : None ≡ live_at taken from → WritesFrom refusal (live_at slots from) into write (metered slots m)
      replied.NoSuch 0 (metered (slice_set taken into (Live x)) m)
  put_without none =
      rw (beside ∙ sym none) (refl, refl, ap (λ l. metered l m) (put x ∙ put_back slots into x x (sym found) refl))

  -- what was taken out is put back with what was copied
  pub put_copied : (y : X) → Some y ≡ live_at taken from → (x' : X) (result : Result (Unit {0}) E) (charge : ℕ)
      (m' : Option Meter) → WritesCharging (write y) (metered x m) result charge (metered x' m')
      → WritesFrom refusal (live_at slots from) into write (metered slots m) (reply_of (λ _. replied.Done) refusal result)
      charge (metered (slice_set taken into (Live x')) m')
  put_copied y there x' result charge m' writes =
      rw (beside ∙ sym there, sym found) (result, x', writes, refl, put x')

-- ---- a write in a world

-- what a write keeps of a value, and what it costs and which error it has without so much fuel, whatever the value is
pub record IsRange {X E : Type 0} (Keeps : X → X → Type 0) (price : Option (CustomFuelCosts → ℕ)) (unpaid : ℕ → E)
    (write : X → MeteredWrite X E) : Type 0 where
  pub keeps : (x x' : X) → (write x).written ≡ Some x' → Keeps x x'
  pub priced : (x : X) → (write x).price ≡ price
  pub unpaid_is : (x : X) → (write x).unpaid ≡ unpaid

-- what a write keeps of a value, also where it is refused
pub value_kept : {X E : Type 0} (Keeps : X → X → Type 0) (write : X → MeteredWrite X E)
    → ((x x' : X) → (write x).written ≡ Some x' → Keeps x x') → ((x : X) → Keeps x x)
    → (s : MeteredValue X (Unit {0})) (result : Result (Unit {0}) E) (charge : ℕ) (s' : MeteredValue X (Unit {0}))
    → WritesCharging write s result charge s' → Keeps s.value s'.value
value_kept Keeps write keeps same s result charge s' writes =
    elim (write_ends write s result charge s' writes) [
      | inl r ↦ rw r.same (same s.value)
      | inr p ↦ rw p.after (keeps s.value p.value p.written)
    ]

-- what a write over a range has written, by its price: nothing, or the bytes of items that are all paid for
abbrev pub IsPriced : Option (CustomFuelCosts → ℕ) → ℕ → Type 0
IsPriced price written = (written ≡ 0)
    ⊎ ((n : ℕ) × (size : ℕ) × (price ≡ Some (item_price size n)) × (written ≡ cut_product n size))

-- a turn whose write is refused
pub record IsIdleTurn {S : Type 0} (w : World S) (turn : Turn) (w' : World S) : Type 0 where
  pub refused : IsRefusal turn.reply
  pub uncharged : turn.charge ≡ 0
  pub unwritten : turn.written ≡ 0
  pub same : w' ≡ w

-- a turn whose write is paid for
pub record IsPaidTurn {S : Type 0} (price : Option (CustomFuelCosts → ℕ)) (w : World S) (turn : Turn) (w' : World S)
    : Type 0 where
  pub done : turn.reply ≡ replied.Done
  pub charged : turn.charge ≡ optional_due (Some w.state.meter) price
  pub enough : turn.charge ≤ amount_left w.state.meter
  pub meter : w'.state.meter ≡ meter_after w.state.meter turn.charge
  pub limiter : w'.limiter ≡ w.limiter
  pub priced : IsPriced price turn.written
  pub still : NothingGrows (sizes w.state) (sizes w'.state)
  pub valid : IsValid w.state → IsValid w'.state

-- What holds of a write over a range, whether it is refused or paid for: a refusal leaves the world, it is charged for
-- what it writes, the limiter isn't reached, nothing grows, and a valid state stays valid.
pub record RangeFacts {S : Type 0} (price : Option (CustomFuelCosts → ℕ)) (w : World S) (turn : Turn)
    (w' : World S) : Type 0 where
  pub back : IsRefusal turn.reply → w' ≡ w
  pub charged : turn.charge ≡ writing_charge w.state.meter price turn.reply
  pub unasked : w'.limiter ≡ w.limiter
  pub still : NothingGrows (sizes w.state) (sizes w'.state)
  pub valid : IsValid w.state → IsValid w'.state

-- a write over a range of the value of an index, of which the part of a state has many
pub record RangeOf (s : State) (X E : Type 0) : Type 1 where
  pub refusal : E → Reply
  pub refuses : (error : E) → IsRefusal (refusal error)
  pub unpaid : ℕ → E
  pub with_part : List (Slot X) → State
  pub slots : List (Slot X)
  pub KeepsPart : List (Slot X) → Type 0
  pub part : PartOf s with_part slots KeepsPart
  pub KeepsValue : X → X → Type 0
  pub kept : (k : ℕ) (x x' : X) → live_at slots k ≡ Some x → KeepsValue x x'
      → KeepsPart (slice_set slots k (Live x'))

-- what a refused write over a range is charged
pub refused_writing : (m : Meter) (price : Option (CustomFuelCosts → ℕ)) (reply : Reply) → IsRefusal reply
    → writing_charge m price reply ≡ 0
refused_writing m price replied.Done refused = absurd refused
refused_writing m price reply refused = refl

-- a write over a range of no item has written no byte
no_item : (size n : ℕ) (reply : Reply) → n ≡ 0 → item_bytes size n reply ≡ 0
no_item size n replied.Done none = rw none (omega arith)
no_item size n (replied.Number number) none = rw none (omega arith)
no_item size n reply none = refl

-- a refused write over a range has written no byte
refused_bytes : (size n : ℕ) (reply : Reply) → IsRefusal reply → item_bytes size n reply ≡ 0
refused_bytes size n replied.Done refused = absurd refused
refused_bytes size n (replied.Number number) refused = absurd refused
refused_bytes size n reply refused = refl

module _ {S X E : Type 0} (w : World S) (r : RangeOf w.state X E) (price : Option (CustomFuelCosts → ℕ))
    (size n : ℕ) (paid : (price ≡ Some (item_price size n)) ⊎ (n ≡ 0)) (turn : Turn) (w' : World S) where
  -- what has become of the part, and of the meter
  abbrev Becomes : (k : ℕ) → Option (X → MeteredWrite X E) → Type 0
  Becomes k write = ActsMeteredUnasked w (outcome_of turn) w' r.slots r.with_part (WritesRangeAt r.refusal k write)
      (item_bytes size n)

  module _ (k : ℕ) (write : Option (X → MeteredWrite X E)) (step : Becomes k write) where
    -- a write that is refused leaves the world
    range_idle : IsRefusal turn.reply → turn.charge ≡ 0 → step.part ≡ r.slots → Some step.meter ≡ Some w.state.meter
        → IsIdleTurn w turn w'
    range_idle refused uncharged part meter =
        let whole = ap r.with_part part ∙ r.part.whole in
        let meters = same_Some step.meter w.state.meter meter in
        record {
          refused = refused;
          uncharged = uncharged;
          unwritten = step.wrote ∙ refused_bytes size n turn.reply refused;
          same = step.after
              ∙ (λ i. record w { state = record (whole i) { meter = meters i } });
        }

    -- a write for which an index or a source names nothing leaves the world
    range_missing : IsNoSuch (metered r.slots (Some w.state.meter)) turn.reply turn.charge
        (metered step.part (Some step.meter)) → IsIdleTurn w turn w'
    range_missing none = range_idle (rw none.0 tt) none.1 (ap (λ (s : MeteredSlots X). s.value) none.2)
        (ap (λ (s : MeteredSlots X). s.meter) none.2)

    module _ (v : X → MeteredWrite X E) (is : IsRange r.KeepsValue price r.unpaid v) where
      -- a write to the value of an index that is paid for
      range_paid : (x x' : X) (result : Result (Unit {0}) E) → live_at r.slots k ≡ Some x
          → turn.reply ≡ reply_of (λ _. replied.Done) r.refusal result → step.part ≡ slice_set r.slots k (Live x')
          → PaidWrite (v x) (metered x (Some w.state.meter)) result turn.charge (metered x' (Some step.meter))
          → IsPaidTurn price w turn w'
      range_paid x x' result found replies put p =
          let m = w.state.meter in
          let done = replies ∙ ap (reply_of (λ _. replied.Done) r.refusal) p.is in
          let part : step.part ≡ slice_set r.slots k (Live p.value) = put
          ∙ ap (λ (t : MeteredValue X (Unit {0})). slice_set r.slots k (Live t.value)) p.after in
          let keeps : r.KeepsPart step.part = rw part (r.kept k x p.value found (is.keeps x p.value p.written)) in
          let within : nat_le (optional_due (Some m) (v x).price) (amount_left m) ≡ true = p.enough in
          record {
            done = done;
            charged = p.charged ∙ ap (optional_due (Some m)) (is.priced x);
            enough = grind (arith, nat_tests, within, p.charged);
            meter = rw step.after (same_Some step.meter (meter_after m turn.charge)
                (ap (λ (t : MeteredValue X (Unit {0})). t.meter) p.after));
            limiter = rw step.after;
            priced = written_by done paid;
            still = λ kind. ap (λ (y : World S). sizes y.state kind) step.after
                ∙ each_kind (λ kind. sizes (record (r.with_part step.part) { meter = step.meter }) kind
                ≡ sizes (r.with_part step.part) kind) refl refl kind
                ∙ r.part.still step.part keeps kind;
            valid = λ valid. rw step.after (valid_by (r.with_part step.part) _ (λ v. v) (λ v. v) (λ v. v) (λ v. v)
                (r.part.valid step.part keeps valid));
          }
        where
          written_by : turn.reply ≡ replied.Done → (price ≡ Some (item_price size n)) ⊎ (n ≡ 0)
              → IsPriced price turn.written
          written_by done (inl priced) = inr (n, size, priced, step.wrote ∙ ap (item_bytes size n) done)
          written_by done (inr none) = inl (step.wrote ∙ no_item size n turn.reply none)

      -- a write at an index is refused, or it is paid for
      range_written : WritesAt r.refusal k v (metered r.slots (Some w.state.meter)) turn.reply turn.charge
          (metered step.part (Some step.meter)) → IsIdleTurn w turn w' ⊎ IsPaidTurn price w turn w'
      range_written writes = on_live (live_at r.slots k) _ _ writes (λ missing. inl (range_missing missing))
          (λ x found h. elim (write_ends v (metered x (Some w.state.meter)) h.0 turn.charge
          (metered h.1 (Some step.meter)) h.2) [
            | inl f ↦ inl (range_idle (rw (h.3, f.is) (r.refuses f.cause)) f.uncharged
                (h.4 ∙ put_back r.slots k x h.1 found (ap (λ (t : MeteredValue X (Unit {0})). t.value) f.same))
                (ap (λ (t : MeteredValue X (Unit {0})). t.meter) f.same))
            | inr p ↦ inr (range_paid x h.1 h.0 found h.3 h.4 p)
          ])

  -- a turn that writes over a range is refused, or it is paid for
  range_ends : (k : ℕ) (write : Option (X → MeteredWrite X E))
      → MatchOption write (Unit {0}) (IsRange r.KeepsValue price r.unpaid) → Becomes k write
      → IsIdleTurn w turn w' ⊎ IsPaidTurn price w turn w'
  range_ends k write is step = on_both write _ _ _ _ is step.effect
      (λ none missing. inl (range_missing k write step missing)) (range_written k write step)

-- ---- each write over a range

-- what a write over a range of a table keeps: the type and the size
abbrev pub KeepsTable : TableValue → TableValue → Type 0
KeepsTable x x' = (x'.ty ≡ x.ty) × (size_of x' ≡ size_of x)

-- the tables of a state, for a write over a range of one
abbrev table_range : (s : State) → RangeOf s TableValue TableError
table_range s = record {
  refusal = replied.Table;
  refuses = λ error. tt;
  unpaid = OutOfFuel;
  with_part = with_tables s;
  slots = s.tables;
  KeepsPart = KeepsTables s;
  part = the_tables s;
  KeepsValue = KeepsTable;
  kept = λ k x x' found keeps.
      slot_kept size_of IsValidTable s.tables k x x' found keeps.1 (table_as_long x x' keeps.0 keeps.1);
}

-- how many elements each source pays for
abbrev pub paid_from : Source → ℕ → Option ℕ
paid_from (OfSegment segment src) len = if nat_eq len 0 then None else Some len
paid_from source len = Some len

-- an initialization by no item is free
init_pays : (len : ℕ) (none : Bool) → nat_eq len 0 ≡ none → ((if none then None else Some len) ≡ Some len) ⊎ (len ≡ 0)
init_pays len true is = inr (grind (arith, nat_tests, is))
init_pays len false is = inl refl

-- a source pays for its elements, if there are some
source_pays : (source : Source) (len : ℕ)
    → (option_map element_price (paid_from source len) ≡ Some (item_price 4 len)) ⊎ (len ≡ 0)
source_pays (OfReference value) len = inl refl
source_pays (OfTable table src) len = inl refl
source_pays (OfSegment segment src) len = elim (init_pays len _ refl) [
  | inl some ↦ inl (ap (option_map element_price) some)
  | inr none ↦ inr none
]

-- what is written over the items of a value, as many, keeps what any items as many keep
items_kept : {X : Type 0} (many : X → ℕ) (put : X → List ℕ → X) (Keeps : X → X → Type 0)
    → ((x : X) (xs : List ℕ) → length xs ≡ many x → Keeps x (put x xs)) → (x : X) (written : Option (List ℕ)) (x' : X)
    → ((xs : List ℕ) → written ≡ Some xs → length xs ≡ many x) → option_map (put x) written ≡ Some x' → Keeps x x'
items_kept many put Keeps kept x None x' long some = absurd (none-some x' some)
items_kept many put Keeps kept x (Some xs) x' long some =
    rw (same_Some (put x xs) x' some) at (kept x xs (long xs refl))

-- items that are written over with a part are as many
part_long : (dst : ℕ) (part : Option (List ℕ)) (xs ys : List ℕ)
    → option_and_then (λ zs. overwrite xs dst zs) part ≡ Some ys → length ys ≡ length xs
part_long dst None xs ys is = absurd (none-some ys is)
part_long dst (Some part) xs ys is = overwrite_length xs part ys dst is

-- a write over elements with a part
part_range : (dst : ℕ) (part : Option (List ℕ)) (typed : TableValue → Bool) (outside : TableError) (paid : Option ℕ)
    → IsRange KeepsTable (option_map element_price paid) OutOfFuel
    (λ x. elements_write x (typed x) (option_and_then (λ ys. overwrite x.elements dst ys) part) outside paid)
part_range dst part typed outside paid = record {
  keeps = λ x x'. items_kept size_of with_elements KeepsTable (λ t elements long. (refl, long)) x _ x'
      (part_long dst part x.elements);
  priced = λ x. refl;
  unpaid_is = λ x. refl;
}

-- what a write over a range of a table with what a source has keeps and costs
pub source_range : (source : Source) (dst len : ℕ) → MatchOption (write_of source dst len) (Unit {0})
    (IsRange KeepsTable (option_map element_price (paid_from source len)) OutOfFuel)
source_range (OfReference value) dst len = part_range dst (Some (replicate len value.raw)) _ _ (Some len)
source_range (OfTable None src) dst len = tt
source_range (OfTable (Some y) src) dst len = part_range dst (at y.elements src len) _ _ (Some len)
source_range (OfSegment None src) dst len = tt
source_range (OfSegment (Some y) src) dst len =
    part_range dst (at y.items src len) _ _ (paid_from (OfSegment (Some y) src) len)

-- what a write over a range of a memory keeps: the type and the number of bytes
abbrev pub KeepsMemory : MemoryValue → MemoryValue → Type 0
KeepsMemory x x' = (x'.ty ≡ x.ty) × (byte_count x' ≡ byte_count x)

-- the memories of a state, for a write over a range of one
abbrev memory_range : (s : State) → RangeOf s MemoryValue MemoryError
memory_range s = record {
  refusal = replied.Memory;
  refuses = λ error. tt;
  unpaid = memory_error.OutOfFuel;
  with_part = with_memories s;
  slots = s.memories;
  KeepsPart = KeepsMemories s;
  part = the_memories s;
  KeepsValue = KeepsMemory;
  kept = λ k x x' found keeps.
      slot_kept byte_count IsValidMemory s.memories k x x' found keeps.1 (memory_as_long x x' keeps.0 keeps.1);
}

-- A write over so many bytes: what stands before it depends on the type of the memory, and isn't lack of memory;
-- what it writes depends on the bytes, and is as long.
pub record WritesBytes (len : ℕ) (write : MemoryValue → MemoryWrite) : Type 0 where
  pub early : MemoryTypeValue → Option MemoryError
  pub written : List ℕ → Option (List ℕ)
  pub is : (x : MemoryValue) → write x ≡ bytes_write x (early x.ty) (written x.bytes) len
  pub told : (ty : MemoryTypeValue) (cause : MemoryError) → early ty ≡ Some cause
      → IsNotOutOfMemory (replied.Memory cause)
  pub long : (bytes bytes' : List ℕ) → written bytes ≡ Some bytes' → length bytes' ≡ length bytes

-- a write over a range of a memory with what a source has is a write over bytes
pub source_writes : (source : ByteSource) (dst len : ℕ)
    → MatchOption (byte_write_of source dst len) (Unit {0}) (WritesBytes len)
source_writes (OfByte value) dst len = record {
  early = λ ty. None;
  written = λ bytes. filled bytes dst value len;
  is = λ x. refl;
  told = λ ty cause is. absurd (none-some cause is);
  long = part_long dst (Some (replicate len value));
}
source_writes (OfBytes None src) dst len = tt
source_writes (OfBytes (Some source) src) dst len = record {
  early = λ ty. None;
  written = λ bytes. copied bytes dst source src len;
  is = λ x. refl;
  told = λ ty cause is. absurd (none-some cause is);
  long = part_long dst (at source src len);
}

-- what a write over a range of a memory with what a source has keeps and costs
pub byte_range : (source : ByteSource) (dst len : ℕ) → MatchOption (byte_write_of source dst len) (Unit {0})
    (IsRange KeepsMemory (Some (item_price 1 len)) memory_error.OutOfFuel)
byte_range source dst len = on_live_too (byte_write_of source dst len) _ _ _ _ (λ missing. missing)
    (λ write w. record {
      keeps = λ x x' is. items_kept byte_count with_bytes KeepsMemory
          (λ y bytes long. (refl, long)) x (w.written x.bytes) x' (w.long x.bytes)
          (rw (w.is x) at is);
      priced = λ x. rw (w.is x);
      unpaid_is = λ x. rw (w.is x);
    }) (source_writes source dst len)

-- what a write over a range costs, if it costs anything
abbrev pub range_price : RangeWrite → Option (CustomFuelCosts → ℕ)
range_price (TableWritten k source dst len) = option_map element_price (paid_from source len)
range_price (MemoryWritten k source dst len) = Some (item_price 1 len)

-- a write over a range is refused, or it is paid for
pub range_facts : {S : Type 0} (w : World S) (write : RangeWrite) (turn : Turn) (w' : World S)
    → HasRangeWrite write w (outcome_of turn) w' → IsIdleTurn w turn w' ⊎ IsPaidTurn (range_price write) w turn w'
range_facts w (TableWritten k source dst len) turn w' step =
    range_ends w (table_range w.state) (option_map element_price (paid_from source len)) 4 len
    (source_pays source len) turn w' k (write_of source dst len) (source_range source dst len) step
range_facts w (MemoryWritten k source dst len) turn w' step =
    range_ends w (memory_range w.state) (Some (item_price 1 len)) 1 len (inl refl) turn w' k
    (byte_write_of source dst len) (byte_range source dst len) step

-- what holds of a write over a range holds of this one
pub range_holds : {S : Type 0} (w : World S) (write : RangeWrite) (turn : Turn) (w' : World S)
    → HasRangeWrite write w (outcome_of turn) w' → RangeFacts (range_price write) w turn w'
range_holds w write turn w' step = elim (range_facts w write turn w' step) [
  | inl idle ↦ record {
    back = λ refused. idle.same;
    charged = idle.uncharged ∙ sym (refused_writing w.state.meter (range_price write) turn.reply idle.refused);
    unasked = rw idle.same;
    still = λ kind. rw idle.same;
    valid = λ valid. rw idle.same valid;
  }
  | inr paid ↦ record {
    back = λ refused. absurd (rw paid.done at refused);
    charged = paid.charged ∙ ap (writing_charge w.state.meter (range_price write)) (sym paid.done);
    unasked = paid.limiter;
    still = paid.still;
    valid = paid.valid;
  }
]
