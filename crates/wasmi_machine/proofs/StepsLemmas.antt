-- What holds of each change of one part of the state: a refusal leaves the state, two changes by one call are one, and
-- the meter, the sizes and validity stay.
use Rattle.std.proofs.Common.{List, [], ap, arith, length, map, refl, sym, ℕ, ◌∙◌, ◌≡◌, Option, Result, Ok, Err, Some, length-set}
use Rattle.wasmi_machine.proofs.Common.{All, All-set, slice_get, slice_set, IsNotOutOfMemory, NothingGrows, AddsItem, ChangesPart, DropsContents, State, with_data_segments, with_globals, with_memories, with_registers, with_segments, with_tables, byte_count, sizes, slot_count, IsValid, IsValidSegment, BytesStored, BytesWritten, Change, DataDropped, DataMade, ElementSet, GlobalMade, GlobalSet, ItemsDropped, MemoryDropped, RegisterSet, SegmentMade, TableDropped, HasChange, Reply, Slot, IsValidMemory, MemoryValue, SegmentValue, dropped, IsValidTable, TableValue, size_of, SetsAt}
use Rattle.wasmi_machine.proofs.MemoryEffectsLemmas.{vector_store_facts, write_facts}
use Rattle.wasmi_machine.proofs.ValueEffectsLemmas.{global_facts, segment_facts}
use Rattle.wasmi_machine.proofs.EffectLemmas.{AllValid, EffectFacts, KeepsSlots, drop_facts, found_facts, room_facts, settled_facts}
use Rattle.wasmi_machine.proofs.SlotsLemmas.{set_read}
use Rattle.wasmi_machine.proofs.TableEffectsLemmas.{set_facts}
use Rattle.wasmi_machine.proofs.TotalLemmas.{each_kind}
use Rattle.wasmi_machine.specs.Laws.{IsRefusal}
use Rattle.wasmi_raw.specs.declared.raw.RawVal.{RawVal}
use Rattle.wasmi_types.specs.declared.trap.TrapCode.{TrapCode}

-- what holds of a change of one part: so for the state, whose meter, sizes and validity stay
pub record ChangeFacts (s : State) (Becomes : Reply → State → Type 0) : Type 0 where
  pub back : (reply : Reply) (s' : State) → IsRefusal reply → Becomes reply s' → s' ≡ s
  pub same : (reply reply' : Reply) (s' s'' : State) → IsNotOutOfMemory reply → IsNotOutOfMemory reply'
      → Becomes reply s' → Becomes reply' s'' → (reply ≡ reply') × (s' ≡ s'')
  pub meter : (reply : Reply) (s' : State) → Becomes reply s' → s'.meter ≡ s.meter
  pub still : (reply : Reply) (s' : State) → Becomes reply s' → NothingGrows (sizes s) (sizes s')
  pub valid : (reply : Reply) (s' : State) → IsValid s → Becomes reply s' → IsValid s'

-- a part of a state, and what a change of it has to keep
pub record PartOf (s : State) {A : Type 0} (with_part : A → State) (old : A) (Keeps : A → Type 0) : Type 0 where
  pub whole : with_part old ≡ s
  pub meter : (part : A) → (with_part part).meter ≡ s.meter
  pub still : (part : A) → Keeps part → NothingGrows (sizes s) (sizes (with_part part))
  pub valid : (part : A) → Keeps part → IsValid s → IsValid (with_part part)

module _ {s : State} {A : Type 0} {with_part : A → State} {old : A} {Keeps : A → Type 0}
    {Effect : Reply → A → Type 0} where
  -- what holds of an effect holds of the change of the part
  change_of : PartOf s with_part old Keeps → EffectFacts Effect old Keeps → ChangeFacts s (ChangesPart with_part Effect)
  change_of part facts = record {
    back = λ reply s' refused c. c.after ∙ ap with_part (facts.back reply c.part refused c.effect) ∙ part.whole;
    same = λ reply reply' s' s'' has has' c c'.
        let both = facts.same reply reply' c.part c'.part has has' c.effect c'.effect in
        (both.0, c.after ∙ ap with_part both.1 ∙ sym c'.after);
    meter = λ reply s' c. rw c.after (part.meter c.part);
    still = λ reply s' c kind. rw c.after (part.still c.part (facts.keeps reply c.part c.effect) kind);
    valid = λ reply s' v c. rw c.after (part.valid c.part (facts.keeps reply c.part c.effect) v);
  }

-- what a change of memories has to keep
abbrev pub KeepsMemories : State → List (Slot MemoryValue) → Type 0
KeepsMemories s slots = KeepsSlots byte_count IsValidMemory s.memories slots

-- what a change of tables has to keep
abbrev pub KeepsTables : State → List (Slot TableValue) → Type 0
KeepsTables s slots = KeepsSlots size_of IsValidTable s.tables slots

-- what a change of element segments has to keep
abbrev KeepsSegments : State → List SegmentValue → Type 0
KeepsSegments s segments = All IsValidSegment s.segments → All IsValidSegment segments

-- what a change of registers has to keep
abbrev KeepsRegisters : State → List RawVal → Type 0
KeepsRegisters s registers = length registers ≡ length s.registers

-- a state is valid, if each of its parts is where those of another one are
pub valid_by : (s s' : State) → (AllValid IsValidMemory s.memories → AllValid IsValidMemory s'.memories)
    → (AllValid IsValidTable s.tables → AllValid IsValidTable s'.tables)
    → (All IsValidSegment s.segments → All IsValidSegment s'.segments)
    → (length s.registers ≡ 16 → length s'.registers ≡ 16) → IsValid s → IsValid s'
valid_by s s' memories tables segments registers v = record {
  memories = memories v.memories;
  tables = tables v.tables;
  segments = segments v.segments;
  registers = registers v.registers;
}

-- the parts of a state
module _ (s : State) where
  -- the memories
  pub the_memories : PartOf s (with_memories s) s.memories (KeepsMemories s)
  the_memories = record {
    whole = refl;
    meter = λ part. refl;
    still = λ part keeps. each_kind (λ kind. sizes (with_memories s part) kind ≡ sizes s kind) keeps.0 refl;
    valid = λ part keeps. valid_by s (with_memories s part) keeps.1 (λ v. v) (λ v. v) (λ v. v);
  }

  -- the tables
  pub the_tables : PartOf s (with_tables s) s.tables (KeepsTables s)
  the_tables = record {
    whole = refl;
    meter = λ part. refl;
    still = λ part keeps. each_kind (λ kind. sizes (with_tables s part) kind ≡ sizes s kind) refl keeps.0;
    valid = λ part keeps. valid_by s (with_tables s part) (λ v. v) keeps.1 (λ v. v) (λ v. v);
  }

  -- a part that is neither the memories, the tables nor the meter
  unsized : {A : Type 0} {with_part : A → State} {old : A} {Keeps : A → Type 0} → with_part old ≡ s
      → ((part : A) → ((with_part part).memories ≡ s.memories) × ((with_part part).tables ≡ s.tables)
      × ((with_part part).meter ≡ s.meter))
      → ((part : A) → Keeps part → IsValid s → IsValid (with_part part)) → PartOf s with_part old Keeps
  unsized {with_part = with_part} whole same valid = record {
    whole = whole;
    meter = λ part. (same part).2;
    still = λ part keeps. each_kind (λ kind. sizes (with_part part) kind ≡ sizes s kind)
        (ap (map (slot_count byte_count)) (same part).0) (ap (map (slot_count size_of)) (same part).1);
    valid = valid;
  }

  -- the element segments
  the_segments : PartOf s (with_segments s) s.segments (KeepsSegments s)
  the_segments = unsized refl (λ part. (refl, refl, refl)) (λ part keeps. valid_by s _ (λ v. v) (λ v. v) keeps (λ v. v))

  -- the data segments
  the_data_segments : PartOf s (with_data_segments s) s.data_segments (λ segments. Unit {0})
  the_data_segments =
      unsized refl (λ part. (refl, refl, refl)) (λ part keeps. valid_by s _ (λ v. v) (λ v. v) (λ v. v) (λ v. v))

  -- the globals
  the_globals : PartOf s (with_globals s) s.globals (λ globals. Unit {0})
  the_globals =
      unsized refl (λ part. (refl, refl, refl)) (λ part keeps. valid_by s _ (λ v. v) (λ v. v) (λ v. v) (λ v. v))

  -- the registers
  the_registers : PartOf s (with_registers s) s.registers (KeepsRegisters s)
  the_registers =
      unsized refl (λ part. (refl, refl, refl)) (λ part keeps. valid_by s _ (λ v. v) (λ v. v) (λ v. v) (λ v. keeps ∙ v))

-- the facts of a change that adds an item to a part of the state, which is valid whatever it is
addition_facts : {X : Type 0} (Lacks : Type 0) (x : X) (items : List X)
    → EffectFacts (AddsItem Lacks x items) items (λ after. Unit {0})
addition_facts Lacks x items = room_facts tt (settled_facts (λ refused. absurd refused) tt)

-- the facts of a change that drops what an item has
contents_facts : {X : Type 0} (without : X → X) (k : ℕ) (items : List X) (Keeps : List X → Type 0) → Keeps items
    → ((x : X) → Keeps (slice_set items k (without x))) → EffectFacts (DropsContents without k items) items Keeps
contents_facts without k items Keeps keeps kept = found_facts (set_read items k)
    (λ reply refused x x' c. absurd (rw c.0 at refused))
    (λ x reply reply' x' x'' c c'. (c.0 ∙ sym c'.0, c.1 ∙ sym c'.1)) keeps
    (λ x found reply x' c. rw c.1 (kept x))

-- the facts of a change of the registers, of which one takes what it is given
takes_facts : (given : Option (Result RawVal TrapCode)) (old : Option RawVal) (dst : ℕ) (registers : List RawVal)
    → EffectFacts (SetsAt given old dst registers) registers (λ registers'. length registers' ≡ length registers)
takes_facts (Some (Ok value)) (Some old) dst registers =
    settled_facts (λ refused. absurd refused) (length-set registers dst value)
takes_facts (Some (Err trap)) (Some old) dst registers = settled_facts (λ refused. refl) refl
takes_facts given old dst registers = settled_facts (λ refused. refl) refl

-- the facts of a change of one part
pub change_facts : (s : State) (change : Change) → ChangeFacts s (HasChange change s)
change_facts s (BytesWritten k offset bytes) = change_of (the_memories s) (write_facts k offset bytes s.memories)
change_facts s (BytesStored k a stored) = change_of (the_memories s) (vector_store_facts k a stored s.memories)
change_facts s (RegisterSet dst given) =
    change_of (the_registers s) (takes_facts given (slice_get s.registers dst) dst s.registers)
change_facts s (MemoryDropped k) = change_of (the_memories s) (drop_facts byte_count IsValidMemory k s.memories)
change_facts s (TableDropped k) = change_of (the_tables s) (drop_facts size_of IsValidTable k s.tables)
change_facts s (ElementSet k index value) = change_of (the_tables s) (set_facts k index value s.tables)
change_facts s (SegmentMade ty items) = change_of (the_segments s) (segment_facts _ ty items s.segments)
change_facts s (ItemsDropped k) = change_of (the_segments s) (contents_facts dropped k s.segments (KeepsSegments s)
    (λ valid. valid) (λ x. All-set IsValidSegment s.segments k (dropped x) (omega arith)))
change_facts s (DataMade bytes) = change_of (the_data_segments s) (addition_facts _ bytes s.data_segments)
change_facts s (DataDropped k) = change_of (the_data_segments s)
    (contents_facts (λ bytes. []) k s.data_segments (λ segments. Unit {0}) tt (λ bytes. tt))
change_facts s (GlobalMade global) = change_of (the_globals s) (addition_facts _ global s.globals)
change_facts s (GlobalSet k value) = change_of (the_globals s) (global_facts k value s.globals)
