-- Turns whose calls are local and independent may be exchanged. What a local call does is an edit, which puts something
-- at one index at most: effects go by what is at indices, and edits at different indices may be exchanged.
use Rattle.std.proofs.Common.{Err, List, None, Ok, Option, Result, Some, [], ap, refl, set, subst, sym, ℕ, ◌∙◌, ◌∷◌, ◌≡◌}
use Rattle.wasmi_laws.proofs.Common.{changes_too, All-head, All-tail, set_comm, option_and_then, All, slice_get, slice_set, ChangesFound, ChangesPart, DropsAt, WritesMemoryAt, StoresVectorAt, SetsAt, SetsRegister, Run, BytesRead, BytesStored, BytesWritten, Change, Changed, DataDropped, DataMade, Effect, ElementSet, GlobalMade, GlobalSet, ItemsDropped, MemoryDropped, RegisterSet, SegmentMade, Step, TableDropped, HasChange, HasEffect, Told, effect_of, State, live_at, live_value, with_data_segments, with_globals, with_memories, with_registers, with_segments, with_tables, byte_count, Turn, outcome_of, World, SetsElementAt, DropsDataAt, DropsItemsAt, SetsGlobalAt, Call, Reply, Slot, Gone, Live, set_other, Content, DataAt, GlobalAt, IndependentTurnsSwap, IsIndependent, IsLocal, Location, MemoryAt, RegisterAt, SegmentAt, TableAt, changed_location, content_at, read_locations, Rules, RawVal, size_of, TrapCode}
use Rattle.wasmi_machine.proofs.EffectLemmas.{on_found}
use Rattle.wasmi_machine.specs.declared.calls.Call.TheVariants as call
use Rattle.wasmi_laws.proofs.LocationLemmas.{Part, changed_by, changed_in, changed_is, part_at}

-- what a call does to a state: nothing, or it puts something at an index
data Edit : Type 0 where
  Keep : Edit
  Put : (location : Location) → Content location → Edit

-- a state with something at an index
abbrev put_at : (location : Location) → Content location → State → State
put_at location x s = let p = part_at location in p.with_part s (slice_set (p.read s) p.index x)

-- a state after an edit
abbrev edited : Edit → State → State
edited Keep s = s
edited (Put location x) s = put_at location x s

-- an edit puts something at this index at most
abbrev IsEditAt : Option Location → Edit → Type 0
IsEditAt changed Keep = Unit {0}
IsEditAt changed (Put location x) = changed ≡ Some location

-- two states have the same at an index, if there is one
abbrev SameIn : Option Location → State → State → Type 0
SameIn changed s t = (location : Location) → changed ≡ Some location → content_at location t ≡ content_at location s

-- two states have the same at all of some indices
abbrev SameAll : List Location → State → State → Type 0
SameAll [] s t = Unit {0}
SameAll (location ∷ locations) s t = (content_at location t ≡ content_at location s) × SameAll locations s t

-- what two states have the same at some indices is the same the other way around
back_all : (locations : List Location) (s t : State) → SameAll locations s t → SameAll locations t s
back_all [] s t same = tt
back_all (location ∷ locations) s t (same, rest) = (sym same, back_all locations s t rest)

-- what is put at an index leaves another one
put_outside : (location : Location) (x : Content location) (other : Location) (s : State) → (location ≡ other → ⊥)
    → content_at other (put_at location x s) ≡ content_at other s
put_outside (MemoryAt k) x (MemoryAt j) s apart = set_other s.memories k j x (λ same. apart (ap MemoryAt same))
put_outside (TableAt k) x (TableAt j) s apart = set_other s.tables k j x (λ same. apart (ap TableAt same))
put_outside (SegmentAt k) x (SegmentAt j) s apart = set_other s.segments k j x (λ same. apart (ap SegmentAt same))
put_outside (DataAt k) x (DataAt j) s apart = set_other s.data_segments k j x (λ same. apart (ap DataAt same))
put_outside (GlobalAt k) x (GlobalAt j) s apart = set_other s.globals k j x (λ same. apart (ap GlobalAt same))
put_outside (RegisterAt k) x (RegisterAt j) s apart = set_other s.registers k j x (λ same. apart (ap RegisterAt same))
put_outside location x other s apart = refl

-- two items are set at different indices of one kind
twice : {X : Type 0} (At : ℕ → Location) (xs : List X) (k j : ℕ) (x y : X) → (At k ≡ At j → ⊥)
    → set (set xs j y) k x ≡ set (set xs k x) j y
twice At xs k j x y apart = set_comm xs j k y x (λ same. apart (ap At (sym same)))

-- two puts at different indices may be exchanged
puts_swap : (location other : Location) (x : Content location) (y : Content other) (s : State)
    → (location ≡ other → ⊥) → put_at location x (put_at other y s) ≡ put_at other y (put_at location x s)
puts_swap (MemoryAt k) (MemoryAt j) x y s apart = ap (with_memories s) (twice MemoryAt s.memories k j x y apart)
puts_swap (TableAt k) (TableAt j) x y s apart = ap (with_tables s) (twice TableAt s.tables k j x y apart)
puts_swap (SegmentAt k) (SegmentAt j) x y s apart = ap (with_segments s) (twice SegmentAt s.segments k j x y apart)
puts_swap (DataAt k) (DataAt j) x y s apart = ap (with_data_segments s) (twice DataAt s.data_segments k j x y apart)
puts_swap (GlobalAt k) (GlobalAt j) x y s apart = ap (with_globals s) (twice GlobalAt s.globals k j x y apart)
puts_swap (RegisterAt k) (RegisterAt j) x y s apart = ap (with_registers s) (twice RegisterAt s.registers k j x y apart)
puts_swap location other x y s apart = refl

-- two edits at different indices may be exchanged
edits_swap : (changed changed' : Option Location) (e f : Edit) (s : State) → IsEditAt changed e → IsEditAt changed' f
    → ((location : Location) → changed ≡ Some location → changed' ≡ Some location → ⊥)
    → edited e (edited f s) ≡ edited f (edited e s)
edits_swap changed changed' (Put location x) (Put other y) s here there apart =
    puts_swap location other x y s (λ same. apart location here (there ∙ ap Some (sym same)))
edits_swap changed changed' e f s here there apart = refl

-- an edit leaves what is at another index
edit_outside : (changed : Option Location) (e : Edit) (s : State) (location : Location) → IsEditAt changed e
    → (changed ≡ Some location → ⊥) → content_at location (edited e s) ≡ content_at location s
edit_outside changed Keep s location here apart = refl
edit_outside changed (Put other x) s location here apart =
    put_outside other x location s (λ same. apart (here ∙ ap Some same))

-- an edit leaves what is at some other indices
edit_leaves_all : (changed : Option Location) (locations : List Location) (e : Edit) (s : State) → IsEditAt changed e
    → All (λ location. changed ≡ Some location → ⊥) locations → SameAll locations s (edited e s)
edit_leaves_all changed [] e s here apart = tt
edit_leaves_all changed (location ∷ locations) e s here apart = (
  edit_outside changed e s location here (All-head (λ l. changed ≡ Some l → ⊥) location locations apart),
  edit_leaves_all changed locations e s here (All-tail (λ l. changed ≡ Some l → ⊥) location locations apart),
)

-- a list with an item at an index, if there is one to put
abbrev put_in : {X : Type 0} → ℕ → Option X → List X → List X
put_in k None xs = xs
put_in k (Some x) xs = slice_set xs k x

-- an effect on a list goes by what is at an index: on each list with the same there it puts the same
record ListMoves {X : Type 0} (k : ℕ) (Effect : List X → Reply → List X → Type 0) (xs : List X) (reply : Reply)
    (xs' : List X) : Type 0 where
  put : Option X
  after : xs' ≡ put_in k put xs
  too : (ys : List X) → slice_get ys k ≡ slice_get xs k → Effect ys reply (put_in k put ys)

module _ {X Y : Type 0} (k : ℕ) (look : Option Y → Option X) (back : X → Y) (Change : Reply → X → X → Type 0) where
  -- an effect that goes by what is at an index: a change of what is found there, of an item or of a live value
  abbrev Found : List Y → Reply → List Y → Type 0
  Found xs r xs' = ChangesFound (look (slice_get xs k)) (λ x. slice_set xs k (back x)) xs r xs' (Change r)

  -- a change goes by what is at the index, whatever that is
  found_moves : (items : List Y) (reply : Reply) (items' : List Y) → Found items reply items'
      → ListMoves k Found items reply items'
  found_moves items reply items' changes = on_found (look (slice_get items k)) _ _ changes
      (λ is h. record { put = None; after = h.1; too = λ ys same. rw (ap look same ∙ is) (h.0, refl) })
      (λ x is h. record { put = Some (back h.0); after = h.2; too = λ ys same. rw (ap look same ∙ is) (h.0, h.1, refl) })

-- a drop goes by what is at the index, by whether a live value is there
drop_moves : {X : Type 0} (count : X → ℕ) (k : ℕ) (slots : List (Slot X)) (reply : Reply) (slots' : List (Slot X))
    → DropsAt count k slots reply slots' → ListMoves k (DropsAt count k) slots reply slots'
drop_moves count k slots reply slots' drops = on_found (live_at slots k) _ _ drops
    (λ e h. record { put = None; after = h.1; too = λ t at. rw (ap (option_and_then live_value) at ∙ e) (h.0, refl) })
    (λ x is h. record {
      put = Some (Gone (count x));
      after = h.1;
      too = λ ys same. rw (ap (option_and_then live_value) same ∙ is) (h.0, refl);
    })

module _ (dst : ℕ) (registers : List RawVal) (reply : Reply) (registers' : List RawVal) where
  -- the setting of a register goes by what is at its index, by what it is given and what it had
  register_moves : (given : Option (Result RawVal TrapCode)) (old : Option RawVal) → slice_get registers dst ≡ old
      → SetsAt given old dst registers reply registers'
      → ListMoves dst (SetsRegister dst given) registers reply registers'
  register_moves None old is takes = record { put = None; after = takes.1; too = λ ys same. (takes.0, refl) }
  register_moves (Some (Ok value)) (Some old) is takes =
      record { put = Some value; after = takes.1; too = λ ys same. rw (same ∙ is) (takes.0, refl) }
  register_moves (Some given) None is takes =
      record { put = None; after = takes.1; too = λ ys same. rw (same ∙ is) (takes.0, refl) }
  register_moves (Some (Err trap)) (Some old) is takes =
      record { put = None; after = takes.1; too = λ ys same. rw (same ∙ is) (takes.0, refl) }

-- what is done to a state goes by what is at an index: each state with the same there is edited in the same way
record Moves (changed : Option Location) (Becomes : State → State → Type 0) (s s' : State) : Type 0 where
  edit : Edit
  here : IsEditAt changed edit
  after : s' ≡ edited edit s
  too : (t : State) → SameIn changed s t → Becomes t (edited edit t)

module _ (location : Location) (Effect : List (Content location) → Reply → List (Content location) → Type 0)
    (s : State) (reply : Reply) (s' : State) where
  -- the part of the location, a change of which is shown to be an edit
  abbrev p : Part location
  p = part_at location

  -- what a change of a part does
  abbrev PartMoves : Type 0
  PartMoves = Moves (Some location) (λ t t'. ChangesPart (p.with_part t) (Effect (p.read t)) reply t') s s'

  -- a change of a part goes by what is at an index, by what its effect on the list puts there
  part_moves_by : (part : List (Content location)) → s' ≡ p.with_part s part → (put : Option (Content location))
      → part ≡ put_in p.index put (p.read s)
      → ((ys : List (Content location)) → slice_get ys p.index ≡ slice_get (p.read s) p.index
      → Effect ys reply (put_in p.index put ys)) → PartMoves
  part_moves_by part is None after too = record {
    edit = Keep;
    here = tt;
    after = is ∙ ap (p.with_part s) after ∙ p.whole s;
    too = λ t same. record {
      part = p.read t;
      effect = too (p.read t) (p.found s t (same location refl));
      after = sym (p.whole t);
    };
  }
  part_moves_by part is (Some x) after too = record {
    edit = Put location x;
    here = refl;
    after = is ∙ ap (p.with_part s) after;
    too = λ t same. record {
      part = slice_set (p.read t) p.index x;
      effect = too (p.read t) (p.found s t (same location refl));
      after = refl;
    };
  }

  -- a change of a part goes by what is at an index, as its effect on the list does
  part_moves : (c : ChangesPart (p.with_part s) (Effect (p.read s)) reply s')
      → ListMoves p.index Effect (p.read s) reply c.part → PartMoves
  part_moves c moves = part_moves_by c.part c.after moves.put moves.after moves.too

-- a change that makes nothing
abbrev IsLocalChange : Change → Type 0
IsLocalChange (SegmentMade ty items) = ⊥
IsLocalChange (DataMade bytes) = ⊥
IsLocalChange (GlobalMade global) = ⊥
IsLocalChange change = Unit {0}

module _ (s : State) (reply : Reply) (s' : State) where
  -- a change that makes nothing goes by what is at its index
  change_moves : (change : Change) → IsLocalChange change → HasChange change s reply s'
      → Moves (changed_by change) (λ t t'. HasChange change t reply t') s s'
  change_moves (BytesWritten k offset bytes) local c = part_moves (MemoryAt k) (WritesMemoryAt k offset bytes) _ _ _ c
      (found_moves k (option_and_then live_value) Live _ _ _ _ c.effect)
  change_moves (BytesStored k a None) local c = part_moves (MemoryAt k) (StoresVectorAt k a None) _ _ _ c
      (record { put = None; after = c.effect.1; too = λ ys same. (c.effect.0, refl) })
  change_moves (BytesStored k a (Some stored)) local c = part_moves (MemoryAt k) (StoresVectorAt k a (Some stored))
      _ _ _ c (found_moves k (option_and_then live_value) Live _ _ _ _ c.effect)
  change_moves (RegisterSet dst given) local c = part_moves (RegisterAt dst) (SetsRegister dst given) _ _ _ c
      (register_moves dst s.registers reply c.part given (slice_get s.registers dst) refl c.effect)
  change_moves (MemoryDropped k) local c =
      part_moves (MemoryAt k) (DropsAt byte_count k) _ _ _ c (drop_moves byte_count k _ _ _ c.effect)
  change_moves (TableDropped k) local c =
      part_moves (TableAt k) (DropsAt size_of k) _ _ _ c (drop_moves size_of k _ _ _ c.effect)
  change_moves (ElementSet k index value) local c = part_moves (TableAt k) (SetsElementAt k index value) _ _ _ c
      (found_moves k (option_and_then live_value) Live _ _ _ _ c.effect)
  change_moves (ItemsDropped k) local c =
      part_moves (SegmentAt k) (DropsItemsAt k) _ _ _ c (found_moves k (λ x. x) (λ x. x) _ _ _ _ c.effect)
  change_moves (DataDropped k) local c =
      part_moves (DataAt k) (DropsDataAt k) _ _ _ c (found_moves k (λ x. x) (λ x. x) _ _ _ _ c.effect)
  change_moves (GlobalSet k value) local c = part_moves (GlobalAt k) (SetsGlobalAt k value) _ _ _ c
      (found_moves k (λ x. x) (λ x. x) _ _ _ _ c.effect)
  change_moves change local c = absurd local

-- an effect of a local call: it acts on what is at indices alone
abbrev IsLocalEffect : Effect → Type 0
IsLocalEffect (Told told) = Unit {0}
IsLocalEffect (BytesRead k offset len) = Unit {0}
IsLocalEffect (Changed change) = IsLocalChange change
IsLocalEffect effect = ⊥

-- the indices of which an effect reads what is there
abbrev read_in : Effect → List Location
read_in (BytesRead k offset len) = MemoryAt k ∷ []
read_in effect = []

-- a turn goes by what is at indices: in each world with the same there it edits the state in the same way, and nothing
-- else
record TurnMoves {S : Type 0} (Becomes : World S → World S → Type 0) (changed : Option Location)
    (reads : List Location) (w w' : World S) : Type 0 where
  edit : Edit
  here : IsEditAt changed edit
  after : w' ≡ record w { state = edited edit w.state }
  too : (u : World S) → SameIn changed w.state u.state → SameAll reads w.state u.state
      → Becomes u (record u { state = edited edit u.state })

module _ {S : Type 0} (rules : Rules S) (w : World S) (turn : Turn) (w' : World S) where
  -- a turn with a local effect goes by what is at indices
  effect_moves : (effect : Effect) → IsLocalEffect effect → HasEffect rules effect w (outcome_of turn) w'
      → TurnMoves (λ u u'. HasEffect rules effect u (outcome_of turn) u') (changed_in effect) (read_in effect) w w'
  effect_moves (Told told) local step = record {
    edit = Keep;
    here = tt;
    after = step.after;
    too = λ u same reads. record { free = step.free; effect = step.effect; after = refl };
  }
  effect_moves (BytesRead k offset len) local step = record {
    edit = Keep;
    here = tt;
    after = step.after;
    too = λ u same reads. record { free = step.free; effect = rw reads.0 step.effect; after = refl };
  }
  effect_moves (Changed change) local step =
      let moves = change_moves w.state turn.reply step.machine change local step.effect in
      record {
        edit = moves.edit;
        here = moves.here;
        after = step.after ∙ ap (λ (s : State). let v : World S = record w { state = s } in v) moves.after;
        too = λ u same reads. changes_too step (edited moves.edit u.state) (moves.too u.state same) refl;
      }
  effect_moves effect local step = absurd local

-- the effect of a local call is local
local_effect : (s : State) (c : Call) → IsLocal c → IsLocalEffect (effect_of s c)
local_effect s call.GetFuel local = tt
local_effect s c local = local

-- what the effect of a call reads is what the call reads
reads_in : (s t : State) (c : Call) → SameAll (read_locations c) s t → SameAll (read_in (effect_of s c)) s t
reads_in s t (call.Read k offset len) same = same
reads_in s t c same = tt

module _ (s t : State) where
  -- the effect of a local call goes by what the call reads
  same_effect : (c : Call) → IsLocal c → SameAll (read_locations c) s t → effect_of t c ≡ effect_of s c
  same_effect call.GetFuel local same = absurd local
  same_effect (call.CopyMemory k dst j src len) local same = absurd local
  same_effect (call.InitMemory k j dst src len) local same = absurd local
  same_effect (call.InitTable k j dst src len) local same = absurd local
  same_effect (call.CopyTable k dst j src len) local same = absurd local
  same_effect (call.Replace op dst a item) local same = rw (same.0, same.1.0)
  same_effect c local same = cc

module _ {S : Type 0} (rules : Rules S) where
  -- a turn of a local call goes by what is at indices
  turn_moves : (w : World S) (turn : Turn) (w' : World S) → IsLocal turn.call → Step rules w turn w'
      → TurnMoves (λ u u'. Step rules u turn u') (changed_location turn.call) (read_locations turn.call) w w'
  turn_moves w turn w' local step =
      let moves = effect_moves rules w turn w' (effect_of w.state turn.call)
      (local_effect w.state turn.call local) step in
      let changed = changed_is w.state turn.call in
      record {
        edit = moves.edit;
        here = rw changed at moves.here;
        after = moves.after;
        too = λ u same reads. rw (same_effect w.state u.state turn.call local reads)
            (moves.too u (rw changed same) (reads_in w.state u.state turn.call reads));
      }

  -- two independent turns that go by what is at indices may be exchanged
  turns_swap : (w : World S) (first second : Turn) (v w' : World S) → IsIndependent first.call second.call
      → TurnMoves (λ u u'. Step rules u first u') (changed_location first.call) (read_locations first.call) w v
      → TurnMoves (λ u u'. Step rules u second u') (changed_location second.call) (read_locations second.call) v w'
      → Run rules w (second ∷ first ∷ []) w'
  turns_swap w first second v w' apart a after =
      let b = rw a.after at after in
      let one = edited a.edit w.state in
      let two = edited b.edit w.state in (
        record w { state = two },
        b.too w (λ location is. sym (edit_outside (changed_location first.call) a.edit w.state location a.here
            (λ also. apart.changes location also is))) (back_all (read_locations second.call) w.state one
            (edit_leaves_all (changed_location first.call) (read_locations second.call) a.edit w.state a.here
            apart.first_leaves)),
        (
          record w { state = edited a.edit two },
          a.too (record w { state = two })
              (λ location is. edit_outside (changed_location second.call) b.edit w.state location b.here
              (apart.changes location is))
              (edit_leaves_all (changed_location second.call) (read_locations first.call) b.edit w.state b.here
              apart.second_leaves),
          b.after
              ∙ ap (λ (s : State). let u : World S = record w { state = s } in u)
              (sym (edits_swap (changed_location first.call) (changed_location second.call) a.edit b.edit w.state
              a.here b.here apart.changes)),
        ),
      )

  -- a run of two turns whose calls are local and independent is a run in the other order
  pub independent_turns_swap : IndependentTurnsSwap rules
  independent_turns_swap w first second w' local local' apart (v, one, (u, two, same)) =
      turns_swap w first second v w' apart (turn_moves w first v local one)
      (turn_moves v second w' local' (subst (Step rules v second) (sym same) two))
