-- Where the limiter is deterministic and told of no lack of memory, two attempts, effects, turns or runs of the same
-- calls are one; and which limiters are deterministic.
use Rattle.std.proofs.Common.{List, None, Ok, Option, Result, Some, [], ap, arith, inl, inr, map, refl, sym, true, ℕ, ◌∙◌, ◌∷◌, ◌≡◌}
use Rattle.wasmi_machine.proofs.Common.{All-head, All-tail, none-some, same_Some, option_map, on_both_tests, memory_growth, table_growth, IsNotOutOfMemory, AreNotOutOfMemory, IsDeterministic, IsOtherFailure, never_out_of_memory, spare_after, byte_write_of, ActsMetered, ActsMeteredUnasked, Asks, Changes, Creates, OnlyReplies, reply_of, Run, BytesRead, Changed, Effect, FuelSet, LentMemoryMade, MemoryGrown, MemoryMade, RangeWritten, TableGrown, TableMade, MemoryWritten, TableWritten, HasEffect, Told, effect_of, State, live_at, Turn, World, write_of, Reply, Slot, Attempt, Denied, Request, Failed, AttemptOutcome, Follows, IsFirstCause, MayEnd, Met, MeteredValue, Unasked, alone, optional_due, answer_of, covers, outcome_charge, value_after, Capped, capped_rules, capped_quota, quota_rules, Answer, AskedIf, NoticedIf, IsDenial, MemoryFailure, Rules, TableFailure, optional_rules, unlimited_rules, Meter, meter_after, MemoryError, TableError, LacksMemory, Lent, Owned, Room, Grows, Growth, Makes, metered_value, metered, GrowsMemoryCharging, MakesMemory, MemoryValue, new_memory, MemoryTypeValue, GrowsTableCharging, MakesTable, new_table, same_type, TurnOutcome, outcome_of, at}
use Rattle.wasmi_machine.proofs.MemoryEffectsLemmas.{lacks_owned, read_same}
use Rattle.wasmi_machine.proofs.EffectLemmas.{Acted, HasOneEnding, HasOneOutcome, acts_same, creates_same, on_both}
use Rattle.wasmi_machine.proofs.StepsLemmas.{change_facts}
use Rattle.wasmi_machine.proofs.RangeLemmas.{range_once}
use Rattle.wasmi_meter.proofs.CappedLemmas.{asked_unique, noticed_unique}
use Rattle.wasmi_store.specs.Memory as memory
use Rattle.wasmi_machine.specs.declared.calls.Reply.TheVariants as replied
use Rattle.wasmi_store.specs.Table as table

-- what makes two attempts of a request one: the last cause is told to the limiter as lack of memory
record Wants {V E : Type 0} (e : Request V E) : Type 0 where
  wants : (cause : E) → e.refuses cause → IsOtherFailure (e.notice cause) → ⊥

module _ {S : Type 0} {rules : Rules S} (once : IsDeterministic rules) where
  -- the rules by which no limiter is told of lack of memory
  abbrev told : Rules S
  told = never_out_of_memory rules

  module _ {V E : Type 0} {e : Request V E} (want : Wants e) where
    module _ (m : Option Meter) where
      -- two first causes that are no lack of memory are one
      first_cause : (late : Option E) (cause cause' : E) → IsFirstCause e m late cause → IsOtherFailure (e.notice cause)
          → IsFirstCause e m late cause' → IsOtherFailure (e.notice cause') → cause ≡ cause'
      first_cause (Some c) cause cause' first other first' other' = first ∙ sym first'
      first_cause None cause cause' first other first' other' =
          on_both_tests (covers m (optional_due m e.price)) _ _ _ _ first first'
          (λ refuses refuses'. absurd (want.wants cause refuses other)) (λ unpaid unpaid'. unpaid ∙ sym unpaid')

      -- where nothing else refuses, memory does
      refused_at : (late : Option E) (cause : E) → late ≡ None → covers m (optional_due m e.price) ≡ true
          → IsFirstCause e m late cause → e.refuses cause
      refused_at (Some c) cause none payable first = absurd (none-some c (sym none))
      refused_at None cause none payable first = rw payable at first

      module _ (l : S) where
        -- a question has one answer
        denied_met : (answer : Answer) (l' p : S) → IsDenial answer → rules.asked l e.question answer l'
            → rules.asked l e.question (Ok true) p → ⊥
        denied_met answer l' p denial asks asks' =
            rw (once.asked l e.question answer (Ok true) l' p asks asks').0 at denial

        -- an attempt ends in one way
        same_outcome : (outcome outcome' : AttemptOutcome E) (l' l'' : S) → MayEnd e m outcome
            → Follows e told l outcome l' → MayEnd e m outcome'
            → Follows e told l outcome' l'' → (outcome ≡ outcome') × (l' ≡ l'')
        same_outcome (Unasked c) (Unasked c') l' l'' may f may' f' =
            (ap Unasked (same_Some c c' (sym may ∙ may')), f ∙ sym f')
        same_outcome (Unasked c) outcome' l' l'' may f may' f' = absurd (none-some c (sym may'.0 ∙ may))
        same_outcome outcome (Unasked c) l' l'' may f may' f' = absurd (none-some c (sym may.0 ∙ may'))
        same_outcome (Denied a) (Denied a') l' l'' may f may' f' =
            let s = once.asked l e.question a a' l' l'' f f' in (ap Denied s.0, s.1)
        same_outcome (Denied a) Met l' l'' may f may' f' = absurd (denied_met a l' l'' may.1 f f')
        same_outcome (Denied a) (Failed d h) l' l'' may f may' f' = absurd (denied_met a l' f'.0 may.1 f f'.1)
        same_outcome Met (Denied a) l' l'' may f may' f' = absurd (denied_met a l'' l' may'.1 f' f)
        same_outcome (Failed d h) (Denied a) l' l'' may f may' f' = absurd (denied_met a l'' f.0 may'.1 f' f.1)
        same_outcome Met Met l' l'' may f may' f' = (refl, (once.asked l e.question (Ok true) (Ok true) l' l'' f f').1)
        same_outcome Met (Failed d h) l' l'' may f may' f' =
            absurd (want.wants d (refused_at e.late d may.1 may.2 may'.1) f'.2.1)
        same_outcome (Failed d h) Met l' l'' may f may' f' =
            absurd (want.wants d (refused_at e.late d may'.1 may'.2 may.1) f.2.1)
        same_outcome (Failed d h) (Failed d' h') l' l'' may f may' f' =
            let permitted = (once.asked l e.question (Ok true) (Ok true) f.0 f'.0 f.1 f'.1).1 in
            let cause = first_cause e.late d d' may.1 f.2.1 may'.1 f'.2.1 in
            let notices : rules.noticed f.0 (e.notice d) h' l'' = rw (permitted, cause) f'.2.0 in
            let s = once.noticed f.0 (e.notice d) h h' l' l'' f.2.0 notices in
            (rw (cause, s.0) refl, s.1)

    -- two attempts are one, if neither says out of memory
    attempts_same : (s s' s'' : MeteredValue V S) (outcome outcome' : AttemptOutcome E) (charge charge' : ℕ)
        → Attempt told e s outcome charge s' → Attempt told e s outcome' charge' s''
        → (outcome ≡ outcome') × (charge ≡ charge') × (s' ≡ s'')
    attempts_same s s' s'' outcome outcome' charge charge' a b =
        let same =
        same_outcome s.meter s.limiter outcome outcome' s'.limiter s''.limiter a.may_end a.follows b.may_end b.follows
        in
        let charged = a.charged ∙ ap (outcome_charge e s.meter) same.0 ∙ sym b.charged in
        let value = a.value ∙ ap (value_after e s.value) same.0 ∙ sym b.value in
        let meter = a.meter ∙ ap (λ c. option_map (λ m. meter_after m c) s.meter) charged ∙ sym b.meter in
        (same.0, charged, λ k. record { value = value k; meter = meter k; limiter = same.1 k })

  -- two creations
  makes_same : {T E : Type 0} (e : Request (Unit {0}) E) → Wants e
      → (made : T) (l : S) (result result' : Result T E) (l' l'' : S) → Makes told e made l result l'
      → Makes told e made l result' l'' → (result ≡ result') × (l' ≡ l'')
  makes_same e wants made l result result' l' l'' (outcome, a, answered) (outcome', b, answered') =
      let same = attempts_same wants (alone l) (alone l') (alone l'') outcome outcome' 0 0 a b in
      (answered ∙ ap (answer_of e made) same.0 ∙ sym answered', λ i. (same.2 i).limiter)

  -- two growths
  grows_same : {V E : Type 0} (g : Growth V E) → Wants g.request
      → (s : MeteredValue V S) (result result' : Result ℕ E) (charge charge' : ℕ) (s' s'' : MeteredValue V S)
      → Grows told g s result charge s' → Grows told g s result' charge' s''
      → (result ≡ result') × (charge ≡ charge') × (s' ≡ s'')
  grows_same g wants s result result' charge charge' s' s'' (inl a) (inl b) =
      (a.answered ∙ sym b.answered, a.uncharged ∙ sym b.uncharged, a.same ∙ sym b.same)
  grows_same g wants s result result' charge charge' s' s'' (inl a) (inr b) = absurd (omega (arith, a.none, b.some))
  grows_same g wants s result result' charge charge' s' s'' (inr a) (inl b) = absurd (omega (arith, b.none, a.some))
  grows_same g wants s result result' charge charge' s' s'' (inr a) (inr b) =
      let same = attempts_same wants s s' s'' a.outcome b.outcome charge charge' a.attempt b.attempt in
      (a.answered ∙ ap (answer_of g.request g.size) same.0 ∙ sym b.answered, same.1, same.2)

-- what memory refuses a creation of a memory, a limiter is told as lack of memory
memory_wants : (room : Room) (cause : MemoryError) → LacksMemory room cause → IsOtherFailure (MemoryFailure cause) → ⊥
memory_wants room cause lacks other = rw (lacks_owned room cause lacks) at other

-- what memory refuses a creation of a table, a limiter is told as lack of memory
table_wants : (cause : TableError) → cause ≡ TableError.OutOfSystemMemory → IsOtherFailure (TableFailure cause) → ⊥
table_wants cause lacks other = rw lacks at other

-- under a deterministic limiter, two creations of a memory end in one way
memory_same : {S : Type 0} {rules : Rules S} → IsDeterministic rules → (room : Room) (ty : MemoryTypeValue)
    (slots : List (Slot MemoryValue)) (l : S)
    → HasOneOutcome (Creates replied.Memory (MakesMemory (never_out_of_memory rules) room ty) slots l)
memory_same {rules = rules} once room ty slots l =
    creates_same replied.Memory (MakesMemory (never_out_of_memory rules) room ty)
    (makes_same once (memory.creation_of room ty) (record { wants = memory_wants room }) (new_memory room ty)) slots l

-- what a turn on one part of the state ends in
abbrev acted : {A S : Type 0} → TurnOutcome → A → Meter → S → Acted A S
acted t part meter limiter = record {
  reply = t.reply;
  charge = t.charge;
  after = record { value = part; meter = Some meter; limiter = limiter };
}

-- two turns from one world, whose effects are one
module _ {S : Type 0} (w : World S) (t t' : TurnOutcome) (v v' : World S) where
  abbrev Same : Type 0
  Same = (t.reply ≡ t'.reply) × (t.charge ≡ t'.charge) × (t.written ≡ t'.written) × (v ≡ v')

  -- two turns that only reply are one
  told_unique : {Relation : Reply → Type 0} → OnlyReplies w t v Relation → OnlyReplies w t' v' Relation
      → (Relation t.reply → Relation t'.reply → t.reply ≡ t'.reply) → Same
  told_unique step step' once = (once step.effect step'.effect, cc, cc, cc)

  -- two turns that change the state are one
  changed_unique : {Relation : Reply → State → Type 0} → Changes w t v Relation → Changes w t' v' Relation
      → ((s s' : State) → Relation t.reply s → Relation t'.reply s' → (t.reply ≡ t'.reply) × (s ≡ s')) → Same
  changed_unique step step' once =
      let same = once step.machine step'.machine step.effect step'.effect in (
        same.0,
        step.free.0 ∙ sym step'.free.0,
        step.free.1 ∙ sym step'.free.1,
        step.after ∙ ap (λ s. let u : World S = record w { state = s } in u) same.1 ∙ sym step'.after,
      )

  module _ {A : Type 0} {with_part : A → State} where
    -- two turns that make something under the limiter are one
    made_unique : {Lacks : Type 0} {Relation : S → Reply → A → S → Type 0} → Asks w t v Lacks with_part Relation
        → Asks w t' v' Lacks with_part Relation
        → IsNotOutOfMemory t.reply → IsNotOutOfMemory t'.reply → HasOneOutcome (Relation w.limiter) → Same
    made_unique step step' has has' once =
        let same = once (record { reply = t.reply; part = step.part; limiter = step.limiter })
        (record { reply = t'.reply; part = step'.part; limiter = step'.limiter }) has has' step.effect step'.effect
        in (
          same.0,
          step.free.0 ∙ sym step'.free.0,
          step.free.1 ∙ sym step'.free.1,
          step.after ∙ (λ i. record { state = with_part (same.1 i); limiter = same.2 i }) ∙ sym step'.after,
        )

    module _ {old : A} {bytes : Reply → ℕ} where
      -- two turns with a charge are one
      paid_unique : {Relation : MeteredValue A S → Reply → ℕ → MeteredValue A S → Type 0}
          → ActsMetered w t v old with_part Relation bytes → ActsMetered w t' v' old with_part Relation bytes
          → HasOneEnding (Relation (metered_value old (Some w.state.meter) w.limiter)) → Same
      paid_unique step step' once =
          let same =
          once (acted t step.part step.meter step.limiter) (acted t' step'.part step'.meter step'.limiter) step.effect
          step'.effect in
          let meters = same_Some step.meter step'.meter (ap (λ (s : MeteredValue A S). s.meter) same.2) in (
            same.0,
            same.1,
            step.wrote ∙ ap bytes same.0 ∙ sym step'.wrote,
            step.after ∙ (λ i. record {
              state = record (with_part (same.2 i).value) { meter = meters i };
              limiter = (same.2 i).limiter;
            }) ∙ sym step'.after,
          )

      -- two turns with a charge that do not reach the limiter are one
      unasked_unique : {Relation : MeteredValue A (Unit {0}) → Reply → ℕ → MeteredValue A (Unit {0}) → Type 0}
          → ActsMeteredUnasked w t v old with_part Relation bytes
          → ActsMeteredUnasked w t' v' old with_part Relation bytes
          → HasOneEnding (Relation (metered old (Some w.state.meter))) → Same
      unasked_unique step step' once =
          let same =
          once (acted t step.part step.meter tt) (acted t' step'.part step'.meter tt) step.effect step'.effect in
          let meters = same_Some step.meter step'.meter (ap (λ (s : MeteredValue A (Unit {0})). s.meter) same.2) in (
            same.0,
            same.1,
            step.wrote ∙ ap bytes same.0 ∙ sym step'.wrote,
            step.after
                ∙ (λ i. record { state = record (with_part (same.2 i).value) { meter = meters i }; limiter = w.limiter })
                ∙ sym step'.after,
          )

module _ {S : Type 0} (rules : Rules S) (once : IsDeterministic rules) (w : World S) (t t' : TurnOutcome)
    (v v' : World S) (room : IsNotOutOfMemory t.reply) (room' : IsNotOutOfMemory t'.reply) where
  -- two turns in which one effect takes place from one world are one
  effect_same : (effect : Effect) → HasEffect (never_out_of_memory rules) effect w t v
      → HasEffect (never_out_of_memory rules) effect w t' v' → Same w t t' v v'
  effect_same (Told reply) step step' = told_unique w t t' v v' step step' (λ is is'. is ∙ sym is')
  effect_same (BytesRead k offset len) step step' =
      told_unique w t t' v v' step step' (λ a b. on_both (live_at w.state.memories k) _ _ _ _ a b (λ h h'. h ∙ sym h')
      (λ x h h'. read_same (at x.bytes offset len) t.reply t'.reply room room' h h'))
  effect_same (FuelSet fuel) step step' =
      changed_unique w t t' v v' step step' (λ s s' is is'. (is.0 ∙ sym is'.0, is.1 ∙ sym is'.1))
  effect_same (Changed change) step step' = changed_unique w t t' v v' step step'
      (λ s s'. (change_facts w.state change).same t.reply t'.reply s s' room room')
  effect_same (MemoryMade ty) step step' =
      made_unique w t t' v v' step step' room room' (memory_same once Owned ty w.state.memories w.limiter)
  effect_same (LentMemoryMade ty) step step' = made_unique w t t' v v' step step' room room' (λ o o' has has' a b.
      on_both w.state.spare _ _ _ _ a b (λ h h'. (h.0 ∙ sym h'.0, h.1 ∙ sym h'.1, h.2 ∙ sym h'.2)) (λ region h h'.
      let same = memory_same once (Lent region) ty w.state.memories w.limiter
      (record { reply = o.reply; part = o.part.slots; limiter = o.limiter })
      (record { reply = o'.reply; part = o'.part.slots; limiter = o'.limiter }) has has' h.0 h'.0 in
      let spare = h.1 ∙ ap (λ r. spare_after r w.state.spare) same.0 ∙ sym h'.1 in
      (same.0, λ i. record { slots = same.1 i; spare = spare i }, same.2)))
  effect_same (MemoryGrown k pages) step step' =
      paid_unique w t t' v v' step step' (acts_same (GrowsMemoryCharging (never_out_of_memory rules) pages)
      (λ s. grows_same once (memory_growth pages s.value)
      (record { wants = memory_wants s.value.room }) s) k (reply_of replied.Number replied.Memory) _)
  effect_same (TableMade ty init) step step' = made_unique w t t' v v' step step' room room'
      (creates_same replied.Table (MakesTable (never_out_of_memory rules) ty init)
      (makes_same once (table.creation_of ty init.ty) (record { wants = table_wants }) (new_table ty init.raw))
      w.state.tables w.limiter)
  effect_same (TableGrown k n init) step step' =
      paid_unique w t t' v v' step step' (acts_same (GrowsTableCharging (never_out_of_memory rules) n init)
      (λ s result result' charge charge' s' s'' a b. on_both_tests (same_type s.value.ty.element init.ty) _ _ _ _ a b
      (grows_same once (table_growth n init.raw s.value) (record { wants = λ cause lacks. table_wants cause lacks.0 }) s
      result result' charge charge' s' s'') (λ h h'. (h.0 ∙ sym h'.0, h.1 ∙ sym h'.1, h.2 ∙ sym h'.2)))
      k (reply_of replied.Number replied.Table) _)
  effect_same (RangeWritten (TableWritten k source dst len)) step step' =
      unasked_unique w t t' v v' step step' (range_once replied.Table k (write_of source dst len) _)
  effect_same (RangeWritten (MemoryWritten k source dst len)) step step' =
      unasked_unique w t t' v v' step step' (range_once replied.Memory k (byte_write_of source dst len) _)

module _ {S : Type 0} (rules : Rules S) (once : IsDeterministic rules) where
  -- two runs of the same calls are one
  pub runs_are_one : (w : World S) (turns turns' : List Turn) (v v' : World S)
      → map Turn.call turns ≡ map Turn.call turns' → AreNotOutOfMemory turns → AreNotOutOfMemory turns'
      → Run (never_out_of_memory rules) w turns v → Run (never_out_of_memory rules) w turns' v'
      → (turns ≡ turns') × (v ≡ v')
  runs_are_one w [] [] v v' calls rooms rooms' ran ran' = (refl, ran ∙ sym ran')
  runs_are_one w [] (t' ∷ turns') v v' calls rooms rooms' ran ran' = absurd cc
  runs_are_one w (t ∷ turns) [] v v' calls rooms rooms' ran ran' = absurd cc
  runs_are_one w (t ∷ turns) (t' ∷ turns') v v' calls rooms rooms' (u, step, ran) (u', step', ran') =
      let call : (t.call ≡ t'.call) × (map Turn.call turns ≡ map Turn.call turns') = (cc, cc) in
      let room = All-head IsNotOutOfMemory t.reply (map Turn.reply turns) rooms in
      let room' = All-head IsNotOutOfMemory t'.reply (map Turn.reply turns') rooms' in
      let one = effect_same rules once w (outcome_of t) (outcome_of t') u u' room room' (effect_of w.state t.call) step
      (rw call.0 step') in
      let rest = runs_are_one u turns turns' v v' call.1
      (All-tail IsNotOutOfMemory t.reply (map Turn.reply turns) rooms)
      (All-tail IsNotOutOfMemory t'.reply (map Turn.reply turns') rooms') ran (rw one.3 ran') in
      let turn : t ≡ t' = λ i. record { call = call.0 i; reply = one.0 i; charge = one.1 i; written = one.2 i } in
      (λ i. turn i ∷ rest.0 i, rest.1)

-- what a limiter that may be absent answers to a question or a notice is one, where the limiter's own answer is one,
-- where none has a known answer, and where it neither comes nor goes
once_if : {L A : Type 0} (Answers : Option L → A → Option L → Type 0) (known : A)
    → ((l : L) (a a' : A) (l' l'' : L) → Answers (Some l) a (Some l') → Answers (Some l) a' (Some l'')
    → (a ≡ a') × (l' ≡ l'')) → ((a : A) → Answers None a None → a ≡ known)
    → ((l : L) (a : A) → (Answers (Some l) a None → ⊥) × (Answers None a (Some l) → ⊥))
    → (l : Option L) (a a' : A) (l' l'' : Option L) → Answers l a l' → Answers l a' l'' → (a ≡ a') × (l' ≡ l'')
once_if Answers known once none stays (Some l) a a' (Some l') (Some l'') h h' =
    let s = once l a a' l' l'' h h' in (s.0, ap Some s.1)
once_if Answers known once none stays (Some l) a a' None l'' h h' = absurd ((stays l a).0 h)
once_if Answers known once none stays (Some l) a a' (Some l') None h h' = absurd ((stays l a').0 h')
once_if Answers known once none stays None a a' None None h h' = (none a h ∙ sym (none a' h'), refl)
once_if Answers known once none stays None a a' (Some l') l'' h h' = absurd ((stays l' a).1 h)
once_if Answers known once none stays None a a' None (Some l'') h h' = absurd ((stays l'' a').1 h')

-- a limiter that may be absent is deterministic where the limiter is
pub optional_unique : {L : Type 0} (rules : Rules L) → IsDeterministic rules → IsDeterministic (optional_rules rules)
optional_unique rules once = record {
  asked = λ l question. once_if (λ l. AskedIf rules l question) (Ok true)
      (λ l. once.asked l question) (λ a h. h) (λ l a. (λ h. h, λ h. h)) l;
  noticed = λ l failure. once_if (λ l. NoticedIf rules l failure) (Ok tt)
      (λ l. once.noticed l failure) (λ a h. h) (λ l a. (λ h. h, λ h. h)) l;
}

-- the limiter that permits everything is deterministic
pub unlimited_unique : {S : Type 0} → IsDeterministic (unlimited_rules {S = S})
unlimited_unique = record {
  asked = λ l question a a' l' l'' h h'. (h.0 ∙ sym h'.0, h.1 ∙ sym h'.1);
  noticed = λ l failure a a' l' l'' h h'. (h.0 ∙ sym h'.0, h.1 ∙ sym h'.1);
}

-- limiters with caps are deterministic
pub capped_unique : {L : Type 0} (c : Capped L) → IsDeterministic (capped_rules c)
capped_unique c = record { asked = asked_unique c; noticed = noticed_unique c }

-- a quota is deterministic
pub quota_unique : IsDeterministic quota_rules
quota_unique = capped_unique capped_quota
