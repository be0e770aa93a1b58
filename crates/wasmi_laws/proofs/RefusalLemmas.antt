-- What holds of the later causes of an attempt, whatever fact it is. Refusals that change nothing: a plain refusal is
-- found before the limiter is asked, since no later cause is one. The limiter, the meter and the spare region stay,
-- also where a call that lets nothing grow is refused.
use Rattle.std.proofs.Common.{◌≡◌, ◌∙◌, ℕ, Bool, Option, Some, None, Result, Ok, Err, List, [], ◌∷◌, length, map, inl, inr, refl, sym, ap, subst}
use Rattle.wasmi_laws.proofs.Common.{lacks_owned, All-head, All-tail, none-some, if◌then◌else◌, RefType, MemoryError, TableError, Attempt, AttemptOutcome, Unasked, Denied, Met, Failed, IsFirstCause, MeteredValue, Request, alone, answer_of, covers, optional_due, with_value, Failure, MemoryFailure, TableFailure, NoticeAnswer, Rules, Meter, LacksMemory, Lent, Owned, Room, Grows, Growth, Makes, metered_value, GrowsMemoryCharging, MakesMemory, MemoryValue, new_memory, MemoryTypeValue, GrowsTableCharging, TableValue, new_table, TableTypeValue, same_type, on_test, Call, NewMemory, NewLentMemory, Reply, Slot, Live, IsOtherFailure, ActsAt, AddsEntry, Creates, reply_of, CreatesLent, spare_after, MemoryPart, State, live_at, memory_part, IsRefusal, Turn, World, Effect, LentMemoryMade, MemoryGrown, MemoryMade, RangeWritten, Step, TableGrown, TableMade, HasEffect, effect_of, Creation, on_live, range_holds, IsPlainRefusal, OtherRefusalsChangeNothing, PlainRefusalsChangeNothing, PlainlyRefusedRunsChangeNothing, memory_growth, table_growth, outcome_of}
use Rattle.wasmi_meter.specs.declared.error.MemoryError.TheVariants as memory_error
use Rattle.wasmi_meter.specs.declared.error.TableError.TheVariants as table_error
use Rattle.wasmi_store.specs.Memory as memory
use Rattle.wasmi_store.specs.Table as table
use Rattle.wasmi_machine.specs.declared.calls.Reply.TheVariants as replied
use Rattle.wasmi_machine.specs.Exchange.{AsksFor, Exchange, Nothing, Nowhere, Passes, failed_reply, place_of, question_of}
use Rattle.wasmi_machine.specs.Laws.{Keeps, KeepsMeter, KeepsSpare}
use Rattle.wasmi_machine.proofs.ExchangeLemmas.{growths_are_permitted, late_is}
use Rattle.wasmi_machine.proofs.RefusalLemmas.{refusals_keep_contents}

-- a plain refusal is a refusal
plain_refusal : (reply : Reply) → IsPlainRefusal reply → IsRefusal reply
plain_refusal (replied.Memory error) plain = tt
plain_refusal (replied.Table error) plain = tt
plain_refusal reply plain = plain

-- a reply is no plain refusal
abbrev IsLoud : Reply → Type 0
IsLoud reply = IsPlainRefusal reply → ⊥

-- the causes of a refusal that are found after the question have a fact
pub record LaterCauses {V E : Type 0} (Fact : E → Type 0) (e : Request V E) : Type 0 where
  pub denied : Fact e.denial
  pub refused : Fact e.refusal
  pub late : (c : E) → e.late ≡ Some c → Fact c
  pub unpaid : (n : ℕ) → Fact (e.unpaid n)
  pub refuses : e.late ≡ None → (c : E) → e.refuses c → Fact c

-- the later causes by their facts, in their order
abbrev pub causes : {V E : Type 0} {Fact : E → Type 0} {e : Request V E} → Fact e.denial → Fact e.refusal
    → ((c : E) → e.late ≡ Some c → Fact c) → ((n : ℕ) → Fact (e.unpaid n))
    → (e.late ≡ None → (c : E) → e.refuses c → Fact c) → LaterCauses Fact e
causes denied refused late unpaid refuses =
    record { denied = denied; refused = refused; late = late; unpaid = unpaid; refuses = refuses }

-- the first cause after the permission has a fact that all later causes have
pub first_has : {V E : Type 0} (Fact : E → Type 0) (e : Request V E) → LaterCauses Fact e → (m : Option Meter)
    (late : Option E) → e.late ≡ late → (cause : E) → IsFirstCause e m late cause → Fact cause
first_has Fact e has m (Some c) is cause first = has.late cause (is ∙ ap Some (sym first))
first_has Fact e has m None is cause first = on_test (covers m (optional_due m e.price)) _ _ first
    (has.refuses is cause) (λ unpaid. rw unpaid (has.unpaid (optional_due m e.price)))

-- a cause that a test finds has a fact
pub tested : {E : Type 0} (Fact : E → Type 0) (test : Bool) (cause : E) → Fact cause → (c : E)
    → (if test then None else Some cause) ≡ Some c → Fact c
tested Fact test cause has c is = subst Fact (late_is test cause c is) has

-- the later causes have replies that are no plain refusals
abbrev AllLoud : {V E : Type 0} → (E → Reply) → Request V E → Type 0
AllLoud refusal e = LaterCauses (λ c. IsLoud (refusal c)) e

-- a plain refusal of an attempt is its early cause, and the limiter is the same
record IsUnasked {V E S : Type 0} (refusal : E → Reply) (e : Request V E) (l l' : S) : Type 0 where
  cause : E
  early : e.early ≡ Some cause
  plain : IsPlainRefusal (refusal cause)
  same : l' ≡ l

module _ {V E : Type 0} (refusal : E → Reply) (e : Request V E) (loud : AllLoud refusal e) where
  -- a plain refusal of an attempt is its early cause
  attempt_unasked : {S T : Type 0} (rules : Rules S) (answer : T → Reply) (value : T) → IsLoud (answer value)
      → (s s' : MeteredValue V S) (charge : ℕ) (outcome : AttemptOutcome E) → Attempt rules e s outcome charge s'
      → IsPlainRefusal (reply_of answer refusal (answer_of e value outcome)) → IsUnasked refusal e s.limiter s'.limiter
  attempt_unasked rules answer value met s s' charge (Unasked cause) a plain =
      record { cause = cause; early = a.may_end; plain = plain; same = a.follows }
  attempt_unasked rules answer value met s s' charge (Denied (Ok permitted)) a plain = absurd (loud.denied plain)
  attempt_unasked rules answer value met s s' charge Met a plain = absurd (met plain)
  attempt_unasked rules answer value met s s' charge (Failed cause (Ok _)) a plain =
      absurd (first_has (λ c. IsLoud (refusal c)) e loud s.meter e.late refl cause a.may_end.1 plain)
  attempt_unasked rules answer value met s s' charge outcome a plain = absurd (loud.refused plain)

-- the reply to a creation: the index of what was made, or the refusal of its error
adds_reply : {X A E : Type 0} (entry : X → A) (refusal : E → Reply) (result : Result X E) (list : List A)
    (reply : Reply) (list' : List A) → AddsEntry entry refusal result list reply list'
    → reply ≡ reply_of (λ _. replied.Made (length list)) refusal result
adds_reply entry refusal (Ok x) list reply list' adds = adds.0
adds_reply entry refusal (Err error) list reply list' adds = adds.0

module _ {S : Type 0} (rules : Rules S) where
  -- a plain refusal of a creation for whose slot there is place is its early cause
  makes_unasked : {X E : Type 0} (refusal : E → Reply) (e : Request (Unit {0}) E) → AllLoud refusal e → (made : X)
      → (slots : List (Slot X)) (l : S) (o : Creation (List (Slot X)) S) (result : Result X E)
      → Makes rules e made l result o.limiter → AddsEntry Live refusal result slots o.reply o.part
      → IsPlainRefusal o.reply → IsUnasked refusal e l o.limiter
  makes_unasked {X} refusal e loud made slots l o result (outcome, attempt, answered) adds plain =
      let answer : X → Reply = λ x. replied.Made (length slots) in
      let told = adds_reply Live refusal result slots o.reply o.part adds ∙ ap (reply_of answer refusal) answered in
      attempt_unasked refusal e loud rules answer made (λ p. p) (alone l) (alone o.limiter) 0 outcome attempt
      (subst IsPlainRefusal told plain)

  -- a plain refusal of any creation leaves the limiter
  creates_unasked : {X E : Type 0} (refusal : E → Reply) (e : Request (Unit {0}) E) → AllLoud refusal e → (made : X)
      → (slots : List (Slot X)) (l : S) (o : Creation (List (Slot X)) S)
      → Creates refusal (Makes rules e made) slots l o.reply o.part o.limiter → IsPlainRefusal o.reply → o.limiter ≡ l
  creates_unasked refusal e loud made slots l o (inl none) plain = none.2
  creates_unasked refusal e loud made slots l o (inr (result, makes, adds)) plain =
      (makes_unasked refusal e loud made slots l o result makes adds plain).same

  -- a plain refusal of a growth leaves the limiter
  grows_unasked : {V E : Type 0} (refusal : E → Reply) (g : Growth V E) → AllLoud refusal g.request
      → (s s' : MeteredValue V S) (result : Result ℕ E) (charge : ℕ) → Grows rules g s result charge s'
      → IsPlainRefusal (reply_of replied.Number refusal result) → s'.limiter ≡ s.limiter
  grows_unasked {V} refusal g loud s s' result charge (inl none) plain =
      ap (λ (t : MeteredValue V S). t.limiter) none.same
  grows_unasked refusal g loud s s' result charge (inr some) plain = (attempt_unasked refusal g.request loud rules
      replied.Number g.size (λ p. p) s s' charge some.outcome some.attempt
      (subst (λ r. IsPlainRefusal (reply_of replied.Number refusal r)) some.answered plain)).same

  -- a plain refusal of a growth of what an index names leaves the limiter
  acts_unasked : {X E : Type 0} (k : ℕ) (refusal : E → Reply)
      (Acts : MeteredValue X S → Result ℕ E → ℕ → MeteredValue X S → Type 0)
      (s s' : MeteredValue (List (Slot X)) S) (reply : Reply) (charge : ℕ)
      → ((x x' : X) (result : Result ℕ E) → Acts (with_value s x) result charge (with_value s' x')
      → IsPlainRefusal (reply_of replied.Number refusal result) → s'.limiter ≡ s.limiter)
      → ActsAt k (reply_of replied.Number refusal) Acts s reply charge s' → IsPlainRefusal reply
      → s'.limiter ≡ s.limiter
  acts_unasked {X} k refusal Acts s s' reply charge grows acts plain =
      on_live (live_at s.value k) _ _ acts (λ missing. ap (λ (t : MeteredValue (List (Slot X)) S). t.limiter) missing.2)
      (λ x found h. grows x h.1 h.0 h.2 (subst IsPlainRefusal h.3 plain))

-- lack of memory for a memory is no plain refusal
lacks_loud : (room : Room) (c : MemoryError) → LacksMemory room c → IsLoud (replied.Memory c)
lacks_loud room c lacks plain = rw (lacks_owned room c lacks) at plain

-- lack of memory for a table is no plain refusal
table_lacks_loud : (c : TableError) → c ≡ table_error.OutOfSystemMemory → IsLoud (replied.Table c)
table_lacks_loud c lacks plain = rw lacks at plain

-- no later cause of a creation of a memory is a plain refusal
memory_made_loud : (room : Room) (ty : MemoryTypeValue) → AllLoud replied.Memory (memory.creation_of room ty)
memory_made_loud room ty = causes (λ p. p) (λ p. p)
    (tested (λ c. IsLoud (replied.Memory c)) _ memory_error.InvalidStaticBufferSize (λ p. p)) (λ n p. p)
    (λ late. lacks_loud room)

-- no later cause of a growth of a memory is a plain refusal
memory_grown_loud : (x : MemoryValue) (pages : ℕ) → AllLoud replied.Memory (memory.growth_of x pages)
memory_grown_loud x pages = causes (λ p. p) (λ p. p)
    (tested (λ c. IsLoud (replied.Memory c)) _ memory_error.InvalidStaticBufferSize (λ p. p)) (λ n p. p)
    (λ late. lacks_loud x.room)

-- no later cause of a creation of a table is a plain refusal
table_made_loud : (ty : TableTypeValue) (init : RefType) → AllLoud replied.Table (table.creation_of ty init)
table_made_loud ty init =
    causes (λ p. p) (λ p. p) (λ c is. absurd (none-some c is)) (λ n p. p) (λ late. table_lacks_loud)

-- no later cause of a growth of a table is a plain refusal
table_grown_loud : (x : TableValue) (n reference : ℕ) → AllLoud replied.Table (table.growth_of x n reference)
table_grown_loud x n reference = causes (λ p. p) (λ p. p)
    (tested (λ c. IsLoud (replied.Table c)) _ table_error.GrowOutOfBounds (λ p. p)) (λ n p. p)
    (λ late cause lacks. table_lacks_loud cause lacks.0)

module _ {S : Type 0} (rules : Rules S) where
  -- a memory isn't made in a region: there was no place for its slot, since its early cause is no plain refusal
  region_unasked : (region : List ℕ) (ty : MemoryTypeValue) (slots : List (Slot MemoryValue)) (l : S)
      (o : Creation (List (Slot MemoryValue)) S)
      → Creates replied.Memory (MakesMemory rules (Lent region) ty) slots l o.reply o.part o.limiter
      → IsPlainRefusal o.reply → (o.limiter ≡ l) × (o.reply ≡ replied.NoRoom)
  region_unasked region ty slots l o (inl none) plain = (none.2, none.0)
  region_unasked region ty slots l o (inr (result, makes, adds)) plain =
      let unasked = makes_unasked rules replied.Memory (memory.creation_of (Lent region) ty)
      (memory_made_loud (Lent region) ty) (new_memory (Lent region) ty) slots l o result makes adds plain in
      absurd (tested (λ c. IsLoud (replied.Memory c)) _ memory_error.MinimumSizeOverflow (λ p. p) unasked.cause
      unasked.early unasked.plain)

  -- a plain refusal of a memory in the spare region leaves the limiter and that region
  lent_unasked : (ty : MemoryTypeValue) (part : MemoryPart) (l : S) (reply : Reply) (part' : MemoryPart) (l' : S)
      → CreatesLent rules ty part l reply part' l' → IsPlainRefusal reply → (l' ≡ l) × (part'.spare ≡ part.spare)
  lent_unasked ty part l reply part' l' creates plain =
      on_live part.spare _ _ creates (λ h. (h.2, ap (λ (p : MemoryPart). p.spare) h.1)) (λ region found h.
      let same = region_unasked region ty part.slots l (record { reply = reply; part = part'.slots; limiter = l' }) h.0
      plain in (same.0, h.1 ∙ ap (λ r. spare_after r part.spare) same.1))

  module _ (w : World S) (turn : Turn) (w' : World S) (plain : IsPlainRefusal turn.reply) where
    -- a plain refusal leaves the limiter, by each effect
    limiter_stays : (effect : Effect) → HasEffect rules effect w (outcome_of turn) w' → w'.limiter ≡ w.limiter
    limiter_stays (MemoryMade ty) step = rw step.after
        (creates_unasked rules replied.Memory (memory.creation_of Owned ty) (memory_made_loud Owned ty)
        (new_memory Owned ty) w.state.memories w.limiter
        (record { reply = turn.reply; part = step.part; limiter = step.limiter }) step.effect plain)
    limiter_stays (LentMemoryMade ty) step = rw step.after
        (lent_unasked ty (memory_part w.state) w.limiter turn.reply step.part step.limiter step.effect plain).0
    limiter_stays (MemoryGrown k pages) step = rw step.after
        (acts_unasked rules k replied.Memory (GrowsMemoryCharging rules pages) _ _ turn.reply turn.charge
        (λ x x' result. grows_unasked rules replied.Memory (memory_growth pages x) (memory_grown_loud x pages)
        (metered_value x (Some w.state.meter) w.limiter)
        (metered_value x' (Some step.meter) step.limiter) result turn.charge) step.effect plain)
    limiter_stays (TableMade ty init) step = rw step.after
        (creates_unasked rules replied.Table (table.creation_of ty init.ty) (table_made_loud ty init.ty)
        (new_table ty init.raw) w.state.tables w.limiter
        (record { reply = turn.reply; part = step.part; limiter = step.limiter }) step.effect plain)
    limiter_stays (TableGrown k n init) step = rw step.after
        (acts_unasked rules k replied.Table (GrowsTableCharging rules n init) _ _ turn.reply turn.charge
        (λ x x' result grows refused. on_test (same_type x.ty.element init.ty) _ _ grows
        (λ h. grows_unasked rules replied.Table (table_growth n init.raw x) (table_grown_loud x n init.raw)
        (metered_value x (Some w.state.meter) w.limiter) (metered_value x' (Some step.meter) step.limiter) result
        turn.charge h refused) (λ h. ap (λ (t : MeteredValue TableValue S). t.limiter) h.2)) step.effect plain)
    limiter_stays (RangeWritten write) step = (range_holds w write turn w' step).unasked
    limiter_stays effect step = rw step.after refl

    -- a plain refusal leaves the spare region
    spare_stays : (call : Call) → turn.call ≡ call → Step rules w turn w'
        → KeepsSpare call turn.reply w.state w'.state → w'.state.spare ≡ w.state.spare
    spare_stays (NewLentMemory ty) is step keeps =
        let made : HasEffect rules (LentMemoryMade ty) w (outcome_of turn) w' =
        subst (λ call. HasEffect rules (effect_of w.state call) w (outcome_of turn) w') is step in
        rw made.after
        (lent_unasked ty (memory_part w.state) w.limiter turn.reply made.part made.limiter made.effect plain).1
    spare_stays call is step keeps = keeps

-- the reply to a growth that fails after its charge is no plain refusal
want_loud : (failure : Failure) (notice_answer : NoticeAnswer) → (IsOtherFailure failure → ⊥)
    → IsLoud (failed_reply failure notice_answer)
want_loud (MemoryFailure error) (Err _) wants plain = plain
want_loud (TableFailure error) (Err _) wants plain = plain
want_loud (MemoryFailure memory_error.OutOfSystemMemory) (Ok _) wants plain = plain
want_loud (TableFailure table_error.OutOfSystemMemory) (Ok _) wants plain = plain
want_loud failure (Ok _) wants plain = wants tt

-- a world whose parts are all the same
same_world : {S : Type 0} (rules : Rules S) (w : World S) (turn : Turn) (w' : World S) → Keeps rules w turn w'
    → w'.state.meter ≡ w.state.meter → w'.state.spare ≡ w.state.spare → w'.limiter ≡ w.limiter → w' ≡ w
same_world rules w turn w' keeps meter spare limiter = ap (λ (s : State). record w' { state = s }) keeps.contents
    ∙ (λ i. record { state = record w.state { meter = meter i; spare = spare i }; limiter = limiter i })

-- a call that lets nothing grow asks nothing
no_question : (s : State) (call : Call) → place_of call ≡ Nowhere → question_of s call ≡ None
no_question s (NewMemory ty) is = cc
no_question s call is = cc

-- a call that lets nothing grow keeps the spare region where it is refused
other_spare : (s s' : State) (call : Call) (reply : Reply) → place_of call ≡ Nowhere → KeepsSpare call reply s s'
    → s'.spare ≡ s.spare
other_spare s s' (NewLentMemory ty) reply is keeps = absurd cc
other_spare s s' call reply is keeps = keeps

-- the limiter stays where a call asks nothing
unasked_limiter : {S : Type 0} (rules : Rules S) (question : Option _) (l : S) (reply : Reply) (l' : S)
    → question ≡ None → (exchange : Exchange) → AsksFor question exchange reply → Passes rules l exchange l' → l' ≡ l
unasked_limiter rules question l reply l' none Nothing asks passes = passes
unasked_limiter rules question l reply l' none exchange asks passes = absurd cc

module _ {S : Type 0} (rules : Rules S) (w : World S) (turn : Turn) (w' : World S) where
  -- the meter stays where a growth would have to fail after its charge
  plain_meter : IsPlainRefusal turn.reply → KeepsMeter rules w turn w' → w'.state.meter ≡ w.state.meter
  plain_meter plain (inl same) = same
  plain_meter plain (inr fails) =
      absurd (want_loud fails.failure fails.notice_answer fails.wants (subst IsPlainRefusal fails.replies plain))

  -- the meter stays where a call that lets nothing grow is refused
  other_meter : place_of turn.call ≡ Nowhere → KeepsMeter rules w turn w' → w'.state.meter ≡ w.state.meter
  other_meter is (inl same) = same
  other_meter is (inr fails) = let grows = fails.grows in absurd cc

module _ {S : Type 0} (rules : Rules S) where
  -- a turn with a plain refusal changes nothing
  pub plain_refusals_change_nothing : PlainRefusalsChangeNothing rules
  plain_refusals_change_nothing w turn w' step plain =
      let keeps = refusals_keep_contents rules w turn w' step (plain_refusal turn.reply plain) in
      same_world rules w turn w' keeps (plain_meter rules w turn w' plain keeps.meter)
      (spare_stays rules w turn w' plain turn.call refl step keeps.spare)
      (limiter_stays rules w turn w' plain (effect_of w.state turn.call) step)

  -- a refused turn of a call that lets nothing grow changes nothing
  pub other_refusals_change_nothing : OtherRefusalsChangeNothing rules
  other_refusals_change_nothing w turn w' step nowhere refused =
      let keeps = refusals_keep_contents rules w turn w' step refused in
      let x = growths_are_permitted rules w turn w' step in
      same_world rules w turn w' keeps (other_meter rules w turn w' nowhere keeps.meter)
      (other_spare w.state w'.state turn.call turn.reply nowhere keeps.spare)
      (unasked_limiter rules (question_of w.state turn.call) w.limiter turn.reply w'.limiter
      (no_question w.state turn.call nowhere) x.exchange x.asks x.passes)

  -- a run of plain refusals changes nothing
  pub plainly_refused_runs_change_nothing : PlainlyRefusedRunsChangeNothing rules
  plainly_refused_runs_change_nothing w [] w' ran plain = ran
  plainly_refused_runs_change_nothing w (turn ∷ turns) w' (v, step, ran) plain =
      plainly_refused_runs_change_nothing v turns w' ran
      (All-tail IsPlainRefusal turn.reply (map Turn.reply turns) plain)
      ∙ plain_refusals_change_nothing w turn v step (All-head IsPlainRefusal turn.reply (map Turn.reply turns) plain)

-- what refusals leave
pub ruleset refusals =
    (plain_refusals_change_nothing, other_refusals_change_nothing, plainly_refused_runs_change_nothing)
