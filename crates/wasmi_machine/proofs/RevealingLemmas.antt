-- What the replies of a run reveal of its limiter: a run is one under another limiter too, in the image of its state,
-- where its replies show it or the one carries the other (`Carries`), and the limiter is in states of which this holds;
-- and one under a reference to a limiter is one under the limiter.
use Rattle.std.proofs.Common.{Err, List, Result, Some, [], ap, inl, inr, map, refl, sym, true, ℕ, ◌∙◌, ◌∷◌, ◌≡◌, Ok, IfOk, OnErr}
use Rattle.std.specs.Borrow.{MutBor}
use Rattle.wasmi_machine.proofs.Common.{All-head, All-tail, All, on_test_too, grows_too, ActsAt, Creates, reply_of, Run, Changed, Effect, FuelSet, LentMemoryMade, MemoryGrown, MemoryMade, MemoryWritten, RangeWritten, TableGrown, TableMade, TableWritten, HasEffect, effect_of, Step, live_at, Turn, World, Reply, Slot, Attempt, Denied, Request, Failed, AttemptOutcome, Follows, Met, MeteredValue, Unasked, alone, answer_of, error_of_answer, error_of_failure, with_value, Rules, Lent, Owned, Room, Grows, Growth, Makes, metered_value, GrowsMemoryCharging, MemoryValue, new_memory, MemoryTypeValue, GrowsTableCharging, TableValue, new_table, TableTypeValue, same_type, RefType, permitting, TellsNoDenial, memory_growth, table_growth, outcome_of, Call, IsRunOf, KeepsLoan, RepliesWith, State, lent_limiter, lent_rules, loan_kept, loan_same, option_and_then, optional_rules, world}
use Rattle.wasmi_meter.specs.declared.limiter.LimiterRef.{LimiterRef}
use Rattle.wasmi_machine.proofs.EffectLemmas.{on_live_too}
use Rattle.wasmi_machine.proofs.HoldingLemmas.{Carries, IsThere, optional_carries, step_stays, run_stays}
use Rattle.wasmi_machine.proofs.StoreLemmas.{acts_too, asks_too, changes_too, unasked_too}
use Rattle.wasmi_store.specs.Memory as memory
use Rattle.wasmi_machine.specs.declared.calls.Reply.TheVariants as replied
use Rattle.wasmi_store.specs.Table as table

-- the error that an attempt answers by how it ends, and that the reply reveals
abbrev pub IsErrorOf : {V E : Type 0} → Request V E → AttemptOutcome E → E → Type 0
IsErrorOf e (Unasked cause) c = c ≡ cause
IsErrorOf e (Denied answer) c = c ≡ error_of_answer e.denial e.refusal answer
IsErrorOf e Met c = ⊥
IsErrorOf e (Failed cause notice_answer) c = c ≡ error_of_failure e.refusal cause notice_answer

-- the error of an attempt that a reply reveals is what is answered
answered_error : {V E T : Type 0} (e : Request V E) (value : T) (outcome : AttemptOutcome E) (c : E)
    → IsErrorOf e outcome c → answer_of e value outcome ≡ Err c
answered_error e value Met c is = absurd is
answered_error e value outcome c is = ap Err (sym is)

-- the rules of a limiter and narrower ones, of another limiter in the image of its state, with the replies that show
-- that it keeps to the narrower ones, and the states of the limiter in which they do
pub record Narrowing (S T : Type 0) : Type 1 where
  pub rules : Rules S
  pub image : S → T
  pub narrower : Rules T
  pub shown : Reply → Type 0
  pub within : S → Type 0

module _ {S T : Type 0} (n : Narrowing S T) where
  -- the metered value with the image of its limiter
  abbrev moved : {V : Type 0} → MeteredValue V S → MeteredValue V T
  moved s = record { value = s.value; meter = s.meter; limiter = n.image s.limiter }

  -- the world with the image of its limiter
  abbrev pub carried : World S → World T
  carried w = record { state = w.state; limiter = n.image w.limiter }

  -- a call on a slot
  acts_revealed : {X R : Type 0} (k : ℕ) (reply_to : R → Reply)
      (Acts : MeteredValue X S → R → ℕ → MeteredValue X S → Type 0)
      (Acts' : MeteredValue X T → R → ℕ → MeteredValue X T → Type 0)
      (s s' : MeteredValue (List (Slot X)) S) (reply : Reply) (charge : ℕ)
      → ((x x' : X) (result : R) → reply ≡ reply_to result → Acts (with_value s x) result charge (with_value s' x')
      → Acts' (with_value (moved s) x) result charge (with_value (moved s') x'))
      → ActsAt k reply_to Acts s reply charge s' → ActsAt k reply_to Acts' (moved s) reply charge (moved s')
  acts_revealed k reply_to Acts Acts' s s' reply charge too acts =
      on_live_too (live_at s.value k) _ _ _ _ (λ missing. (missing.0, missing.1, ap moved missing.2))
      (λ x h. (h.0, h.1, too x h.1 h.0 h.3 h.2, h.3, h.4)) acts

  -- where the replies to an attempt's errors show it, what the limiter sees is by the narrower rules
  abbrev pub Reveals : {V E : Type 0} → (E → Reply) → Request V E → Type 0
  Reveals {V} {E} refusal e =
      (outcome : AttemptOutcome E) (l l' : S) → n.within l → ((c : E) → IsErrorOf e outcome c → n.shown (refusal c))
      → Follows e n.rules l outcome l' → Follows e n.narrower (n.image l) outcome (n.image l')

  -- where the replies to an attempt's errors show it, the attempt is one by the narrower rules
  attempt_revealed : {V E : Type 0} (refusal : E → Reply) (e : Request V E) → Reveals refusal e
      → (s s' : MeteredValue V S) (outcome : AttemptOutcome E) (charge : ℕ) → n.within s.limiter
      → ((c : E) → IsErrorOf e outcome c → n.shown (refusal c)) → Attempt n.rules e s outcome charge s'
      → Attempt n.narrower e (moved s) outcome charge (moved s')
  attempt_revealed refusal e reveals s s' outcome charge within shown a =
      assumption (reveals outcome s.limiter s'.limiter within shown a.follows)

  -- a creation
  creates_revealed : {X E : Type 0} (refusal : E → Reply) (e : Request (Unit {0}) E) → Reveals refusal e
      → (made : X) (slots : List (Slot X)) (l : S) (reply : Reply) (slots' : List (Slot X)) (l' : S) → n.within l
      → n.shown reply → Creates refusal (Makes n.rules e made) slots l reply slots' l'
      → Creates refusal (Makes n.narrower e made) slots (n.image l) reply slots' (n.image l')
  creates_revealed refusal e reveals made slots l reply slots' l' within shows (inl none) =
      inl (none.0, none.1, ap n.image none.2)
  creates_revealed refusal e reveals made slots l reply slots' l' within shows
      (inr (result, (outcome, attempt, answered), appends)) =
      let shown : (c : _) → IsErrorOf e outcome c → n.shown (refusal c) =
      λ c is. rw (rw (answered ∙ answered_error e made outcome c is) at appends).0 at shows in
      inr (
        result,
        (
          outcome,
          attempt_revealed refusal e reveals (alone l) (alone l') outcome 0 within shown attempt,
          answered,
        ),
        appends,
      )

  -- a growth
  grows_revealed : {V E : Type 0} (g : Growth V E) (refusal : E → Reply) → Reveals refusal g.request
      → (s s' : MeteredValue V S) (result : Result ℕ E) (charge : ℕ) → n.within s.limiter
      → n.shown (reply_of replied.Number refusal result) → Grows n.rules g s result charge s'
      → Grows n.narrower g (moved s) result charge (moved s')
  grows_revealed g refusal reveals s s' result charge within shows =
      grows_too g g.request (ap moved) (λ outcome answered a. (
        answered,
        attempt_revealed refusal g.request reveals s s' outcome charge within
            (λ c error. rw (answered ∙ answered_error g.request g.size outcome c error) at shows) a,
      ))

  -- the replies to the errors of each attempt show it
  pub record EachReveals : Type 0 where
    pub memory_made : (room : Room) (ty : MemoryTypeValue) → Reveals replied.Memory (memory.creation_of room ty)
    pub memory_grown : (x : MemoryValue) (pages : ℕ) → Reveals replied.Memory (memory.growth_of x pages)
    pub table_made : (ty : TableTypeValue) (init : RefType) → Reveals replied.Table (table.creation_of ty init)
    pub table_grown : (x : TableValue) (n reference : ℕ) → Reveals replied.Table (table.growth_of x n reference)

  module _ (each : EachReveals) where
    -- an effect of any call
    module _ (w : World S) (turn : Turn) (w' : World S) (within : n.within w.limiter) (shows : n.shown turn.reply) where
      -- where its reply shows it, an effect under the one rules is one under the others
      effect_revealed : (effect : Effect) → HasEffect n.rules effect w (outcome_of turn) w'
          → HasEffect n.narrower effect (carried w) (outcome_of turn) (carried w')
      effect_revealed (MemoryMade ty) step = asks_too step step.part (n.image step.limiter)
          (creates_revealed replied.Memory (memory.creation_of Owned ty) (each.memory_made Owned ty)
          (new_memory Owned ty) w.state.memories w.limiter turn.reply step.part step.limiter within shows step.effect)
          step.room (ap carried step.after)
      effect_revealed (LentMemoryMade ty) step = asks_too step step.part (n.image step.limiter)
          (on_live_too w.state.spare _ _ _ _
          (λ none. (none.0, none.1, ap n.image none.2)) (λ region h. (
            creates_revealed replied.Memory (memory.creation_of (Lent region) ty)
                (each.memory_made (Lent region) ty) (new_memory (Lent region) ty) w.state.memories w.limiter
                turn.reply step.part.slots step.limiter within shows h.0,
            h.1,
          )) step.effect) step.room (ap carried step.after)
      effect_revealed (MemoryGrown k pages) step = acts_too step step.part step.meter (n.image step.limiter)
          (acts_revealed k (reply_of replied.Number replied.Memory) (GrowsMemoryCharging n.rules pages)
          (GrowsMemoryCharging n.narrower pages) _ _ turn.reply turn.charge (λ x x' result is. grows_revealed
          (memory_growth pages x) replied.Memory
          (each.memory_grown x pages) (metered_value x (Some w.state.meter) w.limiter)
          (metered_value x' (Some step.meter) step.limiter) result turn.charge within
          (rw is at shows)) step.effect) refl (ap carried step.after)
      effect_revealed (TableMade ty init) step = asks_too step step.part (n.image step.limiter)
          (creates_revealed replied.Table (table.creation_of ty init.ty) (each.table_made ty init.ty)
          (new_table ty init.raw) w.state.tables w.limiter turn.reply step.part step.limiter within shows step.effect)
          step.room (ap carried step.after)
      effect_revealed (TableGrown k delta init) step = acts_too step step.part step.meter (n.image step.limiter)
          (acts_revealed k (reply_of replied.Number replied.Table) (GrowsTableCharging n.rules delta init)
          (GrowsTableCharging n.narrower delta init) _ _ turn.reply turn.charge
          (λ x x' result is. on_test_too (same_type x.ty.element init.ty) _ _ _ _
          (grows_revealed (table_growth delta init.raw x) replied.Table (each.table_grown x delta init.raw)
          (metered_value x (Some w.state.meter) w.limiter) (metered_value x' (Some step.meter) step.limiter) result
          turn.charge within (rw is at shows))
          (λ mismatch. (mismatch.0, mismatch.1, ap moved mismatch.2))) step.effect) refl (ap carried step.after)
      effect_revealed (RangeWritten (TableWritten k source dst len)) step =
          unasked_too step step.part step.meter step.effect (ap carried step.after)
      effect_revealed (RangeWritten (MemoryWritten k source dst len)) step =
          unasked_too step step.part step.meter step.effect (ap carried step.after)
      effect_revealed (FuelSet fuel) step = changes_too step step.machine step.effect (ap carried step.after)
      effect_revealed (Changed change) step = changes_too step step.machine step.effect (ap carried step.after)
      effect_revealed effect step = record { free = step.free; effect = step.effect; after = ap carried step.after }

    -- a run whose turns keep the limiter in such states
    pub run_revealed : ((w : World S) (turn : Turn) (w' : World S) → n.within w.limiter → Step n.rules w turn w'
        → n.within w'.limiter) → (w : World S) (turns : List Turn) (w' : World S) → n.within w.limiter
        → All n.shown (map Turn.reply turns) → Run n.rules w turns w' → Run n.narrower (carried w) turns (carried w')
    run_revealed keeps w [] w' within shown ran = ap carried ran
    run_revealed keeps w (turn ∷ turns) w' within shown (v, step, ran) = (
      carried v,
      effect_revealed w turn v within (All-head n.shown turn.reply (map Turn.reply turns) shown)
          (effect_of w.state turn.call) step,
      run_revealed keeps v turns w' (keeps w turn v within step)
          (All-tail n.shown turn.reply (map Turn.reply turns) shown) ran,
    )

module _ {S T : Type 0} {within : S → Type 0} {image : S → T} {rules : Rules S} {rules' : Rules T}
    (carries : Carries within image rules rules') where
  -- whatever is replied, the first does so in these states
  abbrev carrying : Narrowing S T
  carrying =
      record { rules = rules; image = image; narrower = rules'; shown = λ reply. Unit {0}; within = within }

  -- in an attempt, whatever is replied, the first does what the second may do
  carries_revealed : {V E : Type 0} (refusal : E → Reply) (e : Request V E) → Reveals carrying refusal e
  carries_revealed refusal e (Unasked c) l l' here shown f = ap image f
  carries_revealed refusal e (Denied answer) l l' here shown f = (carries.asked l e.question answer l' here f).1
  carries_revealed refusal e Met l l' here shown f = (carries.asked l e.question (Ok true) l' here f).1
  carries_revealed refusal e (Failed c notice_answer) l l' here shown (permitted, asks, notices) =
      let asked = carries.asked l e.question (Ok true) permitted here asks in
      (image permitted, asked.1, (carries.noticed permitted (e.notice c) notice_answer l' asked.0 notices).1)

  -- so it does in each attempt
  abbrev each_carried : EachReveals carrying
  each_carried = record {
    memory_made = λ room ty. carries_revealed replied.Memory (memory.creation_of room ty);
    memory_grown = λ x pages. carries_revealed replied.Memory (memory.growth_of x pages);
    table_made = λ ty init. carries_revealed replied.Table (table.creation_of ty init);
    table_grown = λ x n reference. carries_revealed replied.Table (table.growth_of x n reference);
  }

  -- a run under the first from these states on leaves it in them, and is one under the second
  pub run_carried : (w : World S) (turns : List Turn) (w' : World S) → within w.limiter → Run rules w turns w'
      → within w'.limiter × Run rules' (carried carrying w) turns (carried carrying w')
  run_carried w turns w' here ran = (
    run_stays carries w turns w' here ran,
    run_revealed carrying each_carried (step_stays carries) w turns w' here (λ k d inside. tt) ran,
  )

  -- so does a step
  step_carried : (w : World S) (turn : Turn) (w' : World S) → within w.limiter → Step rules w turn w'
      → within w'.limiter × Step rules' (carried carrying w) turn (carried carrying w')
  step_carried w turn w' here step = (
    step_stays carries w turn w' here step,
    effect_revealed carrying each_carried w turn w' here tt (effect_of w.state turn.call) step,
  )

module _ {L : Type 0} (rules : Rules L) (r r' : LimiterRef (MutBor L)) (s s' : State) where
  -- a reference to a limiter does what the limiter does, and leads to what it led to
  lent_carries : Carries (IsThere (KeepsLoan r)) (option_and_then lent_limiter) (optional_rules (lent_rules rules))
      (optional_rules rules)
  lent_carries = optional_carries {rules' = rules} (record {
    asked = λ l question answer l' kept asks. (loan_kept r l l' kept asks.0, asks.1);
    noticed = λ l failure answer l' kept notices. (loan_kept r l l' kept notices.0, notices.1);
  })

  -- a call under a reference to a limiter is one under the limiter, and keeps the loan
  pub step_lent : (call : Call) (reply : Reply)
      → RepliesWith (optional_rules (lent_rules rules)) call (world s (Some r)) reply (world s' (Some r'))
      → KeepsLoan r r'
      × RepliesWith (optional_rules rules) call (world s (lent_limiter r)) reply (world s' (lent_limiter r'))
  step_lent call reply (charge, written, step) =
      let seen = step_carried lent_carries (world s (Some r)) _ (world s' (Some r')) (loan_same r) step in
      (seen.0, (charge, written, seen.1))

  -- so is a run, unless it is refused
  pub run_lent : {R E P : Type 0} (items : R → List Reply) (calls : List Call) (result : Result R E)
      → IfOk result (λ replies. IsRunOf (optional_rules (lent_rules rules)) calls (world s (Some r)) (items replies)
      (world s' (Some r')))
      → OnErr result P → (P → r' ≡ r) → KeepsLoan r r'
      × IfOk result (λ replies. IsRunOf (optional_rules rules) calls (world s (lent_limiter r)) (items replies)
      (world s' (lent_limiter r')))
  run_lent items calls (Ok replies) (turns, called, replied, ran) refused same =
      let seen = run_carried lent_carries (world s (Some r)) turns (world s' (Some r')) (loan_same r) ran in
      (seen.0, (turns, called, replied, seen.1))
  run_lent items calls (Err error) ran refused same = (rw (same refused) (loan_same r), tt)

module _ {S : Type 0} (rules : Rules S) where
  -- the replies that tell of no denial, in any state of the limiter
  abbrev undenied : Narrowing S S
  undenied = record {
    rules = rules;
    image = λ l. l;
    narrower = permitting rules;
    shown = TellsNoDenial;
    within = λ l. Unit {0};
  }

  -- the replies to an attempt's errors tell whether it was denied, where those of a denial do
  denial_revealed : {V E : Type 0} (refusal : E → Reply) (e : Request V E) → (TellsNoDenial (refusal e.denial) → ⊥)
      → (TellsNoDenial (refusal e.refusal) → ⊥) → Reveals undenied refusal e
  denial_revealed refusal e denied failed (Unasked c) l l' within shown f = f
  denial_revealed refusal e denied failed (Denied (Ok permitted)) l l' within shown f = absurd (denied (shown _ refl))
  denial_revealed refusal e denied failed (Denied (Err error)) l l' within shown f = absurd (failed (shown _ refl))
  denial_revealed refusal e denied failed Met l l' within shown f = (refl, f)
  denial_revealed refusal e denied failed (Failed c notice_answer) l l' within shown (permitted, asks, notices) =
      (permitted, (refl, asks), notices)

  -- a run of whose replies none tells of a denial
  pub permitted_run : (w : World S) (turns : List Turn) (w' : World S) → All TellsNoDenial (map Turn.reply turns)
      → Run rules w turns w' → Run (permitting rules) w turns w'
  permitted_run w turns w' = run_revealed undenied
      (record {
        memory_made = λ room ty. denial_revealed replied.Memory (memory.creation_of room ty) (λ told. told)
            (λ told. told);
        memory_grown = λ x pages. denial_revealed replied.Memory (memory.growth_of x pages) (λ told. told)
            (λ told. told);
        table_made = λ ty init. denial_revealed replied.Table (table.creation_of ty init) (λ told. told) (λ told. told);
        table_grown = λ x n reference. denial_revealed replied.Table (table.growth_of x n reference) (λ told. told)
            (λ told. told);
      }) (λ v turn v' within step. tt) w turns w' tt
