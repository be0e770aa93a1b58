-- What passes between a machine and its limiter in each turn, the reply to it, what has grown by it, and what was
-- charged for it: of an attempt, a creation, a growth, and each effect.
use Rattle.std.proofs.Common.{Bool, List, None, Option, Result, Some, ap, arith, false, inl, inr, length, map, refl, sym, true, ℕ, ◌*◌, ◌+◌, ◌-◌, ◌∙◌, ◌≡◌, ◌≢◌, ◌≤◌, ◌⊎◌}
use Rattle.wasmi_machine.proofs.Common.{nat_tests, length-append, length-replicate, map-set, map_push, none-some, same_Some, option_and_then, MatchBool, if◌then◌else◌, is_none, nat_eq, slice_set, ◌&&◌, CustomFuelCosts, IsOtherFailure, AsksFor, At, Denial, Exchange, Exchanges, GrowsAsAsked, GrowsBy, New, Nothing, NothingGrows, Notice, Nowhere, Passes, Permission, Place, RepliesTo, charge_at, writing_price, failed_charge, failed_reply, growth_charge, growth_due, growth_question, place_of, question_in, question_of, table_growth_question, writing_charge, RunsGrowAsPermitted, CreatesLent, ActsAt, AddsEntry, Creates, reply_of, MemoryPart, live_at, memory_part, byte_count, sizes, slot_count, Turn, outcome_of, World, Changed, Effect, FuelSet, LentMemoryMade, MemoryGrown, MemoryMade, RangeWritten, Step, TableGrown, TableMade, HasEffect, effect_of, Grows, Growth, Makes, metered_value, Call, GrowMemory, GrowTable, NewLentMemory, NewMemory, NewTable, Reply, Slot, Live, AttemptOutcome, Denied, Failed, Follows, IsFirstCause, MayEnd, Met, MeteredValue, Request, Unasked, answer_of, covers, error_of_answer, error_of_failure, optional_due, outcome_charge, value_after, copy_cost, Meter, due, Failure, MemoryFailure, NoticeAnswer, Question, Rules, TableFailure, kind_of, Kind, Bytes, Elements, Lent, Owned, Room, fits_room, GrowsMemoryCharging, MakesMemory, MemoryValue, new_memory, MemoryTypeValue, minimum_bytes, page_bytes, GrowsTableCharging, MakesTable, TableValue, new_table, size_of, TableTypeValue, is_within_maximum, same_type, TypedRawRef, memory_growth, table_growth}
use Rattle.wasmi_machine.proofs.EffectLemmas.{on_found}
use Rattle.wasmi_machine.proofs.MemoryEffectsLemmas.{lacks_owned}
use Rattle.wasmi_machine.proofs.AccountLemmas.{step_meter}
use Rattle.wasmi_machine.proofs.RangeLemmas.{range_holds, range_price}
use Rattle.wasmi_machine.proofs.StepsLemmas.{change_facts}
use Rattle.wasmi_machine.proofs.TotalLemmas.{count_at, counts_kept, each_kind, of_each}
use Rattle.wasmi_machine.specs.State.{IsRefusal}
use Rattle.wasmi_machine.proofs.StoreLemmas.{each_turn}
use Rattle.wasmi_store.specs.Memory as memory
use Rattle.wasmi_store.specs.Table as table
use Rattle.wasmi_machine.specs.declared.calls.Reply.TheVariants as replied
use Rattle.wasmi_meter.specs.declared.error.MemoryError.TheVariants as memory_error
use Rattle.wasmi_meter.specs.declared.error.TableError.TheVariants as table_error

-- a fact by a test, as an exchange for a growth of a table has one of the type of its elements, with what the test
-- found
on_tested : {C : Type 0} (test : Bool) (Holds Fails : Type 0) → MatchBool test Holds Fails
    → (test ≡ true → Holds → C) → (test ≡ false → Fails → C) → C
on_tested true Holds Fails h holds fails = holds refl h
on_tested false Holds Fails h holds fails = fails refl h

-- a failure is lack of memory, and its price is charged, or nothing is charged for it
pub out_of_memory_or_free : (failure : Failure)
    → ((IsOtherFailure failure → ⊥) × ((price : ℕ) → failed_charge failure price ≡ price))
    ⊎ ((price : ℕ) → failed_charge failure price ≡ 0)
out_of_memory_or_free (MemoryFailure memory_error.OutOfSystemMemory) = inl (λ no. no, λ price. refl)
out_of_memory_or_free (TableFailure table_error.OutOfSystemMemory) = inl (λ no. no, λ price. refl)
out_of_memory_or_free failure = inr (λ price. refl)

-- what an exchange is between: a limiter and the sizes before and after, the meter before, the charge, the reply, and
-- the question of the call and what it is charged for what it writes over a range
record Meeting (S : Type 0) : Type 0 where
  first : S
  last : S
  before : Kind → List ℕ
  after : Kind → List ℕ
  meter : Meter
  charge : ℕ
  reply : Reply
  question : Option Question
  writing : ℕ

-- the exchange of an attempt with this outcome
abbrev exchange_of : {V E : Type 0} → Request V E → AttemptOutcome E → Exchange
exchange_of e (Unasked cause) = Nothing
exchange_of e (Denied answer) = Denial e.question answer
exchange_of e Met = Permission e.question
exchange_of e (Failed cause notice_answer) = Notice e.question (e.notice cause) notice_answer

-- the errors of a request are replied by refusals, and a failure as it is told
record IsToldBy {V E : Type 0} (e : Request V E) (refusal : E → Reply) : Type 0 where
  refuses : (error : E) → IsRefusal (refusal error)
  fails : (cause : E) (notice_answer : NoticeAnswer)
      → refusal (error_of_failure e.refusal cause notice_answer) ≡ failed_reply (e.notice cause) notice_answer

-- the price of a request is what the meter is due for its question, and its last cause alone is lack of memory
record IsPricedAsAsked {V E : Type 0} (e : Request V E) (m : Meter) : Type 0 where
  price : optional_due (Some m) e.price ≡ growth_due m e.question
  late : (cause : E) → e.late ≡ Some cause → (price : ℕ) → failed_charge (e.notice cause) price ≡ 0
  unpaid : (due price : ℕ) → failed_charge (e.notice (e.unpaid due)) price ≡ 0
  refuses : (cause : E) → e.refuses cause → (price : ℕ) → failed_charge (e.notice cause) price ≡ price

module _ {V E : Type 0} (e : Request V E) (m : Meter) (charge : ℕ) (priced : IsPricedAsAsked e m) where
  -- the charge of a growth that failed
  failed_charged : (cause : E) (late : Option E) → e.late ≡ late → (payable : Bool)
      → covers (Some m) (optional_due (Some m) e.price) ≡ payable → IsFirstCause e (Some m) late cause
      → charge ≡ (if is_none late && payable then optional_due (Some m) e.price else 0)
      → charge ≡ failed_charge (e.notice cause) (growth_due m e.question)
  failed_charged cause (Some c) is payable enough first charged =
      rw (charged, first) (sym (priced.late c is (growth_due m e.question)))
  failed_charged cause None is true enough first charged =
      charged ∙ priced.price ∙ sym (priced.refuses cause (rw enough at first) (growth_due m e.question))
  failed_charged cause None is false enough first charged =
      let due = optional_due (Some m) e.price in
      let short : cause ≡ e.unpaid due = rw enough at first in
      rw (charged, short) (sym (priced.unpaid due (growth_due m e.question)))

  -- the charge of a growth, by its outcome
  charged_by_outcome : (outcome : AttemptOutcome E) → MayEnd e (Some m) outcome
      → charge ≡ outcome_charge e (Some m) outcome → charge ≡ growth_charge (exchange_of e outcome) m
  charged_by_outcome Met may charged = charged ∙ priced.price
  charged_by_outcome (Failed cause notice_answer) may charged =
      failed_charged cause e.late refl (covers (Some m) (optional_due (Some m) e.price)) refl may.1 charged
  charged_by_outcome outcome may charged = charged

-- the reply to a growth, by its outcome
growth_replies : {V E : Type 0} (g : Growth V E) (refusal : E → Reply) → IsToldBy g.request refusal → (reply : Reply)
    (outcome : AttemptOutcome E) → reply ≡ reply_of replied.Number refusal (answer_of g.request g.size outcome)
    → RepliesTo (exchange_of g.request outcome) reply
growth_replies g refusal told reply (Unasked cause) is = tt
growth_replies g refusal told reply (Denied answer) is =
    rw is (told.refuses (error_of_answer g.request.denial g.request.refusal answer))
growth_replies g refusal told reply Met is = λ refused. rw is at refused
growth_replies g refusal told reply (Failed cause notice_answer) is = is ∙ told.fails cause notice_answer

module _ {S : Type 0} (rules : Rules S) (t : Meeting S) (place : Place) where
  -- an exchange between two limiters, with its question and its reply, what has grown and the charge
  record Passed : Type 0 where
    exchange : Exchange
    asks : AsksFor t.question exchange t.reply
    passes : Passes rules t.first exchange t.last
    replies : RepliesTo exchange t.reply
    grows : GrowsBy place exchange t.before t.after
    charged : t.charge ≡ charge_at place exchange t.meter t.writing

  -- the limiter isn't reached, and nothing grows
  nothing_passes : AsksFor t.question Nothing t.reply → t.last ≡ t.first → NothingGrows t.before t.after
      → t.charge ≡ charge_at place Nothing t.meter t.writing → Passed
  nothing_passes unasked same still free =
      record { exchange = Nothing; asks = unasked; passes = same; replies = tt; grows = still; charged = free }

  -- an attempt passes by its outcome: one kind is watched, and the sizes of the other stay
  module _ {V E : Type 0} (e : Request V E) (tells : (cause : E) → kind_of (e.notice cause) ≡ e.question.kind)
      (others : (kind : Kind) → kind ≢ e.question.kind → t.after kind ≡ t.before kind) where
    -- the sizes of the kind after it
    abbrev GrowsByOutcome : AttemptOutcome E → Type 0
    GrowsByOutcome Met = GrowsAsAsked place e.question (t.before e.question.kind) (t.after e.question.kind)
    GrowsByOutcome outcome = t.after e.question.kind ≡ t.before e.question.kind

    -- the kind that is watched stays too
    still : t.after e.question.kind ≡ t.before e.question.kind → NothingGrows t.before t.after
    still own = of_each (λ kind. t.after kind ≡ t.before kind) e.question.kind own others

    -- the exchange
    attempt_passes : (meter : Option Meter) (outcome : AttemptOutcome E) → MayEnd e meter outcome
        → t.question ≡ question_in e → RepliesTo (exchange_of e outcome) t.reply
        → Follows e rules t.first outcome t.last → GrowsByOutcome outcome
        → t.charge ≡ charge_at place (exchange_of e outcome) t.meter t.writing → Passed
    attempt_passes meter (Unasked cause) may asks replies follows own charged =
        nothing_passes (inl (rw (asks, may))) follows (still own) charged
    attempt_passes meter (Denied answer) may asks replies follows own charged = record {
      exchange = Denial e.question answer;
      asks = rw (asks, may.0);
      passes = (may.1, follows);
      replies = replies;
      grows = still own;
      charged = charged;
    }
    attempt_passes meter Met may asks replies follows own charged = record {
      exchange = Permission e.question;
      asks = rw (asks, may.0);
      passes = follows;
      replies = replies;
      grows = (own, others);
      charged = charged;
    }
    attempt_passes meter (Failed cause notice_answer) may asks replies follows own charged = record {
      exchange = Notice e.question (e.notice cause) notice_answer;
      asks = rw (asks, may.0);
      passes = (tells cause, follows.0, follows.1, follows.2);
      replies = replies;
      grows = still own;
      charged = charged;
    }

-- slots before and after an exchange, and what is counted of each value
record Watch (S X : Type 0) : Type 0 where
  meeting : Meeting S
  count : X → ℕ
  slots : List (Slot X)
  later : List (Slot X)

-- the slots are those of a kind, and the sizes of the other kind stay
record IsWatched {S X : Type 0} (v : Watch S X) (kind : Kind) : Type 0 where
  own : v.meeting.before kind ≡ map (slot_count v.count) v.slots
  own' : v.meeting.after kind ≡ map (slot_count v.count) v.later
  others : (other : Kind) → other ≢ kind → v.meeting.after other ≡ v.meeting.before other

-- a request that makes a value of nothing
record IsCreationOf {X E : Type 0} (count : X → ℕ) (made : X) (e : Request (Unit {0}) E) : Type 0 where
  tells : (cause : E) → kind_of (e.notice cause) ≡ e.question.kind
  fresh : e.question.current ≡ 0
  full : count made ≡ e.question.desired

-- a growth of a value, which is paid for as what it asks for is
record IsGrowthOf {X E : Type 0} (count : X → ℕ) (x : X) (m : Meter) (g : Growth X E) : Type 0 where
  tells : (cause : E) → kind_of (g.request.notice cause) ≡ g.request.question.kind
  now : g.request.question.current ≡ count x
  full : count g.request.grown ≡ g.request.question.desired
  up : g.request.question.current ≤ g.request.question.desired
  priced : IsPricedAsAsked g.request m
  refusal : E → Reply
  told : IsToldBy g.request refusal

-- the live value of an index has become another one
record Replaced {S X : Type 0} (v : Watch S X) (k : ℕ) (x x' : X) : Type 0 where
  found : live_at v.slots k ≡ Some x
  put : v.later ≡ slice_set v.slots k (Live x')

-- one kind of slots, whose sizes are watched
module _ {S X : Type 0} (rules : Rules S) (v : Watch S X) where
  -- the sizes of the slots stay
  kept_passes : (kind : Kind) → IsWatched v kind → (place : Place)
      → AsksFor v.meeting.question Nothing v.meeting.reply → v.meeting.last ≡ v.meeting.first
      → map (slot_count v.count) v.later ≡ map (slot_count v.count) v.slots
      → v.meeting.charge ≡ charge_at place Nothing v.meeting.meter v.meeting.writing → Passed rules v.meeting place
  kept_passes kind watched place unasked same kept free = nothing_passes rules v.meeting place unasked same
      (of_each (λ k. v.meeting.after k ≡ v.meeting.before k) kind
      (watched.own' ∙ kept ∙ sym watched.own) watched.others) free

  -- a value that has replaced one of the same size keeps the count
  same_count : (k : ℕ) (x x' : X) → Replaced v k x x' → v.count x' ≡ v.count x
      → map (slot_count v.count) v.later ≡ map (slot_count v.count) v.slots
  same_count k x x' replaced same = rw replaced.put (counts_kept v.count v.slots k x (Live x') replaced.found same)

  -- something is made
  module _ {E : Type 0} (e : Request (Unit {0}) E) (made : X) (new : IsCreationOf v.count made e)
      (watched : IsWatched v e.question.kind) where
    -- the sizes after it, by its outcome
    made_sizes : (refusal : E → Reply) (outcome : AttemptOutcome E) (reply : Reply)
        → AddsEntry Live refusal (answer_of e made outcome) v.slots reply v.later
        → GrowsByOutcome rules v.meeting New e new.tells watched.others outcome
    made_sizes refusal Met reply appends =
        (new.fresh, rw (watched.own', appends.1, watched.own, map_push, new.full))
    made_sizes refusal outcome reply appends = rw (watched.own', appends.1, watched.own)

    -- the reply to it
    made_replies : (refusal : E → Reply) → IsToldBy e refusal → (outcome : AttemptOutcome E)
        → AddsEntry Live refusal (answer_of e made outcome) v.slots v.meeting.reply v.later
        → RepliesTo (exchange_of e outcome) v.meeting.reply
    made_replies refusal told (Unasked cause) appends = tt
    made_replies refusal told (Denied answer) appends =
        rw appends.0 (told.refuses (error_of_answer e.denial e.refusal answer))
    made_replies refusal told Met appends = λ refused. rw appends.0 at refused
    made_replies refusal told (Failed cause notice_answer) appends = appends.0 ∙ told.fails cause notice_answer

    -- the exchange of a creation
    creates_passes : (refusal : E → Reply) → IsToldBy e refusal → v.meeting.question ≡ question_in e
        → v.meeting.charge ≡ 0
        → Creates refusal (Makes rules e made) v.slots v.meeting.first v.meeting.reply v.later v.meeting.last
        → Passed rules v.meeting New
    creates_passes refusal told is free (inl none) =
        kept_passes e.question.kind watched New (inr none.0) none.2 (ap (map (slot_count v.count)) none.1) free
    creates_passes refusal told is free (inr (result, (outcome, attempt, answered), appends)) =
        let adds : AddsEntry Live refusal (answer_of e made outcome) v.slots v.meeting.reply v.later =
        rw answered at appends in
        attempt_passes rules v.meeting New e new.tells watched.others None outcome attempt.may_end is
        (made_replies refusal told outcome adds) attempt.follows (made_sizes refusal outcome v.meeting.reply adds) free

  -- something grows
  module _ {E : Type 0} (g : Growth X E) (watched : IsWatched v g.request.question.kind) (k : ℕ) (x x' : X)
      (growth : IsGrowthOf v.count x v.meeting.meter g) (replaced : Replaced v k x x') where
    -- the sizes where it doesn't
    unchanged : x' ≡ x → v.meeting.after g.request.question.kind ≡ v.meeting.before g.request.question.kind
    unchanged same = watched.own' ∙ same_count k x x' replaced (ap v.count same) ∙ sym watched.own

    -- the sizes after it, by its outcome
    grown_sizes : (outcome : AttemptOutcome E) → x' ≡ value_after g.request x outcome
        → GrowsByOutcome rules v.meeting (At k) g.request growth.tells watched.others outcome
    grown_sizes Met same = (
      growth.up,
      rw (watched.own, growth.now) (count_at v.count v.slots k x replaced.found),
      rw (watched.own', replaced.put, watched.own, map-set, same, growth.full),
    )
    grown_sizes outcome same = unchanged same

    -- the exchange of a growth
    grows_passes : (m' : Meter) (result : Result ℕ E) → v.meeting.question ≡ growth_question g.amount g.request
        → v.meeting.reply ≡ reply_of replied.Number growth.refusal result
        → Grows rules g (metered_value x (Some v.meeting.meter) v.meeting.first) result
        v.meeting.charge (metered_value x' (Some m') v.meeting.last) → Passed rules v.meeting (At k)
    grows_passes m' result asks replies (inl none) = kept_passes g.request.question.kind watched (At k)
        (inl (rw none.none at asks))
        (ap (λ (s : MeteredValue X S). s.limiter) none.same)
        (same_count k x x' replaced (ap (λ (s : MeteredValue X S). v.count s.value) none.same)) none.uncharged
    grows_passes m' result asks replies (inr some) =
        let by_some : nat_eq g.amount 0 ≡ false = grind (arith, nat_tests, some.some) in
        attempt_passes rules v.meeting (At k) g.request growth.tells watched.others (Some v.meeting.meter) some.outcome
        some.attempt.may_end (rw by_some at asks) (growth_replies g growth.refusal growth.told v.meeting.reply
        some.outcome (replies ∙ ap (reply_of replied.Number growth.refusal) some.answered)) some.attempt.follows
        (grown_sizes some.outcome some.attempt.value)
        (charged_by_outcome g.request v.meeting.meter v.meeting.charge growth.priced some.outcome some.attempt.may_end
        some.attempt.charged)

  -- a call on what an index names: nothing passes where it names nothing
  acts_pass : {R : Type 0} (kind : Kind) → IsWatched v kind → (k : ℕ) (asked : X → Option Question)
      → v.meeting.question ≡ option_and_then asked (live_at v.slots k) → (reply_to : R → Reply)
      (Acts : MeteredValue X S → R → ℕ → MeteredValue X S → Type 0) (m' : Meter)
      → ((x x' : X) (result : R) → Replaced v k x x' → v.meeting.question ≡ asked x → v.meeting.reply ≡ reply_to result
      → Acts (metered_value x (Some v.meeting.meter) v.meeting.first) result v.meeting.charge
      (metered_value x' (Some m') v.meeting.last) → Passed rules v.meeting (At k))
      → ActsAt k reply_to Acts (metered_value v.slots (Some v.meeting.meter) v.meeting.first)
      v.meeting.reply v.meeting.charge (metered_value v.later (Some m') v.meeting.last) → Passed rules v.meeting (At k)
  acts_pass kind watched k asked is reply_to Acts m' passes acts = on_found (live_at v.slots k) _ _ acts
      (λ none missing. kept_passes kind watched (At k) (inl (is ∙ ap (option_and_then asked) none))
      (ap (λ (s : MeteredValue (List (Slot X)) S). s.limiter) missing.2)
      (ap (λ (s : MeteredValue (List (Slot X)) S). map (slot_count v.count) s.value) missing.2) missing.1)
      (λ x found h. passes x h.1 h.0 (record { found = found; put = h.4 }) (is ∙ ap (option_and_then asked) found) h.3
      h.2)

-- what a growth is charged: what is due for the difference of the sizes, as it is for what was added
due_again : (m : Meter) (bytes old added : ℕ)
    → due m (λ costs. copy_cost costs added bytes) ≡ due m (λ costs. copy_cost costs (old + added - old) bytes)
due_again m bytes old added =
    ap (λ n. due m (λ costs. copy_cost costs n bytes)) (let same : added ≡ old + added - old = omega arith in same)

-- why what an exchange permitted fails: a cause after the question that a test decides
pub late_is : {E : Type 0} (fits : Bool) (late cause : E) → (if fits then None else Some late) ≡ Some cause
    → late ≡ cause
late_is true late cause is = absurd (none-some cause is)
late_is false late cause is = same_Some late cause is

-- the growth of a memory is one of its bytes, whose price is due for what it asks for
abbrev memory_growth_is : (pages : ℕ) (x : MemoryValue) (m : Meter) → IsGrowthOf byte_count x m (memory_growth pages x)
memory_growth_is pages x m = record {
  tells = λ cause. refl;
  now = refl;
  full = rw (length-append, length-replicate {A = ℕ});
  up = omega arith;
  priced = record {
    price = due_again m 1 (length x.bytes) (pages * page_bytes x.ty.page);
    late = λ cause is price. rw (← late_is (fits_room x.room (pages * page_bytes x.ty.page)) _ cause is);
    unpaid = λ due price. refl;
    refuses = λ cause wants price. rw (lacks_owned x.room cause wants);
  };
  refusal = replied.Memory;
  told = record { refuses = λ error. tt; fails = λ cause answer. refl };
}

-- the growth of a table is one of its elements, whose price is due for what it asks for
abbrev table_growth_is : (n reference : ℕ) (x : TableValue) (m : Meter) → IsGrowthOf size_of x m (table_growth n reference x)
table_growth_is n reference x m = record {
  tells = λ cause. refl;
  now = refl;
  full = rw (length-append, length-replicate {A = ℕ});
  up = omega arith;
  priced = record {
    price = due_again m 4 (size_of x) n;
    late = λ cause is price. rw (← late_is (is_within_maximum x.ty (size_of x + n)) _ cause is);
    unpaid = λ due price. refl;
    refuses = λ cause wants price. rw wants.0;
  };
  refusal = replied.Table;
  told = record { refuses = λ error. tt; fails = λ cause answer. refl };
}

-- a turn, as an exchange is between its limiters, with what its call asks and the price of what it writes over a range
abbrev meeting_of : {S : Type 0} → World S → Turn → Option Question → Option (CustomFuelCosts → ℕ) → World S
    → Meeting S
meeting_of w turn question price w' = record {
  first = w.limiter;
  last = w'.limiter;
  before = sizes w.state;
  after = sizes w'.state;
  meter = w.state.meter;
  charge = turn.charge;
  reply = turn.reply;
  question = question;
  writing = writing_charge w.state.meter price turn.reply;
}

module _ {S : Type 0} (rules : Rules S) (w : World S) (turn : Turn) (w' : World S) where
  module _ (call : Call) where
    -- a turn by this call, as an exchange is between its limiters
    abbrev meeting_by : Meeting S
    meeting_by = meeting_of w turn (question_of w.state call) (writing_price call) w'

    -- the memories before and after the turn
    abbrev memories_watch : Watch S MemoryValue
    memories_watch = record {
      meeting = meeting_by;
      count = byte_count;
      slots = w.state.memories;
      later = w'.state.memories;
    }

    -- the tables before and after the turn
    abbrev tables_watch : Watch S TableValue
    tables_watch = record {
      meeting = meeting_by;
      count = size_of;
      slots = w.state.tables;
      later = w'.state.tables;
    }

    -- the memories are watched where the tables stay
    memories_watched : w'.state.tables ≡ w.state.tables → IsWatched memories_watch Bytes
    memories_watched same = record {
      own = refl;
      own' = refl;
      others = each_kind (λ kind. kind ≢ Bytes → sizes w'.state kind ≡ sizes w.state kind) (λ other. absurd (other refl))
          (λ other. ap (map (slot_count size_of)) same);
    }

    -- the tables are watched where the memories stay
    tables_watched : w'.state.memories ≡ w.state.memories → IsWatched tables_watch Elements
    tables_watched same = record {
      own = refl;
      own' = refl;
      others = each_kind (λ kind. kind ≢ Elements → sizes w'.state kind ≡ sizes w.state kind)
          (λ other. ap (map (slot_count byte_count)) same) (λ other. absurd (other refl));
    }

    -- a memory is made
    memory_made : w'.state.tables ≡ w.state.tables → turn.charge ≡ 0 → (room : Room) (ty : MemoryTypeValue)
        → question_of w.state call ≡ question_in (memory.creation_of room ty)
        → Creates replied.Memory (MakesMemory rules room ty) w.state.memories w.limiter turn.reply w'.state.memories
        w'.limiter → Passed rules meeting_by New
    memory_made same free room ty is creates =
        creates_passes rules memories_watch (memory.creation_of room ty) (new_memory room ty)
        (record { tells = λ cause. refl; fresh = refl; full = length-replicate {A = ℕ} (minimum_bytes ty) 0 })
        (memories_watched same) replied.Memory (record { refuses = λ error. tt; fails = λ cause answer. refl }) is free
        creates

  -- a memory is made in the spare region, if there is one
  lent_made : w'.state.tables ≡ w.state.tables → turn.charge ≡ 0 → (ty : MemoryTypeValue)
      → CreatesLent rules ty (memory_part w.state) w.limiter turn.reply (memory_part w'.state) w'.limiter
      → Passed rules (meeting_by (NewLentMemory ty)) New
  lent_made same free ty creates =
      let asked : List ℕ → Option Question = λ region. question_in (memory.creation_of (Lent region) ty) in
      let call = NewLentMemory ty in
      on_found w.state.spare _ _ creates
      (λ none h. kept_passes rules (memories_watch call) Bytes (memories_watched call same) New
      (inl (ap (option_and_then asked) none)) h.2
      (ap (λ (p : MemoryPart). map (slot_count byte_count) p.slots) h.1) free)
      (λ region found h. memory_made call same free (Lent region) ty (ap (option_and_then asked) found) h.0)

  -- a table is made
  table_made : w'.state.memories ≡ w.state.memories → turn.charge ≡ 0 → (ty : TableTypeValue) (init : TypedRawRef)
      → Creates replied.Table (MakesTable rules ty init) w.state.tables w.limiter turn.reply w'.state.tables w'.limiter
      → Passed rules (meeting_by (NewTable ty init)) New
  table_made same free ty init creates =
      let call = NewTable ty init in
      creates_passes rules (tables_watch call) (table.creation_of ty init.ty) (new_table ty init.raw)
      (record { tells = λ cause. refl; fresh = refl; full = length-replicate {A = ℕ} ty.minimum init.raw })
      (tables_watched call same) replied.Table (record { refuses = λ error. tt; fails = λ cause answer. refl }) refl
      free creates

  -- a memory grows
  memory_grows : w'.state.tables ≡ w.state.tables → (k pages : ℕ) (m' : Meter)
      → ActsAt k (reply_of replied.Number replied.Memory) (GrowsMemoryCharging rules pages)
      (metered_value w.state.memories (Some w.state.meter) w.limiter) turn.reply turn.charge
      (metered_value w'.state.memories (Some m') w'.limiter)
      → Passed rules (meeting_by (GrowMemory k pages)) (At k)
  memory_grows same k pages m' acts =
      let call = GrowMemory k pages in
      acts_pass rules (memories_watch call) Bytes (memories_watched call same) k
      (λ x. growth_question pages (memory.growth_of x pages)) refl (reply_of replied.Number replied.Memory)
      (GrowsMemoryCharging rules pages) m'
      (λ x x' result replaced. grows_passes rules (memories_watch call) (memory_growth pages x)
      (memories_watched call same) k x x' (memory_growth_is pages x w.state.meter) replaced m' result) acts

  -- a table grows, if what it is filled with has its type
  table_grows : w'.state.memories ≡ w.state.memories → (k n : ℕ) (init : TypedRawRef) (m' : Meter)
      → ActsAt k (reply_of replied.Number replied.Table) (GrowsTableCharging rules n init)
      (metered_value w.state.tables (Some w.state.meter) w.limiter) turn.reply turn.charge
      (metered_value w'.state.tables (Some m') w'.limiter)
      → Passed rules (meeting_by (GrowTable k n init)) (At k)
  table_grows same k n init m' acts =
      let watch = tables_watch (GrowTable k n init) in
      let watched = tables_watched (GrowTable k n init) same in
      acts_pass rules watch Elements watched k (table_growth_question n init) refl
      (reply_of replied.Number replied.Table) (GrowsTableCharging rules n init) m'
      (λ x x' result replaced asks replies grows. on_tested (same_type x.ty.element init.ty) _ _ grows
      (λ typed h. grows_passes rules watch (table_growth n init.raw x) watched k x x'
      (table_growth_is n init.raw x w.state.meter) replaced m' result (rw typed at asks) replies h)
      (λ untyped h. kept_passes rules watch Elements watched (At k) (inl (rw untyped at asks))
      (ap (λ (s : MeteredValue TableValue S). s.limiter) h.2) (same_count rules watch k x x' replaced
      (ap (λ (s : MeteredValue TableValue S). size_of s.value) h.2)) h.1)) acts

-- nothing has grown by an effect
abbrev GrowsNothing : Effect → Type 0
GrowsNothing (MemoryMade ty) = ⊥
GrowsNothing (LentMemoryMade ty) = ⊥
GrowsNothing (MemoryGrown k pages) = ⊥
GrowsNothing (TableMade ty init) = ⊥
GrowsNothing (TableGrown k n init) = ⊥
GrowsNothing effect = Unit {0}

-- nothing is charged where nothing is paid for
free_writing : (m : Meter) (reply : Reply) → writing_charge m None reply ≡ 0
free_writing m replied.Done = refl
free_writing m reply = refl

-- what an effect costs that writes over a range
abbrev price_by : Effect → Option (CustomFuelCosts → ℕ)
price_by (RangeWritten write) = range_price write
price_by effect = None

module _ {S : Type 0} (rules : Rules S) (w : World S) (turn : Turn) (w' : World S) where
  -- the turn asks nothing, is charged nothing, and ends in a world with the same limiter and the same sizes
  idle : {v : World S} → w' ≡ v → v.limiter ≡ w.limiter → NothingGrows (sizes w.state) (sizes v.state)
      → turn.charge ≡ 0 → Passed rules (meeting_of w turn None None w') Nowhere
  idle {v} is unasked still free = rw is (nothing_passes rules (meeting_of w turn None None v) Nowhere (inl refl)
      unasked still (free ∙ sym (free_writing w.state.meter turn.reply)))

  -- an effect that makes nothing grow asks nothing, and is charged for what it writes
  effect_idles : (effect : Effect) → GrowsNothing effect → HasEffect rules effect w (outcome_of turn) w'
      → Passed rules (meeting_of w turn None (price_by effect) w') Nowhere
  effect_idles (MemoryMade ty) nothing step = absurd nothing
  effect_idles (LentMemoryMade ty) nothing step = absurd nothing
  effect_idles (MemoryGrown k pages) nothing step = absurd nothing
  effect_idles (TableMade ty init) nothing step = absurd nothing
  effect_idles (TableGrown k n init) nothing step = absurd nothing
  effect_idles (RangeWritten write) nothing step =
      let holds = range_holds w write turn w' step in
      nothing_passes rules (meeting_of w turn None (range_price write) w') Nowhere (inl refl) holds.unasked holds.still
      holds.charged
  effect_idles (FuelSet fuel) nothing step =
      idle step.after refl (λ kind. rw step.effect.1) step.free.0
  effect_idles (Changed change) nothing step =
      idle step.after refl ((change_facts w.state change).still turn.reply step.machine step.effect) step.free.0
  effect_idles effect nothing step = idle step.after refl (λ kind. refl) step.free.0

  -- what passes in a turn by each call
  call_passes : (call : Call) → HasEffect rules (effect_of w.state call) w (outcome_of turn) w'
      → Passed rules (meeting_by rules w turn w' call) (place_of call)
  call_passes (NewMemory ty) step = memory_made rules w turn w' (NewMemory ty)
      (rw step.after) step.free.0 Owned ty refl (rw step.after step.effect)
  call_passes (NewLentMemory ty) step = lent_made rules w turn w'
      (rw step.after) step.free.0 ty (rw step.after step.effect)
  call_passes (GrowMemory k pages) step = memory_grows rules w turn w'
      (rw step.after) k pages step.meter (rw step.after step.effect)
  call_passes (NewTable ty init) step = table_made rules w turn w'
      (rw step.after) step.free.0 ty init (rw step.after step.effect)
  call_passes (GrowTable k n init) step = table_grows rules w turn w'
      (rw step.after) k n init step.meter (rw step.after step.effect)
  call_passes call step = effect_idles (effect_of w.state call) tt step

-- a step asks, grows and is charged as its call says
pub growths_are_permitted : {S : Type 0} (rules : Rules S) (w : World S) (turn : Turn) (w' : World S)
    → Step rules w turn w' → Exchanges rules w turn w'
growths_are_permitted rules w turn w' step =
    let passed = call_passes rules w turn w' turn.call step in
    record {
      exchange = passed.exchange;
      asks = passed.asks;
      passes = passed.passes;
      replies = passed.replies;
      grows = passed.grows;
      charged = passed.charged;
      meter = step_meter rules w turn w' step;
    }

-- every turn of a run asks, grows and is charged as a step does
pub run_growths_are_permitted : {S : Type 0} (rules : Rules S) → RunsGrowAsPermitted rules
run_growths_are_permitted rules = each_turn rules _ (growths_are_permitted rules)
