-- Turns by what a call replies and leaves, as the functions of `src/store.rt` answer it, also from another world and by
-- a copy of bytes; and turns and runs one after another.
use Rattle.std.proofs.Common.{Some, refl, ℕ, ◌∙◌, ◌≡◌, ◌+◌, ◌<◌, List, [], ◌∷◌, ◌++◌, length, take, get_or, arith, ◌^◌}
use Rattle.wasmi_machine.proofs.Common.{ActsMetered, ActsMeteredUnasked, Asks, Changes, ChangesPart, IfNoRoom, OnlyReplies, State, Turn, TurnOutcome, World, world, metered, metered_value, WithCharge, Call, Reply, MeteredValue, Meter, take_more, map-append, Rules, Step, RepliesWith, Sequence, Run, IsRunOf, Vec, WritesMemoryAt, RepliesWithoutLimiter, SomeCopy, Write, with_memories}
use Rattle.std.specs.Global.{Global}
use denote.RawPtr.{null_ptr}

-- the state with another count of slots that are reserved, of memories or of tables
abbrev pub memories_reserved : ℕ → State → State
memories_reserved n s = record s { reserved = record s.reserved { memories = n } }

abbrev pub tables_reserved : ℕ → State → State
tables_reserved n s = record s { reserved = record s.reserved { tables = n } }

-- the outcome of a free turn by what a call replies
abbrev pub free_outcome : Reply → TurnOutcome
free_outcome reply = record { reply = reply; charge = 0; written = 0 }

-- a call is answered by a reply: it takes a turn with some charge and some bytes written
abbrev pub IsAnswered : Reply → (TurnOutcome → Type 0) → Type 0
IsAnswered reply Takes =
    (charge : ℕ) × (written : ℕ) × Takes (record { reply = reply; charge = charge; written = written })

module _ {S : Type 0} {w : World S} {reply : Reply} where
  -- a call that only replies is answered
  pub replies : {Relation : Reply → Type 0} → Relation reply
      → IsAnswered reply (λ outcome. OnlyReplies w outcome w Relation)
  replies effect = (0, 0, record { free = (refl, refl); effect = effect; after = refl })

  -- a call that changes the state is answered
  pub changes : {Relation : Reply → State → Type 0} {s : State} → Relation reply s
      → IsAnswered reply (λ outcome. Changes w outcome (record w { state = s }) Relation)
  changes effect = (0, 0, record { free = (refl, refl); machine = _; effect = effect; after = refl })

  module _ {A : Type 0} {with_part : A → State} (part : A) where
    -- a turn of a call that changes one part of the state
    pub changes_part : {Relation : Reply → A → Type 0} → Relation reply part
        → Changes w (free_outcome reply) (record w { state = with_part part }) (ChangesPart with_part Relation)
    changes_part effect = record {
      free = (refl, refl);
      machine = _;
      effect = record { part = part; effect = effect; after = refl };
      after = refl;
    }

    -- a call that changes one part of the state is answered
    pub alters : {Relation : Reply → A → Type 0} → Relation reply part → IsAnswered reply
        (λ outcome. Changes w outcome (record w { state = with_part part }) (ChangesPart with_part Relation))
    alters effect = (0, 0, changes_part effect)

  -- the new state also has a count, which is proved to be the old one
  module _ {A : Type 0} {with_part : A → State} (counted : ℕ → State → State) (part : A) {n m : ℕ}
      (same : n ≡ m) where
    module _ (kept : counted m (with_part part) ≡ with_part part) where
      -- a turn of a call that changes one part of the state
      pub changes_kept : {Relation : Reply → A → Type 0} → Relation reply part → Changes w (free_outcome reply)
          (record w { state = counted n (with_part part) }) (ChangesPart with_part Relation)
      changes_kept effect = rw (same, kept) (changes_part part effect)

      -- a call that changes one part of the state is answered
      pub alters_kept : {Relation : Reply → A → Type 0} → Relation reply part → IsAnswered reply (λ outcome.
          Changes w outcome (record w { state = counted n (with_part part) }) (ChangesPart with_part Relation))
      alters_kept effect = (0, 0, changes_kept effect)

      -- a call that makes something under the limiter is answered
      pub asks_kept : {Lacks : Type 0} {Relation : S → Reply → A → S → Type 0} {l : S} → Relation w.limiter reply part l
          → IfNoRoom reply Lacks → IsAnswered reply (λ outcome.
          Asks w outcome (world (counted n (with_part part)) l) Lacks with_part Relation)
      asks_kept effect room = (
        0,
        0,
        record {
          free = (refl, refl);
          part = part;
          limiter = _;
          effect = effect;
          room = room;
          after = rw (same, kept) refl;
        },
      )

    -- a call that acts on one part, with some charge and without the limiter, is answered
    pub acts_kept : {old : A} {bytes : Reply → ℕ} {meter : Meter}
        (kept : counted m (record (with_part part) { meter = meter }) ≡ record (with_part part) { meter = meter })
        {Relation : MeteredValue A (Unit {0}) → Reply → ℕ → MeteredValue A (Unit {0}) → Type 0}
        → WithCharge Relation (metered old (Some w.state.meter)) reply (metered part (Some meter))
        → IsAnswered reply (λ outcome. ActsMeteredUnasked w outcome
        (record w { state = counted n (record (with_part part) { meter = meter }) }) old with_part Relation bytes)
    acts_kept kept (charge, effect) = (
      charge,
      _,
      record { part = part; meter = _; effect = effect; wrote = refl; after = rw (same, kept) refl },
    )

  module _ {A : Type 0} {old : A} {with_part : A → State} {bytes : Reply → ℕ} (part : A) {meter : Meter} where
    -- a call that acts on one part of the state, with some charge, is answered
    pub acts : {Relation : MeteredValue A S → Reply → ℕ → MeteredValue A S → Type 0} {l : S}
        → WithCharge Relation (metered_value old (Some w.state.meter) w.limiter) reply
        (metered_value part (Some meter) l) → IsAnswered reply (λ outcome. ActsMetered w outcome
        (world (record (with_part part) { meter = meter }) l) old with_part Relation bytes)
    acts (charge, effect) = (
      charge,
      bytes reply,
      record { part = part; meter = meter; limiter = _; effect = effect; wrote = refl; after = refl },
    )

-- a turn is one from another world too, also with another limiter, by what it does to that world
module _ {S T : Type 0} {v v' : World S} {w w' : World T} {outcome : TurnOutcome} where
  -- a turn that changes the state
  pub changes_too : {Relation Relation' : Reply → State → Type 0} (step : Changes v outcome v' Relation)
      (machine : State) → Relation' outcome.reply machine → w' ≡ record w { state = machine } → Changes w outcome w' Relation'
  changes_too step machine effect after = record { free = step.free; machine = machine; effect = effect; after = after }

  module _ {A : Type 0} {with_part with_part' : A → State} where
    -- a turn that makes something under the limiter
    pub asks_too : {Lacks Lacks' : Type 0} {Relation : S → Reply → A → S → Type 0}
        {Relation' : T → Reply → A → T → Type 0} (step : Asks v outcome v' Lacks with_part Relation) (part : A)
        (limiter : T) → Relation' w.limiter outcome.reply part limiter → IfNoRoom outcome.reply Lacks'
        → w' ≡ world (with_part' part) limiter → Asks w outcome w' Lacks' with_part' Relation'
    asks_too step part limiter effect room after = record {
      free = step.free;
      part = part;
      limiter = limiter;
      effect = effect;
      room = room;
      after = after;
    }

    -- a turn that acts on one part of the state, with a charge, from another world too
    pub acts_too : {old old' : A} {Relation : MeteredValue A S → Reply → ℕ → MeteredValue A S → Type 0}
        {Relation' : MeteredValue A T → Reply → ℕ → MeteredValue A T → Type 0} {bytes bytes' : Reply → ℕ}
        (step : ActsMetered v outcome v' old with_part Relation bytes) (part : A) (meter : Meter) (limiter : T)
        → Relation' (metered_value old' (Some w.state.meter) w.limiter) outcome.reply outcome.charge
        (metered_value part (Some meter) limiter) → bytes outcome.reply ≡ bytes' outcome.reply
        → w' ≡ world (record (with_part' part) { meter = meter }) limiter
        → ActsMetered w outcome w' old' with_part' Relation' bytes'
    acts_too step part meter limiter effect same after = record {
      part = part;
      meter = meter;
      limiter = limiter;
      effect = effect;
      wrote = step.wrote ∙ same;
      after = after;
    }

    -- a turn that acts on one part of the state, with a charge and without the limiter
    pub unasked_too : {old old' : A}
        {Relation Relation' : MeteredValue A (Unit {0}) → Reply → ℕ → MeteredValue A (Unit {0}) → Type 0}
        {bytes : Reply → ℕ} (step : ActsMeteredUnasked v outcome v' old with_part Relation bytes) (part : A)
        (meter : Meter) → Relation' (metered old' (Some w.state.meter)) outcome.reply outcome.charge (metered part (Some meter))
        → w' ≡ record w { state = record (with_part' part) { meter = meter } }
        → ActsMeteredUnasked w outcome w' old' with_part' Relation' bytes
    unasked_too step part meter effect after =
        record { part = part; meter = meter; effect = effect; wrote = step.wrote; after = after }

-- a `Vec` with these items, for a turn by the call `Write`
abbrev pub vec_of : (items : List ℕ) → length items < 2 ^ 63 → Vec ℕ Global
vec_of items short = record {
  ptr = null_ptr;
  len = length items;
  cap = length items;
  alloc = record { memory = record { seal = tt } };
  items = items;
  ok = (refl, omega arith);
  small = short;
}

-- a write of bytes is a step by the call `Write` with a copy of them, whatever the limiter is
pub write_replies : {S : Type 0} (rules : Rules S) (memory offset : ℕ) (bytes : List ℕ) → length bytes < 2 ^ 63
    → (s : State) (reply : Reply) (s' : State) → WritesMemoryAt memory offset bytes s.memories reply s'.memories
    → s' ≡ with_memories s s'.memories
    → SomeCopy bytes (λ copy. RepliesWithoutLimiter rules (Write memory offset copy) s reply s')
write_replies rules memory offset bytes short s reply s' writes rest =
    (vec_of bytes short, refl, λ limiter. rw rest (changes_part s'.memories writes))

module _ {S : Type 0} (rules : Rules S) where
  -- an answer to a call is that of a run of it alone
  pub run_of_one : (call : Call) (u : World S) (reply : Reply) (v : World S) → RepliesWith rules call u reply v
      → IsRunOf rules (call ∷ []) u (reply ∷ []) v
  run_of_one call u reply v (charge, written, step) = (
    record { call = call; reply = reply; charge = charge; written = written } ∷ [],
    refl,
    refl,
    (v, step, refl),
  )

  -- two runs in a row are one
  pub runs_joined : (u : World S) (turns : List Turn) (v : World S) (turns' : List Turn) (w : World S)
      → Run rules u turns v → Run rules v turns' w → Run rules u (turns ++ turns') w
  runs_joined u [] v turns' w ran ran' = rw (← ran) ran'
  runs_joined u (turn ∷ turns) v turns' w (t, step, ran) ran' = (t, step, runs_joined t turns v turns' w ran ran')

  -- two runs of calls in a row are one
  pub runs_of_calls_joined : (calls calls' : List Call) (u v w : World S) (replies replies' : List Reply)
      → IsRunOf rules calls u replies v → IsRunOf rules calls' v replies' w
      → IsRunOf rules (calls ++ calls') u (replies ++ replies') w
  runs_of_calls_joined calls calls' u v w replies replies' (turns, made, told, ran) (turns', made', told', ran') = (
    turns ++ turns',
    rw (map-append, made, made'),
    rw (map-append, told, told'),
    runs_joined u turns v turns' w ran ran',
  )

  -- a run of the calls up to a place, and an answer to the call there, are a run of one call more
  pub run_more : (calls : List Call) (i : ℕ) (call : Call) (u v w : World S) (replies : List Reply) (reply : Reply)
      → i < length calls → call ≡ get_or calls i call → IsRunOf rules (take i calls) u replies v
      → RepliesWith rules call v reply w → IsRunOf rules (take (i + 1) calls) u (replies ++ reply ∷ []) w
  run_more calls i call u v w replies reply within here ran answers =
      rw (take_more calls i call within, ← here)
      (runs_of_calls_joined (take i calls) (call ∷ []) u v w replies (reply ∷ []) ran (run_of_one call v reply w answers))

  -- what holds of each step holds of each turn of a run
  pub each_turn : (Holds : World S → Turn → World S → Type 0)
      → ((w : World S) (turn : Turn) (w' : World S) → Step rules w turn w' → Holds w turn w')
      → (w : World S) (turns : List Turn) (w' : World S) → Run rules w turns w'
      → Sequence (λ v turn v'. Step rules v turn v' × Holds v turn v') w turns w'
  each_turn Holds law w [] w' ran = ran
  each_turn Holds law w (turn ∷ turns) w' (v, step, ran) =
      (v, (step, law w turn v step), each_turn Holds law v turns w' ran)

  -- an answered call, with the call and the state before it by other names
  pub answers_at : {call call' : Call} {m m' : State} (l : S) (reply : Reply) (w : World S) → call ≡ call' → m' ≡ m
      → RepliesWith rules call' (world m' l) reply w → RepliesWith rules call (world m l) reply w
  answers_at l reply w same is answers = rw (same, ← is) answers

  -- an answer without the limiter, with the call and the state before it by other names
  pub unasked_at : {call call' : Call} {m m' : State} (reply : Reply) (s : State) → call ≡ call' → m' ≡ m
      → RepliesWithoutLimiter rules call' m' reply s → RepliesWithoutLimiter rules call m reply s
  unasked_at reply s same is answers = rw (same, ← is) answers
