-- A run that never ran short of fuel is the same with more fuel: what is due and paid, attempts, growths, writes over a
-- range, changes of one part, and turns.
use Rattle.std.proofs.Common.{◌≡◌, ◌∙◌, ◌≤◌, ℕ, Bool, true, false, Option, Some, None, Result, Ok, Err, List, [], ◌∷◌, map, refl, sym, ap, subst, arith}
use Rattle.wasmi_laws.proofs.Common.{nat_tests, All-head, All-tail, option_map, All, MatchBool, is_none, nat_le, ◌&&◌, if◌then◌else◌, acts_too, asks_too, changes_too, unasked_too, AttemptOutcome, Met, Failed, Follows, IsFirstCause, MayEnd, MeteredValue, Request, answer_of, covers, optional_due, outcome_charge, with_value, Rules, optional_rules, Meter, meter_after, Grows, Growth, metered, metered_value, GrowsMemoryCharging, GrowsTableCharging, same_type, EndsBy, MeteredWrite, WritesCharging, write_charge, Call, SetFuel, GetFuel, Reply, Slot, AcceptsNotices, ActsAt, MatchOption, WritesRangeAt, reply_of, Run, BytesRead, BytesWritten, Change, Changed, Effect, FuelSet, MemoryGrown, RangeWritten, Step, TableGrown, MemoryWritten, TableWritten, HasChange, HasEffect, Told, effect_of, State, live_at, Turn, World, byte_write_of, write_of, both_live, on_live_too, on_test_too, grows_too, IsRange, KeepsMemory, KeepsTable, byte_range, source_range, HasFuel, MoreFuelChangesNothing, NamesNoFuel, meter_with_more, world_with_more, memory_growth, table_growth, outcome_of}
use Rattle.wasmi_meter.specs.declared.error.TableError.TheVariants as table_error
use Rattle.wasmi_meter.specs.declared.error.MemoryError.TheVariants as memory_error
use Rattle.wasmi_meter.specs.declared.fuel.CustomFuelCosts.{CustomFuelCosts}
use Rattle.wasmi_machine.specs.declared.calls.Reply.TheVariants as replied
use Rattle.wasmi_machine.proofs.AccountLemmas.{grows_takes}
use Rattle.wasmi_machine.proofs.ToldLemmas.{optional_accepts}

module _ {V E : Type 0} (refusal : E → Reply) (e : Request V E) where
  -- an attempt doesn't fail for lack of fuel: the reply to the cause of a failure doesn't say that fuel ran out
  abbrev Tells : AttemptOutcome E → Type 0
  Tells (Failed cause notice_answer) = HasFuel (refusal cause)
  Tells outcome = Unit {0}

  -- an attempt whose reply doesn't say that fuel ran out doesn't fail for that, where the limiter accepts each notice
  tells : {S T : Type 0} (rules : Rules S) → AcceptsNotices rules → (answer : T → Reply) (value : T) (l l' : S)
      (outcome : AttemptOutcome E) → HasFuel (reply_of answer refusal (answer_of e value outcome))
      → Follows e rules l outcome l' → Tells outcome
  tells rules accepts answer value l l' (Failed cause notice_answer) has (permitted, asks, notices) =
      rw (accepts permitted (e.notice cause) notice_answer l' notices) at has
  tells rules accepts answer value l l' outcome has follows = tt

module _ (more : ℕ) where
  -- the meter with more fuel
  abbrev richer : Meter → Meter
  richer m = meter_with_more more m

  -- what is metered, with more fuel
  abbrev enriched : {V S : Type 0} → MeteredValue V S → MeteredValue V S
  enriched s = record { value = s.value; meter = option_map richer s.meter; limiter = s.limiter }

  -- a meter of which so much is left
  abbrev meter_of : Option ℕ → CustomFuelCosts → Meter
  meter_of left costs = record { left = left; costs = costs }

  -- the same is due of a meter with more fuel
  same_due : (left : Option ℕ) (costs : CustomFuelCosts) (price : Option (CustomFuelCosts → ℕ))
      → optional_due (Some (richer (meter_of left costs))) price ≡ optional_due (Some (meter_of left costs)) price
  same_due None costs None = refl
  same_due left costs price = refl

  -- what could be paid can be paid with more fuel, by what is left
  still_covers : (left : Option ℕ) (costs : CustomFuelCosts) (amount : ℕ)
      → covers (Some (meter_of left costs)) amount ≡ true → covers (Some (richer (meter_of left costs))) amount ≡ true
  still_covers None costs amount enough = enough
  still_covers (Some n) costs amount enough =
      let within : nat_le amount n ≡ true = enough in grind (arith, nat_tests, within)

  -- a meter with more fuel has as much more after a charge
  same_after : (left : Option ℕ) (costs : CustomFuelCosts) (charge : ℕ)
      → covers (Some (meter_of left costs)) charge ≡ true
      → richer (meter_after (meter_of left costs) charge) ≡ meter_after (richer (meter_of left costs)) charge
  same_after None costs charge enough = refl
  same_after (Some n) costs charge enough =
      let within : nat_le charge n ≡ true = enough in
      let left : charge ≤ n = grind (arith, nat_tests, within) in
      ap (λ k. meter_of (Some k) costs) (omega (arith, left))

  -- the meter after a charge, with more fuel
  after_is : (m m' : Option Meter) (charge : ℕ) → covers m charge ≡ true
      → m' ≡ option_map (λ m. meter_after m charge) m
      → option_map richer m' ≡ option_map (λ m. meter_after m charge) (option_map richer m)
  after_is None m' charge enough same = ap (option_map richer) same
  after_is (Some m) m' charge enough same =
      ap (option_map richer) same ∙ ap Some (same_after m.left m.costs charge enough)

  module _ (m : Meter) where
    -- what is due for a price
    module _ (price : Option (CustomFuelCosts → ℕ)) where
      -- what is due
      abbrev due : ℕ
      due = optional_due (Some m) price

      -- what is due with more fuel
      abbrev richer_due : ℕ
      richer_due = optional_due (Some (richer m)) price

      -- the same is due with more fuel
      due_is : richer_due ≡ due
      due_is = same_due m.left m.costs price

      -- what could be paid can be paid with more fuel
      payable : covers (Some m) due ≡ true → covers (Some (richer m)) richer_due ≡ true
      payable enough = rw due_is (still_covers m.left m.costs due enough)

  -- an attempt whose error for lack of fuel has a reply that says so
  module _ {V E : Type 0} (refusal : E → Reply) (e : Request V E)
      (unpaid : (n : ℕ) → HasFuel (refusal (e.unpaid n)) → ⊥) where
    module _ (m : Meter) where
      -- a first cause that isn't lack of fuel: so much could be paid
      tested_cause : (cause : E) → HasFuel (refusal cause) → (tested : Bool) → covers (Some m) (due m e.price) ≡ tested
          → MatchBool tested (e.refuses cause) (cause ≡ e.unpaid (due m e.price))
          → (covers (Some m) (due m e.price) ≡ true) × e.refuses cause
      tested_cause cause has true enough first = (enough, first)
      tested_cause cause has false short first =
          absurd (unpaid (due m e.price) (subst (λ c. HasFuel (refusal c)) first has))

      -- the first cause is the first with more fuel too
      first_cause : (cause : E) → HasFuel (refusal cause) → (late : Option E) → IsFirstCause e (Some m) late cause
          → IsFirstCause e (Some (richer m)) late cause
      first_cause cause has (Some c) first = first
      first_cause cause has None first =
          let tested = tested_cause cause has _ refl first in rw (payable m e.price tested.0) tested.1

      -- a failure for that cause is charged the same with more fuel
      failed_charge : (cause : E) → HasFuel (refusal cause) → (late : Option E) → IsFirstCause e (Some m) late cause
          → (if is_none late && covers (Some m) (due m e.price) then due m e.price else 0)
          ≡ (if is_none late && covers (Some (richer m)) (richer_due m e.price) then richer_due m e.price else 0)
      failed_charge cause has (Some c) first = refl
      failed_charge cause has None first =
          let tested = tested_cause cause has _ refl first in
          rw (tested.0, payable m e.price tested.0) (sym (due_is m e.price))

    -- an attempt may end with more fuel as without
    may_end : (m : Option Meter) (outcome : AttemptOutcome E) → Tells refusal e outcome → MayEnd e m outcome
        → MayEnd e (option_map richer m) outcome
    may_end (Some m) Met told may = (may.0, may.1, payable m e.price may.2)
    may_end (Some m) (Failed cause notice_answer) told may = (may.0, first_cause m cause told e.late may.1)
    may_end m outcome told may = may

    -- an attempt is charged the same with more fuel
    same_charge : (m : Option Meter) (outcome : AttemptOutcome E) → Tells refusal e outcome → MayEnd e m outcome
        → outcome_charge e m outcome ≡ outcome_charge e (option_map richer m) outcome
    same_charge (Some m) Met told may = sym (due_is m e.price)
    same_charge (Some m) (Failed cause notice_answer) told may = failed_charge m cause told e.late may.1
    same_charge m outcome told may = refl

  module _ {S : Type 0} (rules : Rules S) (accepts : AcceptsNotices rules) where
    -- a growth is one with more fuel
    grows_richer : {V E : Type 0} (refusal : E → Reply) (g : Growth V E)
        → ((n : ℕ) → HasFuel (refusal (g.request.unpaid n)) → ⊥)
        → (s s' : MeteredValue V S) (result : Result ℕ E) (charge : ℕ)
        → HasFuel (reply_of replied.Number refusal result)
        → Grows rules g s result charge s' → Grows rules g (enriched s) result charge (enriched s')
    grows_richer refusal g unpaid s s' result charge has grows = grows_too g g.request (ap enriched) (λ outcome answered a.
        let told = tells refusal g.request rules accepts replied.Number g.size s.limiter s'.limiter outcome
        (subst (λ r. HasFuel (reply_of replied.Number refusal r)) answered has) a.follows in
        let takes = grows_takes rules g s s' result charge grows in (
          answered,
          record {
            may_end = may_end refusal g.request unpaid s.meter outcome told a.may_end;
            follows = a.follows;
            charged = a.charged ∙ same_charge refusal g.request unpaid s.meter outcome told a.may_end;
            meter = after_is s.meter s'.meter charge takes.0 a.meter;
            value = a.value;
          },
        )) grows

  -- a call with a charge on what an index names is one with more fuel
  acts_richer : {X R S : Type 0} (k : ℕ) (reply_to : R → Reply)
      (Acts : MeteredValue X S → R → ℕ → MeteredValue X S → Type 0) (s s' : MeteredValue (List (Slot X)) S)
      (reply : Reply) (charge : ℕ) → HasFuel reply
      → ((x x' : X) (result : R) → HasFuel (reply_to result) → Acts (with_value s x) result charge (with_value s' x')
      → Acts (with_value (enriched s) x) result charge (with_value (enriched s') x'))
      → ActsAt k reply_to Acts s reply charge s' → ActsAt k reply_to Acts (enriched s) reply charge (enriched s')
  acts_richer k reply_to Acts s s' reply charge has richer_acts acts =
      on_live_too (live_at s.value k) _ _ _ _ (λ missing. (missing.0, missing.1, ap enriched missing.2))
      (λ x h. (h.0, h.1, richer_acts x h.1 h.0 (subst HasFuel h.3 has) h.2, h.3, h.4)) acts

  -- a write over a range, by how it ends
  module _ {X E : Type 0} (refusal : E → Reply) (w : MeteredWrite X E)
      (unpaid : (n : ℕ) → HasFuel (refusal (w.unpaid n)) → ⊥) (x : X) (m : Meter) (result : Result (Unit {0}) E)
      (x' : X) (m' : Meter) (has : HasFuel (reply_of (λ _. replied.Done) refusal result)) where
    -- the value and the meter before a write over a range, without more fuel
    abbrev write_from : MeteredValue X (Unit {0})
    write_from = metered x (Some m)

    -- the value and the meter after it
    abbrev write_to : MeteredValue X (Unit {0})
    write_to = metered x' (Some m')

    -- a write that is paid, is paid with more fuel
    paid_richer : (value : X) (enough : Bool) → covers (Some m) (due m w.price) ≡ enough
        → MatchBool enough ((result ≡ Ok tt) × (write_to ≡ metered value (Some (meter_after m (due m w.price)))))
        ((result ≡ Err (w.unpaid (due m w.price))) × (write_to ≡ write_from))
        → MatchBool (covers (Some (richer m)) (richer_due m w.price))
        ((result ≡ Ok tt) × (enriched write_to ≡ metered value (Some (meter_after (richer m) (richer_due m w.price)))))
        ((result ≡ Err (w.unpaid (richer_due m w.price))) × (enriched write_to ≡ enriched write_from))
    paid_richer value false short ends = absurd (unpaid (due m w.price)
        (subst (λ r. HasFuel (reply_of (λ _. replied.Done) refusal r)) ends.0 has))
    paid_richer value true enough ends =
        let after = ap enriched ends.1
        ∙ ap (λ left. metered value (Some left)) (same_after m.left m.costs (due m w.price) enough) in
        rw (payable m w.price enough)
        (ends.0, after ∙ ap (λ n. metered value (Some (meter_after (richer m) n))) (sym (due_is m w.price)))

    -- the write ends with more fuel as without
    ends_richer : (early : Option E) (written : Option X) → EndsBy w write_from result write_to early written
        → EndsBy w (enriched write_from) result (enriched write_to) early written
    ends_richer (Some cause) written ends = (ends.0, ap enriched ends.1)
    ends_richer None None ends = (ends.0, ap enriched ends.1)
    ends_richer None (Some value) ends = paid_richer value (covers (Some m) (due m w.price)) refl ends

    -- the write is charged the same with more fuel
    charged_richer : (r : Result (Unit {0}) E) → write_charge w write_from r ≡ write_charge w (enriched write_from) r
    charged_richer (Ok done) = sym (due_is m w.price)
    charged_richer (Err error) = refl

  -- a write over a range is one with more fuel
  write_richer : {X E : Type 0} (refusal : E → Reply) (write : X → MeteredWrite X E)
      → ((x : X) (n : ℕ) → HasFuel (refusal ((write x).unpaid n)) → ⊥)
      → (x : X) (m : Meter) (result : Result (Unit {0}) E) (charge : ℕ) (x' : X) (m' : Meter)
      → HasFuel (reply_of (λ _. replied.Done) refusal result)
      → WritesCharging write (metered x (Some m)) result charge (metered x' (Some m'))
      → WritesCharging write (metered x (Some (richer m))) result charge (metered x' (Some (richer m')))
  write_richer refusal write unpaid x m result charge x' m' has writing = record {
    writes = ends_richer refusal (write x) (unpaid x) x m result x' m' has (write x).early (write x).written
        writing.writes;
    charged = writing.charged ∙ charged_richer refusal (write x) (unpaid x) x m result x' m' has result;
  }

  -- a write over a range of the value of an index, which may be missing, is one with more fuel
  range_richer : {X E : Type 0} (refusal : E → Reply) (Keeps : X → X → Type 0)
      (price : Option (CustomFuelCosts → ℕ)) (unpaid : ℕ → E) → ((n : ℕ) → HasFuel (refusal (unpaid n)) → ⊥)
      → (k : ℕ) (part : Option (X → MeteredWrite X E)) → MatchOption part (Unit {0}) (IsRange Keeps price unpaid)
      → (slots : List (Slot X)) (m : Meter) (reply : Reply) (charge : ℕ) (slots' : List (Slot X)) (m' : Meter)
      → HasFuel reply → WritesRangeAt refusal k part (metered slots (Some m)) reply charge (metered slots' (Some m'))
      → WritesRangeAt refusal k part (metered slots (Some (richer m))) reply charge
      (metered slots' (Some (richer m')))
  range_richer {X = X} refusal Keeps price unpaid none k part is slots m reply charge slots' m' has writes =
      let both = both_live part _ _ _ _ is writes in
      on_live_too part _ _ _ _ (λ missing. (missing.1.0, missing.1.1, ap enriched missing.1.2))
      (λ write h. acts_richer {X = X} {S = Unit {0}} k (reply_of (λ _. replied.Done) refusal) (WritesCharging write)
      (metered slots (Some m)) (metered slots' (Some m')) reply charge has
      (λ x x' result told. write_richer refusal write
      (λ x n. subst (λ (u : ℕ → _). HasFuel (refusal (u n)) → ⊥) (sym (h.0.unpaid_is x)) (none n))
      x m result charge x' m' told) h.1) both

  -- the state with more fuel
  abbrev richer_state : State → State
  richer_state s = record s { meter = richer s.meter }

  -- a change of one part is one with more fuel
  change_richer : (change : Change) (s : State) (reply : Reply) (s' : State) → HasChange change s reply s'
      → HasChange change (richer_state s) reply (richer_state s')
  change_richer (BytesWritten k offset bytes) s reply s' changes =
      record { part = changes.part; effect = changes.effect; after = ap richer_state changes.after }
  change_richer change s reply s' changes =
      record { part = changes.part; effect = changes.effect; after = ap richer_state changes.after }

-- an effect that is the same with more fuel: it doesn't set the fuel
abbrev KeepsFuel : Effect → Type 0
KeepsFuel (FuelSet fuel) = ⊥
KeepsFuel effect = Unit {0}

-- the effect of a call that doesn't set the fuel doesn't set it
keeps_fuel : (s : State) (call : Call) → NamesNoFuel call → KeepsFuel (effect_of s call)
keeps_fuel s (SetFuel fuel) other = absurd other
keeps_fuel s call other = tt

-- the effect of a call that doesn't ask for the fuel is the same, whatever the meter
same_effect : (s : State) (m : Meter) (call : Call) → NamesNoFuel call
    → effect_of (record s { meter = m }) call ≡ effect_of s call
same_effect s m GetFuel other = absurd other
same_effect s m call other = refl

module _ (more : ℕ) {S : Type 0} (rules : Rules S) (accepts : AcceptsNotices rules) where
  -- the world with more fuel
  abbrev richer_world : World S → World S
  richer_world w = world_with_more more w

  module _ (w : World S) (turn : Turn) (w' : World S) (has : HasFuel turn.reply) where
    -- a turn with an effect that doesn't set the fuel is one with more fuel
    effect_richer : (effect : Effect) → KeepsFuel effect → HasEffect rules effect w (outcome_of turn) w'
        → HasEffect rules effect (richer_world w) (outcome_of turn) (richer_world w')
    effect_richer (Told told) keeps step =
        record { free = step.free; effect = step.effect; after = ap richer_world step.after }
    effect_richer (BytesRead k offset len) keeps step =
        record { free = step.free; effect = step.effect; after = ap richer_world step.after }
    effect_richer (FuelSet fuel) keeps step = absurd keeps
    effect_richer (Changed change) keeps step = changes_too step (richer_state more step.machine)
        (change_richer more change w.state turn.reply step.machine step.effect) (ap richer_world step.after)
    effect_richer (MemoryGrown k pages) keeps step = acts_too step step.part (richer more step.meter) step.limiter
        (acts_richer more k (reply_of replied.Number replied.Memory) (GrowsMemoryCharging rules pages)
        (metered_value w.state.memories (Some w.state.meter) w.limiter)
        (metered_value step.part (Some step.meter) step.limiter) turn.reply turn.charge has
        (λ x x' result. grows_richer more rules accepts replied.Memory (memory_growth pages x) (λ n none. none)
        _ _ result turn.charge) step.effect) refl (ap richer_world step.after)
    effect_richer (TableGrown k n init) keeps step = acts_too step step.part (richer more step.meter) step.limiter
        (acts_richer more k (reply_of replied.Number replied.Table) (GrowsTableCharging rules n init)
        (metered_value w.state.tables (Some w.state.meter) w.limiter)
        (metered_value step.part (Some step.meter) step.limiter) turn.reply turn.charge has
        (λ x x' result has. on_test_too (same_type x.ty.element init.ty) _ _ _ _
        (grows_richer more rules accepts replied.Table (table_growth n init.raw x) (λ n none. none) _ _ result turn.charge has)
        (λ h. (h.0, h.1, ap (enriched more) h.2))) step.effect) refl (ap richer_world step.after)
    effect_richer (RangeWritten (TableWritten k source dst len)) keeps step =
        unasked_too step step.part (richer more step.meter)
        (range_richer more replied.Table KeepsTable _ table_error.OutOfFuel (λ n none. none) k
        (write_of source dst len) (source_range source dst len) w.state.tables w.state.meter turn.reply turn.charge
        step.part step.meter has step.effect) (ap richer_world step.after)
    effect_richer (RangeWritten (MemoryWritten k source dst len)) keeps step =
        unasked_too step step.part (richer more step.meter)
        (range_richer more replied.Memory KeepsMemory _ memory_error.OutOfFuel (λ n none. none) k
        (byte_write_of source dst len) (byte_range source dst len) w.state.memories w.state.meter turn.reply
        turn.charge step.part step.meter has step.effect) (ap richer_world step.after)
    effect_richer effect keeps step =
        asks_too step step.part step.limiter step.effect step.room (ap richer_world step.after)

    -- a step of a call that doesn't name the fuel is one with more fuel
    step_richer : NamesNoFuel turn.call → Step rules w turn w' → Step rules (richer_world w) turn (richer_world w')
    step_richer other step = rw (same_effect w.state (richer more w.state.meter) turn.call other)
        (effect_richer (effect_of w.state turn.call) (keeps_fuel w.state turn.call other) step)

  -- a run of calls that don't name the fuel is one with more fuel
  run_richer : (w : World S) (turns : List Turn) (w' : World S) → All NamesNoFuel (map Turn.call turns)
      → All HasFuel (map Turn.reply turns) → Run rules w turns w' → Run rules (richer_world w) turns (richer_world w')
  run_richer w [] w' others has ran = ap richer_world ran
  run_richer w (turn ∷ turns) w' others has (v, step, ran) = (
    richer_world v,
    step_richer w turn v (All-head HasFuel turn.reply (map Turn.reply turns) has)
        (All-head NamesNoFuel turn.call (map Turn.call turns) others) step,
    run_richer v turns w' (All-tail NamesNoFuel turn.call (map Turn.call turns) others)
        (All-tail HasFuel turn.reply (map Turn.reply turns) has) ran,
  )

-- a run under a limiter that accepts each notice is one with more fuel
pub more_fuel_changes_nothing : {L : Type 0} (rules : Rules L) → MoreFuelChangesNothing rules
more_fuel_changes_nothing rules accepts more = run_richer more (optional_rules rules) (optional_accepts rules accepts)
