-- What a refused turn, and a run of refused turns, keeps: the contents, the spare region and the meter.
use Rattle.std.proofs.Common.{List, None, Option, Some, [], ap, inl, inr, map, refl, sym, ℕ, ◌∙◌, ◌∷◌, ◌≡◌}
use Rattle.wasmi_machine.proofs.Common.{All-head, All-tail, same_Some, All, if◌then◌else◌, is_some, memory_growth, table_growth, ChangesMeter, AsksFor, At, Exchange, Exchanges, New, Notice, Nowhere, Passes, Permission, Place, RepliesTo, charge_at, writing_price, growth_charge, growth_due, place_of, question_of, writing_charge, Keeps, KeepsMeter, KeepsSpare, SameContents, reply_of, spare_after, Run, Changed, Effect, FuelSet, LentMemoryMade, MemoryGrown, MemoryMade, RangeWritten, Step, TableGrown, TableMade, HasEffect, effect_of, State, with_memories, with_tables, Turn, outcome_of, World, Call, NewLentMemory, SetFuel, Reply, Rules, Meter, meter_after, meter_set, PaysCharge, CustomFuelCosts, on_test, Lent, Owned, GrowsMemoryCharging, MakesMemory, GrowsTableCharging, MakesTable, same_type, metered_value}
use Rattle.wasmi_machine.proofs.EffectLemmas.{acts_back, creates_back, grows_back, on_found}
use Rattle.wasmi_machine.proofs.ExchangeLemmas.{growths_are_permitted, out_of_memory_or_free}
use Rattle.wasmi_machine.proofs.StepsLemmas.{change_facts}
use Rattle.wasmi_machine.proofs.RangeLemmas.{range_holds, refused_writing}
use Rattle.wasmi_machine.specs.State.{IsRefusal}
use Rattle.wasmi_meter.proofs.AttemptLemmas.{meter_after_nothing}
use Rattle.wasmi_meter.specs.declared.fuel.FuelError.TheVariants.{FuelMeteringDisabled}
use Rattle.wasmi_machine.specs.declared.calls.Reply.TheVariants as replied

-- the spare region stays, unless the effect makes a memory in it
abbrev LeavesSpare : Effect → Reply → State → State → Type 0
LeavesSpare (LentMemoryMade ty) reply s s' = s'.spare ≡ spare_after reply s.spare
LeavesSpare effect reply s s' = s'.spare ≡ s.spare

-- the spare region stays, unless the call makes a memory in it
spare_kept : (s s' : State) (call : Call) (reply : Reply) → LeavesSpare (effect_of s call) reply s s'
    → KeepsSpare call reply s s'
spare_kept s s' (NewLentMemory ty) reply leaves = leaves
spare_kept s s' call reply leaves = leaves

-- the turn ends in a world with the same state, or with the same state but for its meter
module _ {S : Type 0} (w w' : World S) where
  -- with another meter and spare region, the contents are the same
  but_spare : (m : Meter) (spare : Option (List ℕ)) → {v : World S} → w' ≡ v
      → v.state ≡ record w.state { meter = m; spare = spare } → SameContents w.state w'.state
  but_spare m spare is same = rw (is, same) refl

  -- with another meter, the contents and the spare region are the same
  paid : (m : Meter) → {v : World S} → w' ≡ v → v.state ≡ record w.state { meter = m }
      → SameContents w.state w'.state × (w'.state.spare ≡ w.state.spare)
  paid m is same = (but_spare m w.state.spare is same, rw (is, same))

  -- with the same state, the contents and the spare region are the same
  kept : {v : World S} → w' ≡ v → v.state ≡ w.state → SameContents w.state w'.state × (w'.state.spare ≡ w.state.spare)
  kept = paid w.state.meter

-- a meter that is off isn't set
unset : (left : Option ℕ) (costs : CustomFuelCosts) (fuel : ℕ) (reply : Reply) → IsRefusal reply
    → reply ≡ (if is_some left then replied.Done else replied.Fuel FuelMeteringDisabled)
    → meter_set (record { left = left; costs = costs })
    fuel ≡ (let m : Meter = record { left = left; costs = costs } in m)
unset None costs fuel reply refused is = refl
unset (Some n) costs fuel reply refused is = absurd (rw is at refused)

module _ {S : Type 0} (rules : Rules S) (w : World S) (turn : Turn) (w' : World S)
    (refused : IsRefusal turn.reply) where
  -- a refused effect keeps the contents, and leaves the spare region as its kind says
  effect_back : (effect : Effect) → HasEffect rules effect w (outcome_of turn) w'
      → SameContents w.state w'.state × LeavesSpare effect turn.reply w.state w'.state
  effect_back (FuelSet fuel) step = paid w w' _ step.after step.effect.1
  effect_back (Changed change) step =
      kept w w' step.after ((change_facts w.state change).back turn.reply step.machine refused step.effect)
  effect_back (MemoryMade ty) step = kept w w' step.after
      (ap (with_memories w.state) (creates_back replied.Memory (MakesMemory rules Owned ty) w.state.memories w.limiter
      turn.reply step.part step.limiter refused step.effect))
  effect_back (LentMemoryMade ty) step =
      let same : step.part.slots ≡ w.state.memories = on_found w.state.spare _ _ step.effect (λ missing none. rw none.1)
      (λ region found made. creates_back replied.Memory (MakesMemory rules (Lent region) ty) w.state.memories w.limiter
      turn.reply step.part.slots step.limiter refused made.0) in (
        but_spare w w' w.state.meter step.part.spare step.after (rw same),
        rw step.after (on_found w.state.spare _ _ step.effect (λ missing none. rw (none.1, missing, none.0))
            (λ region found made. made.1)),
      )
  effect_back (MemoryGrown k pages) step = paid w w' step.meter step.after
      (rw (acts_back k (reply_of replied.Number replied.Memory) (GrowsMemoryCharging rules pages)
      (λ s s'. grows_back replied.Memory rules (memory_growth pages s.value) s s')
      (metered_value w.state.memories (Some w.state.meter) w.limiter)
      (metered_value step.part (Some step.meter) step.limiter) turn.reply turn.charge refused step.effect))
  effect_back (TableMade ty init) step = kept w w' step.after
      (ap (with_tables w.state) (creates_back replied.Table (MakesTable rules ty init) w.state.tables w.limiter
      turn.reply step.part step.limiter refused step.effect))
  effect_back (TableGrown k n init) step = paid w w' step.meter step.after
      (rw (acts_back k (reply_of replied.Number replied.Table) (GrowsTableCharging rules n init)
      (λ s s' charge result back grows. on_test (same_type s.value.ty.element init.ty) _ _ grows
      (grows_back replied.Table rules (table_growth n init.raw s.value) s s' charge result back)
      (λ other. rw other.2))
      (metered_value w.state.tables (Some w.state.meter) w.limiter)
      (metered_value step.part (Some step.meter) step.limiter) turn.reply turn.charge refused step.effect))
  effect_back (RangeWritten write) step = kept w w' ((range_holds w write turn w' step).back refused) refl
  effect_back effect step = kept w w' step.after refl

  -- the meter stays, where nothing was charged
  stays : PaysCharge w.state.meter turn.charge w'.state.meter → turn.charge ≡ 0 → KeepsMeter rules w turn w'
  stays takes free = inl (takes.1 ∙ ap (meter_after w.state.meter) free
      ∙ sym (same_Some w.state.meter (meter_after w.state.meter 0) (meter_after_nothing (Some w.state.meter))))

  -- a refused growth keeps the meter, except the price where there wasn't enough memory
  growth_meter : (k : ℕ) × (place_of turn.call ≡ At k) → (exchange : Exchange)
      → AsksFor (question_of w.state turn.call) exchange turn.reply → Passes rules w.limiter exchange w'.limiter
      → RepliesTo exchange turn.reply → turn.charge ≡ growth_charge exchange w.state.meter
      → PaysCharge w.state.meter turn.charge w'.state.meter → KeepsMeter rules w turn w'
  growth_meter at (Permission question) asks passes replies charged takes = absurd (replies refused)
  growth_meter at (Notice question failure notice_answer) asks passes replies charged takes =
      elim (out_of_memory_or_free failure) [
        | inl wanting ↦ inr (record {
          index = at.0;
          grows = at.1;
          question = question;
          asks = asks;
          failure = failure;
          notice_answer = notice_answer;
          wants = wanting.0;
          tells = passes;
          replies = replies;
          meter = rw (charged, wanting.1 (growth_due w.state.meter question)) at takes;
        })
        | inr free ↦ stays takes (charged ∙ free (growth_due w.state.meter question))
      ]
  growth_meter at exchange asks passes replies charged takes = stays takes charged

  module _ (x : Exchanges rules w turn w') (takes : PaysCharge w.state.meter turn.charge w'.state.meter) where
    -- a refused call in this place keeps the meter
    place_meter : (place : Place) → place_of turn.call ≡ place
        → turn.charge ≡ charge_at place x.exchange w.state.meter (writing_charge w.state.meter
        (writing_price turn.call) turn.reply) → KeepsMeter rules w turn w'
    place_meter Nowhere at charged =
        stays takes (charged ∙ refused_writing w.state.meter (writing_price turn.call) turn.reply refused)
    place_meter New at charged = stays takes charged
    place_meter (At k) at charged = growth_meter (k, at) x.exchange x.asks x.passes x.replies charged takes

  -- a refused call keeps the meter
  call_meter : Exchanges rules w turn w' → Step rules w turn w' → (call : Call) → turn.call ≡ call
      → ChangesMeter call w.state.meter turn.charge w'.state.meter → KeepsMeter rules w turn w'
  call_meter x step (SetFuel fuel) is changes =
      let sets : HasEffect rules (FuelSet fuel) w (outcome_of turn) w' = rw is at step in
      inl (rw (sets.after, sets.effect.1)
      (unset w.state.meter.left w.state.meter.costs fuel turn.reply refused sets.effect.0))
  call_meter x step call is changes = place_meter x changes (place_of turn.call) refl x.charged

-- a refused step keeps what a refused turn keeps
pub refusals_keep_contents : {S : Type 0} (rules : Rules S) (w : World S) (turn : Turn) (w' : World S)
    → Step rules w turn w' → IsRefusal turn.reply → Keeps rules w turn w'
refusals_keep_contents rules w turn w' step refused =
    let effect = effect_of w.state turn.call in
    let back = effect_back rules w turn w' refused effect step in
    let exchanged = growths_are_permitted rules w turn w' step in
    record {
      contents = back.0;
      spare = spare_kept w.state w'.state turn.call turn.reply back.1;
      meter = call_meter rules w turn w' refused exchanged step turn.call refl exchanged.meter;
    }

-- a run in which each turn is refused keeps the contents
pub refused_run_keeps_contents : {S : Type 0} (rules : Rules S) (w : World S) (turns : List Turn) (w' : World S)
    → Run rules w turns w' → All IsRefusal (map Turn.reply turns) → SameContents w.state w'.state
refused_run_keeps_contents rules w [] w' ran refused = (kept w w' ran refl).0
refused_run_keeps_contents rules w (turn ∷ turns) w' (v, step, ran) refused =
    let first = (refusals_keep_contents rules w turn v step
    (All-head IsRefusal turn.reply (map Turn.reply turns) refused)).contents in
    refused_run_keeps_contents rules v turns w' ran (All-tail IsRefusal turn.reply (map Turn.reply turns) refused)
    ∙ ap (λ (s : State). record s { meter = w'.state.meter; spare = w'.state.spare }) first
