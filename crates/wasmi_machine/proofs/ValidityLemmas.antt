-- A valid state stays valid by each effect, turn and run.
use Rattle.std.proofs.Common.{List, [], map, ◌∷◌}
use Rattle.wasmi_machine.proofs.Common.{All-head, All-tail, All, reply_of, Run, RepliesWith, Changed, Effect, FuelSet, LentMemoryMade, MemoryGrown, MemoryMade, RangeWritten, TableGrown, TableMade, HasEffect, effect_of, State, IsValid, IsValidCall, Turn, outcome_of, World, Call, NewMemory, Reply, Rules, Lent, Owned, GrowsMemoryCharging, IsValidMemory, MakesMemory, GrowsTableCharging, IsValidTable, MakesTable}
use Rattle.wasmi_machine.proofs.EffectLemmas.{acts_valid, creates_valid, on_live}
use Rattle.wasmi_machine.proofs.RangeLemmas.{range_holds}
use Rattle.wasmi_machine.proofs.StepsLemmas.{change_facts, valid_by}
use Rattle.wasmi_store.specs.Memory as memory_type
use Rattle.wasmi_machine.specs.declared.calls.Reply.TheVariants as replied
use Rattle.wasmi_store.proofs.ValidityLemmas as store
use Rattle.wasmi_store.specs.Table as table_type

-- the type that an effect names is valid
abbrev IsValidEffect : Effect → Type 0
IsValidEffect (MemoryMade ty) = memory_type.IsValid ty
IsValidEffect (LentMemoryMade ty) = memory_type.IsValid ty
IsValidEffect (TableMade ty init) = table_type.IsValid ty
IsValidEffect effect = Unit {0}

-- the type that an effect names is that which its call names
names_valid : (s : State) (call : Call) → IsValidCall call → IsValidEffect (effect_of s call)
names_valid s (NewMemory ty) valid = valid
names_valid s call valid = valid

module _ {S : Type 0} (rules : Rules S) (w : World S) (turn : Turn) (w' : World S) (valid : IsValid w.state) where
  -- an effect leads to a valid state, where the type that it names is valid
  effect_valid : (effect : Effect) → IsValidEffect effect → HasEffect rules effect w (outcome_of turn) w'
      → IsValid w'.state
  effect_valid (FuelSet fuel) typed step =
      rw (step.after, step.effect.1) (valid_by w.state _ (λ v. v) (λ v. v) (λ v. v) (λ v. v) valid)
  effect_valid (Changed change) typed step =
      rw step.after ((change_facts w.state change).valid turn.reply step.machine valid step.effect)
  effect_valid (MemoryMade ty) typed step = rw step.after (valid_by w.state _
      (creates_valid IsValidMemory replied.Memory (MakesMemory rules Owned ty)
      (λ l l' x makes. store.made_memory_is_valid rules Owned ty l x l' typed makes) w.state.memories w.limiter
      turn.reply step.part step.limiter step.effect) (λ v. v) (λ v. v) (λ v. v) valid)
  effect_valid (LentMemoryMade ty) typed step = rw step.after (valid_by w.state _
      (on_live w.state.spare _ _ step.effect
      (λ none. rw none.1 (λ v. v))
      (λ region found h. creates_valid IsValidMemory replied.Memory (MakesMemory rules (Lent region) ty)
      (λ l l' x makes. store.made_memory_is_valid rules (Lent region) ty l x l' typed makes) w.state.memories
      w.limiter turn.reply step.part.slots step.limiter h.0)) (λ v. v) (λ v. v) (λ v. v) valid)
  effect_valid (MemoryGrown k pages) typed step = rw step.after (valid_by w.state _
      (acts_valid IsValidMemory k (reply_of replied.Number replied.Memory) (GrowsMemoryCharging rules pages)
      (λ s s' result charge h grows. store.grown_memory_is_valid rules pages s result charge s' h grows)
      _ _ turn.reply turn.charge step.effect) (λ v. v) (λ v. v) (λ v. v) valid)
  effect_valid (TableMade ty init) typed step = rw step.after (valid_by w.state _ (λ v. v)
      (creates_valid IsValidTable replied.Table (MakesTable rules ty init)
      (λ l l' x makes. store.made_table_is_valid rules ty init l x l' typed makes) w.state.tables w.limiter turn.reply
      step.part step.limiter step.effect) (λ v. v) (λ v. v) valid)
  effect_valid (TableGrown k n init) typed step = rw step.after (valid_by w.state _ (λ v. v)
      (acts_valid IsValidTable k (reply_of replied.Number replied.Table) (GrowsTableCharging rules n init)
      (λ s s' result charge h grows. store.grown_table_is_valid rules n init s result charge s' h grows)
      _ _ turn.reply turn.charge step.effect) (λ v. v) (λ v. v) valid)
  effect_valid (RangeWritten write) typed step = (range_holds w write turn w' step).valid valid
  effect_valid effect typed step = rw step.after valid

-- a call that is answered leads from a valid state to a valid one, where the type that it names is valid
pub answer_is_valid : {S : Type 0} (rules : Rules S) (call : Call) (w : World S) (reply : Reply) (w' : World S)
    → IsValidCall call → IsValid w.state → RepliesWith rules call w reply w' → IsValid w'.state
answer_is_valid rules call w reply w' typed valid (charge, written, step) =
    effect_valid rules w (record { call = call; reply = reply; charge = charge; written = written }) w' valid
    (effect_of w.state call) (names_valid w.state call typed) step

-- a run of calls whose types are valid leads from a valid state to a valid one
pub run_keeps_validity : {S : Type 0} (rules : Rules S) (w : World S) (turns : List Turn) (w' : World S)
    → IsValid w.state → All IsValidCall (map Turn.call turns) → Run rules w turns w' → IsValid w'.state
run_keeps_validity rules w [] w' valid typed ran = rw ran valid
run_keeps_validity rules w (turn ∷ turns) w' valid typed (v, step, ran) =
    let next = effect_valid rules w turn v valid (effect_of w.state turn.call)
    (names_valid w.state turn.call (All-head IsValidCall turn.call (map Turn.call turns) typed)) step in
    run_keeps_validity rules v turns w' next (All-tail IsValidCall turn.call (map Turn.call turns) typed) ran
