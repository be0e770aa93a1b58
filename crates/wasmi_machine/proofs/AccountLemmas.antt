-- That what each turn is charged can be paid, and what it takes of the meter, whose costs stay, also by an attempt, a
-- growth or a write over a range; and that the account of a run balances.
use Rattle.std.proofs.Common.{Bool, List, None, Option, Result, Some, [], arith, false, inl, inr, refl, true, ℕ, ◌+◌, ◌-◌, ◌∷◌, ◌≡◌, ◌≤◌}
use Rattle.std.proofs.Math.Dec.{leb-zero}
use Rattle.wasmi_machine.proofs.Common.{and_parts, nat_tests, same_Some, option_map, if◌then◌else◌, is_none, nat_le, ◌&&◌, Account, Balances, ChangesMeter, account_after, charged_by, opened, ActsAt, reply_of, Run, Changed, Effect, FuelSet, MemoryGrown, RangeWritten, Step, TableGrown, HasEffect, effect_of, State, live_at, Turn, outcome_of, World, Grows, Growth, Call, SetFuel, Reply, Slot, Attempt, Request, Failed, AttemptOutcome, Met, MeteredValue, optional_due, covers, with_value, Rules, Meter, amount_left, meter_after, meter_set, PaysCharge, on_test, GrowsMemoryCharging, GrowsTableCharging, same_type, memory_growth, table_growth}
use Rattle.wasmi_machine.proofs.EffectLemmas.{on_live}
use Rattle.wasmi_machine.proofs.RangeLemmas.{range_facts}
use Rattle.wasmi_machine.proofs.StepsLemmas.{change_facts}
use Rattle.wasmi_meter.proofs.AttemptLemmas.{meter_after_nothing}
use Rattle.wasmi_machine.specs.declared.calls.Reply.TheVariants as replied

-- what a meter is charged is left, and is taken of it, if there is a meter
abbrev pub Takes : Option Meter → ℕ → Option Meter → Type 0
Takes m charge m' = (covers m charge ≡ true) × (m' ≡ option_map (λ m. meter_after m charge) m)

-- a meter pays what is taken of it
pays : (m m' : Meter) (charge : ℕ) → Takes (Some m) charge (Some m') → PaysCharge m charge m'
pays m m' charge takes =
    let within : nat_le charge (amount_left m) ≡ true = takes.0 in
    (grind (arith, nat_tests, within), same_Some m' (meter_after m charge) takes.1)

-- a meter that stays pays nothing
pays_nothing : (m m' : Meter) (charge : ℕ) → charge ≡ 0 → m' ≡ m → PaysCharge m charge m'
pays_nothing m m' charge free same =
    rw (free, same) (omega arith, same_Some m (meter_after m 0) (meter_after_nothing (Some m)))

-- a meter that is on stays on, and what is left and the charge are what was left before
pub rest_left : (m m' : Meter) (charge : ℕ) → PaysCharge m charge m' → (left : ℕ) → m.left ≡ Some left
    → (rest : ℕ) × (m'.left ≡ Some rest) × (rest + charge ≡ left)
rest_left m m' charge takes left on =
    let within : charge ≤ left = rw on at takes.0 in (left - charge, rw (takes.1, on), omega (arith, within))

-- a call keeps the costs
pub costs_kept : (call : Call) (m : Meter) (charge : ℕ) (m' : Meter) → ChangesMeter call m charge m' → m'.costs ≡ m.costs
costs_kept (SetFuel fuel) m charge m' changes = rw changes
costs_kept call m charge m' changes = rw changes.1

-- a charge of nothing can always be paid
covers_nothing : (m : Option Meter) → covers m 0 ≡ true
covers_nothing None = refl
covers_nothing (Some m) = leb-zero (amount_left m)

-- what is due can be paid where it is charged only if a test says so
covers_tested : (m : Option Meter) (amount : ℕ) (tested : Bool) → (tested ≡ true → covers m amount ≡ true)
    → covers m (if tested then amount else 0) ≡ true
covers_tested m amount true enough = enough refl
covers_tested m amount false enough = covers_nothing m

-- where nothing is charged and all stays, nothing is taken
takes_nothing : {V S : Type 0} (s s' : MeteredValue V S) (charge : ℕ) → charge ≡ 0 → s' ≡ s
    → Takes s.meter charge s'.meter
takes_nothing s s' charge free same = rw (free, same) (covers_nothing s.meter, meter_after_nothing s.meter)

-- what an attempt is charged can be paid
attempt_paid : {V E S : Type 0} (rules : Rules S) (e : Request V E) (s s' : MeteredValue V S) (charge : ℕ)
    (outcome : AttemptOutcome E) → Attempt rules e s outcome charge s' → covers s.meter charge ≡ true
attempt_paid rules e s s' charge Met attempt = rw attempt.charged attempt.may_end.2
attempt_paid rules e s s' charge (Failed cause notice_answer) attempt = rw attempt.charged
    (covers_tested s.meter (optional_due s.meter e.price)
    (is_none e.late && covers s.meter (optional_due s.meter e.price)) (λ both. (and_parts _ _ both).1))
attempt_paid rules e s s' charge outcome attempt = rw attempt.charged (covers_nothing s.meter)

-- a growth takes its charge from the meter
pub grows_takes : {V E S : Type 0} (rules : Rules S) (g : Growth V E) (s s' : MeteredValue V S) (result : Result ℕ E)
    (charge : ℕ) → Grows rules g s result charge s' → Takes s.meter charge s'.meter
grows_takes rules g s s' result charge (inl none) = takes_nothing s s' charge none.uncharged none.same
grows_takes rules g s s' result charge (inr some) =
    (attempt_paid rules g.request s s' charge some.outcome some.attempt, some.attempt.meter)

-- a call on what an index names takes its charge from the meter
acts_takes : {X R S : Type 0} (k : ℕ) (reply_to : R → Reply)
    (Acts : MeteredValue X S → R → ℕ → MeteredValue X S → Type 0)
    → ((s s' : MeteredValue X S) (result : R) (charge : ℕ) → Acts s result charge s' → Takes s.meter charge s'.meter)
    → (s s' : MeteredValue (List (Slot X)) S) (reply : Reply) (charge : ℕ) → ActsAt k reply_to Acts s reply charge s'
    → Takes s.meter charge s'.meter
acts_takes k reply_to Acts takes s s' reply charge acts = on_live (live_at s.value k) _ _ acts
    (λ missing. takes_nothing s s' charge missing.1 missing.2)
    (λ x found act. takes (with_value s x) (with_value s' act.1) act.0 charge act.2)

-- what an effect with a charge makes of the meter
abbrev ChangesMeterBy : Effect → Meter → ℕ → Meter → Type 0
ChangesMeterBy (FuelSet fuel) m charge m' = m' ≡ meter_set m fuel
ChangesMeterBy effect m charge m' = PaysCharge m charge m'

-- what a call makes of the meter is what its effect does
changed_meter : (s : State) (call : Call) (m : Meter) (charge : ℕ) (m' : Meter)
    → ChangesMeterBy (effect_of s call) m charge m' → ChangesMeter call m charge m'
changed_meter s (SetFuel fuel) m charge m' changes = changes
changed_meter s call m charge m' changes = changes

module _ {S : Type 0} (rules : Rules S) (w : World S) (turn : Turn) (w' : World S) where
  -- a turn without a charge ends in a world with the same meter
  free_in : {v : World S} → w' ≡ v → turn.charge ≡ 0 → v.state.meter ≡ w.state.meter
      → PaysCharge w.state.meter turn.charge w'.state.meter
  free_in {v} is free same = rw is (pays_nothing w.state.meter v.state.meter turn.charge free same)

  -- an effect makes of the meter what its kind says
  effect_meter : (effect : Effect) → HasEffect rules effect w (outcome_of turn) w'
      → ChangesMeterBy effect w.state.meter turn.charge w'.state.meter
  effect_meter (FuelSet fuel) step = rw (step.after, step.effect.1)
  effect_meter (Changed change) step = free_in step.after step.free.0
      ((change_facts w.state change).meter turn.reply step.machine step.effect)
  effect_meter (MemoryGrown k pages) step = rw step.after (pays w.state.meter step.meter turn.charge
      (acts_takes k (reply_of replied.Number replied.Memory) (GrowsMemoryCharging rules pages)
      (λ s s' result charge. grows_takes rules (memory_growth pages s.value) s s' result charge)
      _ _ turn.reply turn.charge step.effect))
  effect_meter (TableGrown k n init) step = rw step.after (pays w.state.meter step.meter turn.charge
      (acts_takes k (reply_of replied.Number replied.Table) (GrowsTableCharging rules n init)
      (λ s s' result charge grows. on_test (same_type s.value.ty.element init.ty) _ _ grows
      (grows_takes rules (table_growth n init.raw s.value) s s' result charge)
      (λ h. takes_nothing s s' charge h.1 h.2)) _ _ turn.reply turn.charge step.effect))
  effect_meter (RangeWritten write) step = elim (range_facts w write turn w' step) [
    | inl idle ↦ pays_nothing w.state.meter w'.state.meter turn.charge idle.uncharged (rw idle.same)
    | inr paid ↦ (paid.enough, paid.meter)
  ]
  effect_meter effect step = free_in step.after step.free.0 refl

  -- a step changes the meter as its call says
  pub step_meter : Step rules w turn w' → ChangesMeter turn.call w.state.meter turn.charge w'.state.meter
  step_meter step = changed_meter w.state turn.call w.state.meter turn.charge w'.state.meter
      (effect_meter (effect_of w.state turn.call) step)

-- an account that balances does so after a call that changes the meter
call_balances : (account : Account) (call : Call) (m : Meter) (charge : ℕ) (m' : Meter)
    → ChangesMeter call m charge m' → Balances account m → Balances (charged_by account call charge) m'
call_balances account (SetFuel fuel) m charge m' changes balances = (fuel, rw (changes, balances.1), omega arith)
call_balances account call m charge m' changes balances =
    let rest = rest_left m m' charge changes balances.0 balances.1 in
    (rest.0, rest.1, omega (arith, rest.2, balances.2))

module _ {S : Type 0} (rules : Rules S) where
  -- a run
  run_balances : (account : Account) (w : World S) → Balances account w.state.meter
      → (turns : List Turn) (w' : World S) → Run rules w turns w'
      → Balances (account_after account turns) w'.state.meter
  run_balances account w b [] w' ran = rw ran b
  run_balances account w b (turn ∷ turns) w' (v, step, ran) = run_balances (charged_by account turn.call turn.charge) v
      (call_balances account turn.call w.state.meter turn.charge v.state.meter (step_meter rules w turn v step) b)
      turns w' ran

  -- a run from where metering is on balances from the start
  pub fuel_balances : (w : World S) (left : ℕ) → w.state.meter.left ≡ Some left → (turns : List Turn) (w' : World S)
      → Run rules w turns w' → Balances (account_after (opened left) turns) w'.state.meter
  fuel_balances w left on turns w' ran = run_balances (opened left) w (left, on, omega arith) turns w' ran
