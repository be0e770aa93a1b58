-- The bytes that each turn writes, what it is charged for them, and what calls that don't set the fuel were charged.
use Rattle.std.proofs.Common.{Bool, Err, List, None, Ok, Option, Result, Some, [], ap, arith, false, inl, inr, map, refl, subst, true, ℕ, ◌*◌, ◌+◌, ◌-◌, ◌/◌, ◌<◌, ◌^◌, ◌∙◌, ◌∷◌, ◌≡◌, ◌≤◌}
use Rattle.std.proofs.lemmas.List.Sums.{sum_by-le-sum_by}
use Rattle.std.proofs.Math.Nat.{add-mul, lt-div-mul-add, mul-add, mul-le-mul_left, mul_comm}
use Rattle.wasmi_machine.proofs.Common.{All, All-head, All-tail, Account, ChangesMeter, IsSpent, SetsNoFuel, account_after, and_parts, charged_by, charges, opened, nat_tests, sum_by-cons, option_map_or, cond, if◌then◌else◌, nat_eq, nat_le, nat_lt, ◌&&◌, bytes_appended, IsBounded, amount_set, amounts_set, bytes_written, charges_for_writing, has_written, is_accepted, writing_turns, ActsAt, reply_of, Run, Effect, MemoryGrown, RangeWritten, TableGrown, HasEffect, effect_of, is_charged, State, live_at, Turn, World, element_bytes, Grows, Growth, Call, SetFuel, Reply, Slot, AttemptOutcome, MayEnd, Met, optional_due, answer_of, outcome_charge, copy_cost, cut_product, Meter, Rules, MemoryError, TableError, on_test, GrowsMemoryCharging, MemoryValue, pages_of, greatest_pages, in_bounds, page_bytes, GrowsTableCharging, TableValue, same_type, TypedRawRef, memory_growth, table_growth, outcome_of, MeteredValue, with_value}
use Rattle.wasmi_machine.proofs.AccountLemmas.{fuel_balances, rest_left, costs_kept, step_meter}
use Rattle.wasmi_machine.proofs.EffectLemmas.{on_found, on_live}
use Rattle.wasmi_machine.proofs.RangeLemmas.{range_facts}
use Rattle.wasmi_machine.specs.declared.calls.Reply.TheVariants as replied

-- the bytes that a fuel pays for
abbrev rate : Meter → ℕ
rate m = m.costs.bytes_copied_per_fuel

-- a number, where something was written
abbrev counted : Bool → ℕ → ℕ
counted wrote n = if wrote then n else 0

-- where there is a meter that is on, a charge pays for what was written, and one that counts as a charge for writing for
-- less than a fuel's worth beyond it
abbrev PaysFor : Option Meter → ℕ → ℕ → Bool → Type 0
PaysFor optional charge written wrote = (m : Meter) → optional ≡ Some m → (left : ℕ) → m.left ≡ Some left → 0 < rate m
    → written ≤ rate m * counted wrote charge + counted wrote (rate m - 1)

-- any charge pays for nothing
unwritten : (m : Option Meter) (charge written : ℕ) (wrote : Bool) → written ≡ 0 → PaysFor m charge written wrote
unwritten optional charge written wrote none m is left on rated = omega (arith, none)

-- a number, where something was written, is at most the number
part_of : (counts : Bool) (n : ℕ) → counted counts n ≤ n
part_of true n = omega arith
part_of false n = omega arith

-- what a call leaves, and its charge where that is one for writing, are within what was left and what it sets the fuel to
spends : (call : Call) (reply : Reply) (m : Meter) (charge : ℕ) (m' : Meter) → ChangesMeter call m charge m' → (left : ℕ)
    → m.left ≡ Some left → (rest : ℕ) × (m'.left ≡ Some rest)
    × (rest + counted (has_written call reply) charge ≤ left + amount_set call)
spends (SetFuel fuel) reply m charge m' changes left on = (fuel, rw (changes, on), omega arith)
spends call reply m charge m' changes left on =
    let t = rest_left m m' charge changes left on in
    (t.0, t.1, omega (arith, t.2, part_of (has_written call reply) charge))

-- what so many bytes cost pays for them
price_pays : (rate n cost : ℕ) (free : Bool) → nat_eq rate 0 ≡ free → 0 < rate
    → cost ≡ (if free then 2 ^ 64 - 1 else n / rate) → n ≤ rate * cost + (rate - 1)
price_pays rate n cost true free rated is = absurd (grind (arith, nat_tests, free, rated))
price_pays rate n cost false free rated is =
    let over : n < n / rate * rate + rate = lt-div-mul-add rated in
    let turned : rate * cost ≡ n / rate * rate = ap (λ k. rate * k) is ∙ mul_comm rate (n / rate) in
    omega (arith, over, turned, rated)

-- what is due for so many bytes pays for them
due_pays : (m : Option Meter) (values size charge : ℕ)
    → charge ≡ optional_due m (Some (λ costs. copy_cost costs values size))
    → PaysFor m charge (cut_product values size) true
due_pays optional values size charge charged m is left on rated =
    price_pays (rate m) (cut_product values size) charge _ refl rated (rw (charged, is, on))

module _ {V E S : Type 0} (rules : Rules S) (g : Growth V E) (s s' : MeteredValue V S) (charge : ℕ) where
  -- a growth with this result
  abbrev Grown : Result ℕ E → Type 0
  Grown result = Grows rules g s result charge s'

  -- an accepted growth, whose charge pays for so many bytes where nothing stood in its way
  module _ (bytes : ℕ) (none : g.amount ≡ 0 → bytes ≡ 0)
      (bound : g.request.early ≡ None → charge ≡ optional_due s.meter g.request.price
      → PaysFor s.meter charge bytes true) where
    -- the charge pays for the bytes
    met_bound : (size : ℕ) → Grown (Ok size) → PaysFor s.meter charge bytes true
    met_bound size (inl grows) = unwritten s.meter charge bytes true (none grows.none)
    met_bound size (inr grows) =
        by_outcome grows.outcome grows.attempt.may_end grows.attempt.charged grows.answered
      where
        by_outcome : (outcome : AttemptOutcome E) → MayEnd g.request s.meter outcome
            → charge ≡ outcome_charge g.request s.meter outcome
            → Ok size ≡ answer_of g.request g.size outcome → PaysFor s.meter charge bytes true
        by_outcome Met may charged answered = bound may.0 charged
        by_outcome outcome may charged answered = absurd cc

-- the bytes that a turn writes by a growth of a memory within its bounds are less than 2 to the power 64
added_fits : (b c : Bool) (x : MemoryValue) (pages : ℕ)
    → (b && c && nat_lt ((pages_of x + pages) * page_bytes x.ty.page) (2 ^ 64)) ≡ true
    → pages * page_bytes x.ty.page < 2 ^ 64
added_fits b c x pages inside =
    let below : (pages_of x + pages) * page_bytes x.ty.page < 2 ^ 64 = grind (
      arith,
      nat_tests,
      (and_parts (b && c) (nat_lt ((pages_of x + pages) * page_bytes x.ty.page) (2 ^ 64)) inside).1,
    ) in
    let split : (pages_of x + pages) * page_bytes x.ty.page ≡ pages_of x * page_bytes x.ty.page + pages * page_bytes
    x.ty.page = add-mul (pages_of x) pages (page_bytes x.ty.page) in
    omega (arith, below, split)

-- the test of the bounds of a growth that writes holds where its request has no early cause
pub early_none : {E : Type 0} (test : Bool) (cause : E) → (if test then None else Some cause) ≡ None → test ≡ true
early_none true cause is = refl
early_none false cause is = absurd cc

module _ {S : Type 0} (rules : Rules S) (pages : ℕ) (s s' : MeteredValue MemoryValue S) (charge : ℕ) where
  -- the growth
  abbrev growth : Growth MemoryValue MemoryError
  growth = memory_growth pages s.value

  -- its charge pays for its bytes
  memory_bound : growth.request.early ≡ None → charge ≡ optional_due s.meter growth.request.price
      → PaysFor s.meter charge (pages * page_bytes s.value.ty.page) true
  memory_bound early charged m is left on rated =
      let x = s.value in
      let fits = added_fits (nat_le (pages_of x + pages) (greatest_pages x.ty))
      (option_map_or (λ maximum. nat_le (pages_of x + pages) maximum) x.ty.maximum true) x pages
      (early_none (in_bounds x.ty (pages_of x + pages)) MemoryError.OutOfBoundsGrowth early) in
      let bytes = pages * page_bytes x.ty.page in
      let paid : cut_product bytes 1 ≤ rate m * charge + (rate m - 1) =
      due_pays s.meter bytes 1 charge charged m is left on rated in
      omega (arith, fits, paid)

  -- its charge pays for what it has written, by its result
  memory_result : (result : Result ℕ MemoryError) → Grown rules growth s s' charge result → PaysFor s.meter charge
      (bytes_appended (Some s.value) pages (reply_of replied.Number replied.Memory result))
      (is_accepted (reply_of replied.Number replied.Memory result))
  memory_result (Ok size) grows = met_bound rules growth s s' charge (pages * page_bytes s.value.ty.page)
      (λ none. rw none (omega arith)) memory_bound size grows
  memory_result (Err error) grows = unwritten s.meter charge 0 false refl

-- the charge of a growth of the memory of an index pays for what it has written
memory_growth_writes : {S : Type 0} (rules : Rules S) (k pages : ℕ)
    (s s' : MeteredValue (List (Slot MemoryValue)) S) (reply : Reply) (charge : ℕ)
    → ActsAt k (reply_of replied.Number replied.Memory) (GrowsMemoryCharging rules pages) s reply charge s'
    → PaysFor s.meter charge (bytes_appended (live_at s.value k) pages reply) (is_accepted reply)
memory_growth_writes rules k pages s s' reply charge acts = on_found (live_at s.value k) _ _ acts
    (λ none missing. rw (none, missing.0) (unwritten s.meter charge 0 false refl))
    (λ x found a. rw (found, a.3) (memory_result rules pages (with_value s x) (with_value s' a.1) charge a.0 a.2))

-- a growth of a table
module _ {S : Type 0} (rules : Rules S) (n reference : ℕ) (s s' : MeteredValue TableValue S) (charge : ℕ) where
  -- its charge pays for what it has written, by its result
  table_result : (result : Result ℕ TableError) → Grown rules (table_growth n reference s.value) s s' charge result
      → PaysFor s.meter charge (element_bytes n (reply_of replied.Number replied.Table result))
      (is_accepted (reply_of replied.Number replied.Table result))
  table_result (Ok size) grows = met_bound rules (table_growth n reference s.value) s s' charge (cut_product n 4)
      (λ none. rw none (omega arith)) (λ early charged. due_pays s.meter n 4 charge charged) size grows
  table_result (Err error) grows = unwritten s.meter charge 0 false refl

-- the charge of a growth of the table of an index pays for what it has written
table_growth_writes : {S : Type 0} (rules : Rules S) (k n : ℕ) (init : TypedRawRef)
    (s s' : MeteredValue (List (Slot TableValue)) S) (reply : Reply) (charge : ℕ)
    → ActsAt k (reply_of replied.Number replied.Table) (GrowsTableCharging rules n init) s reply charge s'
    → PaysFor s.meter charge (element_bytes n reply) (is_accepted reply)
table_growth_writes rules k n init s s' reply charge acts = on_live (live_at s.value k) _ _ acts
    (λ missing. rw missing.0 (unwritten s.meter charge 0 false refl))
    (λ x found a. rw a.3 (on_test (same_type x.ty.element init.ty) _ _ a.2
    (table_result rules n init.raw (with_value s x) (with_value s' a.1) charge a.0)
    (λ h. rw h.0 (unwritten s.meter charge 0 false refl))))

-- whether an effect is charged for what it writes
abbrev is_charged_effect : Effect → Bool
is_charged_effect (MemoryGrown k pages) = true
is_charged_effect (TableGrown k n init) = true
is_charged_effect (RangeWritten write) = true
is_charged_effect effect = false

-- an effect is charged for what it writes where its call is
same_charges : (s : State) (call : Call) → is_charged_effect (effect_of s call) ≡ is_charged call
same_charges s (SetFuel fuel) = refl
same_charges s call = refl

module _ {S : Type 0} (rules : Rules S) (w : World S) (turn : Turn) (w' : World S) where
  -- the charge of an effect pays for what it has written
  effect_writes : (effect : Effect) → HasEffect rules effect w (outcome_of turn) w'
      → PaysFor (Some w.state.meter) turn.charge turn.written (is_charged_effect effect && is_accepted turn.reply)
  effect_writes (MemoryGrown k pages) step =
      rw step.wrote (memory_growth_writes rules k pages _ _ turn.reply turn.charge step.effect)
  effect_writes (TableGrown k n init) step =
      rw step.wrote (table_growth_writes rules k n init _ _ turn.reply turn.charge step.effect)
  effect_writes (RangeWritten write) step = elim (range_facts w write turn w' step) [
    | inl idle ↦ unwritten (Some w.state.meter) turn.charge turn.written (is_accepted turn.reply) idle.unwritten
    | inr paid ↦ rw paid.done (elim paid.priced [
      | inl none ↦ unwritten (Some w.state.meter) turn.charge turn.written true none
      | inr (n, size, is, wrote) ↦ rw wrote (due_pays (Some w.state.meter) n size turn.charge
          (paid.charged ∙ ap (optional_due (Some w.state.meter)) is))
    ])
  ]
  effect_writes effect step = unwritten (Some w.state.meter) turn.charge turn.written false step.free.1

-- a run, by what is left at its start
module _ {S : Type 0} (rules : Rules S) where
  record Bounds (rate left : ℕ) (turns : List Turn) (m' : Meter) : Type 0 where
    paid : bytes_written turns ≤ rate * charges_for_writing turns + writing_turns turns * (rate - 1)
    spent : (rest : ℕ) × (m'.left ≡ Some rest) × (rest + charges_for_writing turns ≤ left + amounts_set turns)

  -- the turns that have written, with one more
  one_more : (wrote : Bool) (n rate : ℕ) → (cond wrote 1 0 + n) * (rate - 1) ≡ counted wrote (rate - 1) + n * (rate - 1)
  one_more true n rate = add-mul 1 n (rate - 1) ∙ omega arith
  one_more false n rate = add-mul 0 n (rate - 1) ∙ omega arith

  -- the turns of a run have written within what they were charged
  run_writes : (w : World S) (left : ℕ) → w.state.meter.left ≡ Some left → 0 < rate w.state.meter
      → (turns : List Turn) (w' : World S) → Run rules w turns w'
      → Bounds (rate w.state.meter) left turns w'.state.meter
  run_writes w left on rated [] w' ran = record { paid = omega arith; spent = (left, rw ran on, omega arith) }
  run_writes w left on rated (turn ∷ turns) w' (v, step, ran) =
      let r = rate w.state.meter in
      let wrote = has_written turn.call turn.reply in
      let changes = step_meter rules w turn v step in
      let pays : PaysFor (Some w.state.meter) turn.charge turn.written wrote = rw (← same_charges w.state turn.call)
      (effect_writes rules w turn v (effect_of w.state turn.call) step) in
      let after = spends turn.call turn.reply w.state.meter turn.charge v.state.meter changes left on in
      let same : rate v.state.meter ≡ r =
      rw (costs_kept turn.call w.state.meter turn.charge v.state.meter changes) in
      let still : 0 < rate v.state.meter = omega (arith, same, rated) in
      let rest : Bounds r after.0 turns w'.state.meter = subst (λ k. Bounds k after.0 turns w'.state.meter) same
      (run_writes v after.0 after.1 still turns w' ran) in
      let written : bytes_written (turn ∷ turns) ≡ turn.written + bytes_written turns = sum_by-cons
      (λ (t : Turn). t.written) turn turns in
      let charges : charges_for_writing (turn ∷ turns) ≡ counted wrote turn.charge + charges_for_writing turns =
      sum_by-cons (λ (t : Turn). if has_written t.call t.reply then t.charge else 0) turn turns in
      let amounts : amounts_set (turn ∷ turns) ≡ amount_set turn.call + amounts_set turns = sum_by-cons
      (λ (t : Turn). amount_set t.call) turn turns in
      let number : writing_turns (turn ∷ turns) ≡ cond wrote 1 0 + writing_turns turns = sum_by-cons
      (λ (t : Turn). cond (has_written t.call t.reply) 1 0) turn turns in
      let product : r * charges_for_writing (turn ∷ turns) ≡ r * counted wrote turn.charge + r * charges_for_writing
      turns = ap (λ n. r * n) charges ∙ mul-add r (counted wrote turn.charge) (charges_for_writing turns) in
      let excess : writing_turns (turn ∷ turns) * (r - 1) ≡ counted wrote (r - 1) + writing_turns turns * (r - 1) = ap
      (λ n. n * (r - 1)) number ∙ one_more wrote (writing_turns turns) r in
      record {
        paid = omega (arith, written, product, excess, pays w.state.meter refl left on rated, rest.paid);
        spent = (rest.spent.0, rest.spent.1, omega (arith, charges, amounts, after.2, rest.spent.2));
      }

  -- a run has written within what there was
  pub writing_is_bounded : (w : World S) (left : ℕ) → w.state.meter.left ≡ Some left → 0 < rate w.state.meter
      → (turns : List Turn) (w' : World S) → Run rules w turns w' → IsBounded (rate w.state.meter) left turns
  writing_is_bounded w left on rated turns w' ran =
      let bounds = run_writes w left on rated turns w' ran in
      let all : rate w.state.meter * charges_for_writing turns ≤ rate w.state.meter * (left + amounts_set turns) =
      mul-le-mul_left (rate w.state.meter) (omega (arith, bounds.spent.2)) in
      record { by_charges = bounds.paid; by_fuel = omega (arith, bounds.paid, all) }

-- what a call that doesn't set the fuel was charged is added to the account
goes_on : (account : Account) (call : Call) (charge : ℕ) → SetsNoFuel call
    → charged_by account call charge ≡ record { granted = account.granted; charged = account.charged + charge }
goes_on account (SetFuel fuel) charge none = absurd none
goes_on account call charge none = refl

-- an account after turns that don't set the fuel has their charges
charges_added : (account : Account) (turns : List Turn) → All SetsNoFuel (map Turn.call turns)
    → ((account_after account turns).charged ≡ account.charged + charges
    turns) × ((account_after account turns).granted ≡ account.granted)
charges_added account [] none = (omega arith, refl)
charges_added account (turn ∷ turns) none =
    let more : charges (turn ∷ turns) ≡ turn.charge + charges turns = sum_by-cons (λ (t : Turn). t.charge) turn turns in
    let next = goes_on account turn.call turn.charge (All-head SetsNoFuel turn.call (map Turn.call turns) none) in
    let rest = charges_added (charged_by account turn.call turn.charge) turns
    (All-tail SetsNoFuel turn.call (map Turn.call turns) none) in
    (rest.0 ∙ rw next (omega (arith, more)), rest.1 ∙ rw next)

-- the charges for writing are charges
writing_within : (turns : List Turn) → charges_for_writing turns ≤ charges turns
writing_within turns =
    sum_by-le-sum_by (λ (t : Turn). counted (has_written t.call t.reply) t.charge) (λ (t : Turn). t.charge) turns
    (λ t. part_of (has_written t.call t.reply) t.charge)

module _ {S : Type 0} (rules : Rules S) where
  -- what is left and the charges are what was left; they pay for what is written
  pub charges_are_spent : (w : World S) (left : ℕ) → w.state.meter.left ≡ Some left
      → (turns : List Turn) (w' : World S) → Run rules w turns w' → All SetsNoFuel (map Turn.call turns)
      → (left' : ℕ) × (w'.state.meter.left ≡ Some left') × IsSpent (rate w.state.meter) left left' turns
  charges_are_spent w left on turns w' ran none =
      let balance = fuel_balances rules w left on turns w' ran in
      let added = charges_added (opened left) turns none in
      let r = rate w.state.meter in
      let spent : balance.0 + charges turns ≡ left = omega (arith, balance.2, added.0, added.1) in
      let most : r * charges_for_writing turns ≤ r * (left - balance.0) = mul-le-mul_left r
      (omega (arith, writing_within turns, spent)) in (
        balance.0,
        balance.1,
        record {
          charged = spent;
          written = λ rated. omega (arith, (writing_is_bounded rules w left on rated turns w' ran).by_charges, most);
        },
      )
