-- Runs of turns and of calls that are cut in two, and what runs keep: sizes and totals don't shrink, a machine stays
-- within the caps of its quota, and the meter keeps its costs and its switch, and has no more fuel left than before,
-- where no call sets it.
use Rattle.std.proofs.Common.{◌≡◌, ◌∙◌, ◌≤◌, ◌++◌, ℕ, suc, Some, List, [], ◌∷◌, length, map, take, drop, sum, refl, sym, ap, subst, arith, ◌-◌, Option, None, ⊎_elim}
use Rattle.wasmi_laws.proofs.Common.{none-some, same_Some, take-map, drop-map, take_at, drop_at, take-append-drop, ◌≢◌, slice_get, is_some, Question, Rules, optional_rules, State, World, Turn, world, sizes, HoldsTotals, Step, Sequence, Run, runs_joined, CapsHoldInRuns, IsWithinCapsOf, RunsOfCallsAreCut, SizesNeverShrink, TotalsNeverShrink, CostsAreKept, FuelNeverRises, SwitchIsKept, All-head, All-tail, option_map, unwrap_or, Meter, amount_left, Call, SetFuel}
use Rattle.std.proofs.lemmas.List.Sums.{sum_by-cons}
use Rattle.wasmi_meter.specs.declared.{limiter.Kind.Kind, quota.Quota.Quota}
use Rattle.wasmi_meter.specs.declared.limiter.Kind.TheVariants.{Bytes, Elements}
use Rattle.wasmi_meter.specs.Capped.{IsWithinCaps, SameCaps, holdings, quota_rules}
use Rattle.wasmi_machine.specs.Laws.{HoldsTotalsAlways, QuotasStayWithin}
use Rattle.wasmi_machine.specs.Exchange.{Exchange, Permission, Place, Nowhere, New, At, place_of, GrowsAsAsked, GrowsBy}
use Rattle.wasmi_machine.proofs.ExchangeLemmas.{growths_are_permitted}
use Rattle.wasmi_laws.proofs.ListLemmas.{EachAfter, appended, put, unchanged}
use Rattle.wasmi_machine.specs.Account.{ChangesMeter, SetsNoFuel}
use Rattle.wasmi_machine.proofs.AccountLemmas.{costs_kept, step_meter}

module _ {S : Type 0} (rules : Rules S) where
  -- a run of turns is cut at each place
  pub run_is_cut : (u : World S) (turns turns' : List Turn) (w : World S) → Run rules u (turns ++ turns') w
      → (v : World S) × Run rules u turns v × Run rules v turns' w
  run_is_cut u [] turns' w ran = (u, refl, ran)
  run_is_cut u (turn ∷ turns) turns' w (t, step, ran) =
      let rest = run_is_cut t turns turns' w ran in (rest.0, (t, step, rest.1), rest.2)

  -- a run of calls is cut at each place
  pub run_of_calls_is_cut : RunsOfCallsAreCut rules
  run_of_calls_is_cut calls calls' u replies w (turns, made, told, ran) =
      let n = length calls in
      let cut = run_is_cut u (take n turns) (drop n turns) w
      (rw (take-append-drop n turns) ran) in
      record {
        between = cut.0;
        first_run = (
          take n turns,
          sym (take-map Turn.call n turns) ∙ ap (take n) made ∙ take_at calls calls' n refl,
          sym (take-map Turn.reply n turns) ∙ ap (take n) told,
          cut.1,
        );
        rest_run = (
          drop n turns,
          sym (drop-map Turn.call n turns) ∙ ap (drop n) made ∙ drop_at calls calls' n refl,
          sym (drop-map Turn.reply n turns) ∙ ap (drop n) told,
          cut.2,
        );
      }

-- a number that was found is there, or a larger one
abbrev Rises : ℕ → Option ℕ → Option ℕ → Type 0
Rises k old new = (n : ℕ) → old ≡ Some n → (m : ℕ) × (new ≡ Some m) × (n ≤ m)

-- every number of a list is at its place in another, or a larger one
abbrev NoneShrinks : List ℕ → List ℕ → Type 0
NoneShrinks xs ys = (k : ℕ) → Rises k (slice_get xs k) (slice_get ys k)

-- no number shrinks where each stays or rises
none_shrinks : (more : ℕ) (xs ys : List ℕ) → EachAfter more Rises xs ys → NoneShrinks xs ys
none_shrinks more xs ys each k n found =
    ⊎_elim (λ same. (n, same ∙ found, omega arith)) (λ rises. rises n found) (each k).0

-- no number shrinks in the same list
same_shrinks : (xs ys : List ℕ) → ys ≡ xs → NoneShrinks xs ys
same_shrinks xs ys same = none_shrinks 0 xs ys (unchanged Rises xs ys 0 same)

-- no size shrinks where something grew as was asked
asked_shrinks : (place : Place) (q : Question) (xs ys : List ℕ) → GrowsAsAsked place q xs ys → NoneShrinks xs ys
asked_shrinks Nowhere q xs ys grows = absurd grows
asked_shrinks New q xs ys (fresh, added) =
    none_shrinks 1 xs ys (appended Rises xs ys q.desired (λ j n none. absurd (none-some n none)) added)
asked_shrinks (At k) q xs ys (up, found, is) = none_shrinks 0 xs ys (put Rises xs ys k q.current q.desired found
    (λ n was. (q.desired, refl, omega (arith, up, same_Some q.current n was))) is)

module _ (before after : Kind → List ℕ) where
  -- no size shrinks where those of one kind grow and the others are the same
  kind_shrinks : (grown : Kind) → NoneShrinks (before grown) (after grown)
      → ((kind : Kind) → kind ≢ grown → after kind ≡ before kind)
      → (kind : Kind) → NoneShrinks (before kind) (after kind)
  kind_shrinks Bytes grows others Bytes = grows
  kind_shrinks Bytes grows others Elements = same_shrinks (before Elements) (after Elements) (others Elements (λ e. cc))
  kind_shrinks Elements grows others Bytes = same_shrinks (before Bytes) (after Bytes) (others Bytes (λ e. cc))
  kind_shrinks Elements grows others Elements = grows

  -- no size shrinks by an exchange
  exchange_shrinks : (place : Place) (exchange : Exchange) → GrowsBy place exchange before after
      → (kind : Kind) → NoneShrinks (before kind) (after kind)
  exchange_shrinks place (Permission q) (grows, others) kind =
      kind_shrinks q.kind (asked_shrinks place q (before q.kind) (after q.kind) grows) others kind
  exchange_shrinks place exchange still kind = same_shrinks (before kind) (after kind) (still kind)

-- the sum doesn't shrink where no number does
sum_shrinks : (xs ys : List ℕ) → NoneShrinks xs ys → sum xs ≤ sum ys
sum_shrinks [] ys none = omega arith
sum_shrinks (x ∷ xs) [] none = absurd (none-some _ (none 0 x refl).1)
sum_shrinks (x ∷ xs) (y ∷ ys) none =
    let first = none 0 x refl in
    omega (
      arith,
      sum_by-cons (λ z. z) x xs,
      sum_by-cons (λ z. z) y ys,
      sum_shrinks xs ys (λ k. none (suc k)),
      first.2,
      same_Some y first.0 first.1,
    )

module _ {S : Type 0} (rules : Rules S) where
  -- no size shrinks in a run
  pub sizes_never_shrink : SizesNeverShrink rules
  sizes_never_shrink w [] w' ran kind k n found =
      (n, ap (λ (v : World S). slice_get (sizes v.state kind) k) ran ∙ found, omega arith)
  sizes_never_shrink w (turn ∷ turns) w' (v, step, ran) kind k n found =
      let x = growths_are_permitted rules w turn v step in
      let next =
      exchange_shrinks (sizes w.state) (sizes v.state) (place_of turn.call) x.exchange x.grows kind k n found in
      let last = sizes_never_shrink v turns w' ran kind k next.0 next.1 in
      (last.0, last.1, omega (arith, next.2, last.2))

  -- no total shrinks in a run
  pub totals_never_shrink : TotalsNeverShrink rules
  totals_never_shrink w turns w' ran kind =
      sum_shrinks (sizes w.state kind) (sizes w'.state kind) (sizes_never_shrink w turns w' ran kind)

module _ {S : Type 0} (rules : Rules S) (u : World S) (Holds : World S → Type 0)
    (ends : (turns : List Turn) (w : World S) → Run rules u turns w → Holds w) where
  -- what each run from a world ends in, holds after each turn of the rest of one
  holds_on : (before : List Turn) (v : World S) → Run rules u before v → (turns : List Turn) (w : World S)
      → Run rules v turns w → Sequence (λ v turn v'. Step rules v turn v' × Holds v') v turns w
  holds_on before v ran [] w rest = rest
  holds_on before v ran (turn ∷ turns) w (v', step, rest) =
      let so_far = runs_joined rules u before v (turn ∷ []) v' ran (v', step, refl) in
      (v', (step, ends (before ++ turn ∷ []) v' so_far), holds_on (before ++ turn ∷ []) v' so_far turns w rest)

  -- what each run from a world ends in holds after each turn of a run
  pub holds_throughout : (turns : List Turn) (w : World S) → Run rules u turns w
      → Sequence (λ v turn v'. Step rules v turn v' × Holds v') u turns w
  holds_throughout = holds_on [] u refl

-- a machine is within caps where a quota holds what it has, is within its caps, and has the same caps
pub held_within : (s : State) (first quota : Quota) → HoldsTotals (holdings quota) s → IsWithinCaps quota
    → SameCaps first quota → IsWithinCapsOf first s
held_within s first quota held within caps Bytes = omega (arith, held.bytes, within Bytes, caps Bytes)
held_within s first quota held within caps Elements = omega (arith, held.elements, within Elements, caps Elements)

-- under a quota the caps hold after each turn of a run
pub caps_hold_in_runs : HoldsTotalsAlways quota_rules holdings → QuotasStayWithin → CapsHoldInRuns
caps_hold_in_runs held stays s quota holds within =
    holds_throughout (optional_rules quota_rules) (world s (Some quota)) (λ v. IsWithinCapsOf quota v.state)
    (λ turns v ran.
    let total = held s quota holds turns v ran in
    let later = stays s quota within turns v ran in
    let same : later.0 ≡ total.0 = same_Some later.0 total.0 (sym later.1 ∙ total.1) in
    held_within v.state quota total.0 total.2 (subst IsWithinCaps same later.2) (subst (SameCaps quota) same later.3))

-- what is left is there or not, as what it was changed from
same_switch : (change : ℕ → ℕ) (left : Option ℕ) → is_some (option_map change left) ≡ is_some left
same_switch change None = refl
same_switch change (Some n) = refl

-- what is left once an amount is taken
left_falls : (amount : ℕ) (left : Option ℕ) → unwrap_or (option_map (λ n. n - amount) left) 0 ≤ unwrap_or left 0
left_falls amount None = omega arith
left_falls amount (Some n) = omega arith

-- a call keeps the switch of the meter
switch_kept : (call : Call) (m : Meter) (charge : ℕ) (m' : Meter) → ChangesMeter call m charge m'
    → is_some m'.left ≡ is_some m.left
switch_kept (SetFuel fuel) m charge m' changes = rw changes (same_switch (λ n. fuel) m.left)
switch_kept call m charge m' changes = rw changes.1 (same_switch (λ n. n - charge) m.left)

-- a call that doesn't set the fuel leaves no more of it
fuel_falls : (call : Call) → SetsNoFuel call → (m : Meter) (charge : ℕ) (m' : Meter) → ChangesMeter call m charge m'
    → amount_left m' ≤ amount_left m
fuel_falls (SetFuel fuel) other m charge m' changes = absurd other
fuel_falls call other m charge m' changes = rw changes.1 (left_falls charge m.left)

module _ {S : Type 0} (rules : Rules S) where
  -- a run keeps the costs of the meter
  pub costs_are_kept : CostsAreKept rules
  costs_are_kept w [] w' ran = ap (λ (v : World S). v.state.meter.costs) ran
  costs_are_kept w (turn ∷ turns) w' (v, step, ran) = costs_are_kept v turns w' ran
      ∙ costs_kept turn.call w.state.meter turn.charge v.state.meter (step_meter rules w turn v step)

  -- a run keeps the switch of the meter
  pub switch_is_kept : SwitchIsKept rules
  switch_is_kept w [] w' ran = ap (λ (v : World S). is_some v.state.meter.left) ran
  switch_is_kept w (turn ∷ turns) w' (v, step, ran) = switch_is_kept v turns w' ran
      ∙ switch_kept turn.call w.state.meter turn.charge v.state.meter (step_meter rules w turn v step)

  -- a run of calls that don't set the fuel leaves no more of it
  pub fuel_never_rises : FuelNeverRises rules
  fuel_never_rises w [] w' ran others = omega (arith, ap (λ (v : World S). amount_left v.state.meter) ran)
  fuel_never_rises w (turn ∷ turns) w' (v, step, ran) others = omega (
    arith,
    fuel_never_rises v turns w' ran (All-tail SetsNoFuel turn.call (map Turn.call turns) others),
    fuel_falls turn.call (All-head SetsNoFuel turn.call (map Turn.call turns) others) w.state.meter turn.charge
        v.state.meter (step_meter rules w turn v step),
  )

-- runs that are cut
pub ruleset cuts = (run_is_cut, run_of_calls_is_cut)

-- sizes and totals that do not shrink
pub ruleset no_shrinking = (sizes_never_shrink, totals_never_shrink)

-- what a run keeps of its meter
pub ruleset meter_kept = (costs_are_kept, switch_is_kept, fuel_never_rises)
