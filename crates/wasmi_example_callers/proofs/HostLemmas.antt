-- A plug-in's machine is within the caps of its quota; growths of a memory under a limiter of one's own (`AtMost`): the
-- limiter stays, and a memory within its limit stays within it; and the bill of a run is right.
use Rattle.std.proofs.Common.{ℕ, ◌≡◌, ◌≤◌, Some, List, sym, arith, ◌∙◌, ◌+◌, ◌*◌, true, nat_le, Option, None, Result, length, replicate, ap, inl, inr, length-append, ◌-◌, All, unwrap_or}
use Rattle.std.proofs.lemmas.Option.{same_Some}
use Rattle.wasmi_meter.specs.declared.limiter.Kind.TheVariants.{Bytes, Elements}
use Rattle.wasmi_meter.specs.Meter.{Meter, amount_left}
use Rattle.wasmi_meter.specs.Capped.{holdings, IsWithinCaps}
use Rattle.wasmi_core.specs.Types.{Call, Reply}
use Rattle.wasmi_core.specs.State.{State, new_state, world, World, total, HoldsTotals}
use Rattle.wasmi_core.specs.Laws.{QuotasStayWithin, ChargesAreSpent}
use Rattle.wasmi_example_callers.specs.Host.{RunsUnderQuota, at_most_rules, Accounts, IsBill}
use Rattle.std.proofs.lemmas.Bool.{leb-true}
use Rattle.std.proofs.lemmas.List.{length-replicate}
use Rattle.wasmi_meter.specs.declared.error.MemoryError.{MemoryError}
use Rattle.wasmi_meter.specs.Attempt.{MeteredValue, Request, AttemptOutcome, Unasked, Denied, Met, Failed, Follows, value_after}
use Rattle.wasmi_meter.specs.Limiter.{optional_rules, Rules}
use Rattle.wasmi_store.specs.Growth.{metered_value}
use Rattle.wasmi_store.specs.Memory.{MemoryValue, GrowsMemoryCharging, growth_of, page_bytes}
use Rattle.wasmi_example_callers.specs.declared.limiter.AtMost.{AtMost}
use Rattle.wasmi_core.specs.Account.{SetsNoFuel}
use Rattle.wasmi_core.specs.Steps.{IsRunOf}

-- a machine has no more bytes and elements than these
pub record IsCapped (most_bytes most_elements : ℕ) (s : State) : Type 0 where
  pub bytes : total s Bytes ≤ most_bytes
  pub elements : total s Elements ≤ most_elements

-- a plug-in's machine has no more than the caps of its quota, if the quota holds what the machine has
pub run_capped : {bytes elements : ℕ} {meter : Meter} {calls : List Call} {replies : List Reply} {s : State}
    → QuotasStayWithin → (run : RunsUnderQuota bytes elements meter calls replies s) → IsWithinCaps run.quota
    → HoldsTotals (holdings run.quota') s → IsCapped bytes elements s
run_capped {meter = meter} {s = s} stays run within held =
    let after = stays (new_state meter) run.quota within run.ran.0 (world s (Some run.quota')) run.ran.3 in
    let is : after.0 ≡ run.quota' = sym (same_Some run.quota' after.0 after.1) in
    let still = rw is at after.2 in
    let caps = rw is at after.3 in
    record {
      bytes = omega (arith, held.bytes, still Bytes, caps Bytes, run.bytes_cap);
      elements = omega (arith, held.elements, still Elements, caps Elements, run.elements_cap);
    }

module _ (l l' : AtMost) where
  -- the limiter of one's own stays, however an attempt ends
  limiter_stays : {V E : Type 0} (e : Request V E) (outcome : AttemptOutcome E)
      → Follows e (optional_rules at_most_rules) (Some l) outcome (Some l') → l' ≡ l
  limiter_stays e (Unasked cause) follows = same_Some l' l follows
  limiter_stays e (Denied answer) follows = follows.1
  limiter_stays e Met follows = follows.1
  limiter_stays e (Failed cause notice_answer) (Some p, asked, noticed) = noticed.1 ∙ asked.1
  limiter_stays e (Failed cause notice_answer) (None, asked, noticed) = elim asked [ ]

  -- a memory that was within the limit is within it, however an attempt ends
  value_within : (x : MemoryValue) (pages : ℕ) (outcome : AttemptOutcome MemoryError)
      → Follows (growth_of x pages) (optional_rules at_most_rules) (Some l) outcome (Some l') → length x.bytes ≤ l.bytes
      → length (value_after (growth_of x pages) x outcome).bytes ≤ l.bytes
  value_within x pages Met follows small =
      let permitted : nat_le (length x.bytes + pages * page_bytes x.ty.page) l.bytes
      ≡ true = let asked = follows.0 in cc in
      omega (
        arith,
        leb-true _ _ permitted,
        length-append x.bytes (replicate (pages * page_bytes x.ty.page) 0),
        length-replicate {A = ℕ} (pages * page_bytes x.ty.page) 0,
      )
  value_within x pages outcome follows small = small

  module _ (x x' : MemoryValue) (m m' : Option Meter) where
    -- a memory has grown under a limiter of one's own
    abbrev Grown : ℕ → Result ℕ MemoryError → ℕ → Type 0
    Grown pages result charge = GrowsMemoryCharging (optional_rules at_most_rules) pages (metered_value x m (Some l))
        result charge (metered_value x' m' (Some l'))

    -- the limiter stays after a growth
    pub grown_stays : (pages : ℕ) (result : Result ℕ MemoryError) (charge : ℕ) → Grown pages result charge → l' ≡ l
    grown_stays pages result charge (inl none) = same_Some l' l (ap (λ (s : MeteredValue MemoryValue (Option AtMost)).
        s.limiter) none.same)
    grown_stays pages result charge (inr some) = limiter_stays (growth_of x pages) some.outcome some.attempt.follows

    -- a memory that was within the limit is within it after a growth
    pub grown_within : (pages : ℕ) (result : Result ℕ MemoryError) (charge : ℕ) → Grown pages result charge
        → length x.bytes ≤ l.bytes → length x'.bytes ≤ l.bytes
    grown_within pages result charge (inl none) small =
        rw (ap (λ (s : MeteredValue MemoryValue (Option AtMost)). s.value) none.same) small
    grown_within pages result charge (inr some) small =
        rw some.attempt.value (value_within x pages some.outcome some.attempt.follows small)

-- the bill of a run is right
pub ran_billed : {S : Type 0} (rules : Rules S) → ChargesAreSpent rules
    → (calls : List Call) (replies : List Reply) (w w' : World S) (charged : ℕ)
    → charged ≡ amount_left w.state.meter - amount_left w'.state.meter → All SetsNoFuel calls
    → IsRunOf rules calls w replies w' → IsBill rules calls w replies charged w'
ran_billed rules law calls replies w w' charged is none ran =
    let billed : (left : ℕ) → w.state.meter.left ≡ Some left
    → Accounts ran.0 left charged (amount_left w'.state.meter) =
    λ left on.
    let spent = law w left on ran.0 w' ran.3 (rw ran.1 none) in
    let before : amount_left w.state.meter ≡ left = ap (λ o. unwrap_or o 0) on in
    let after : amount_left w'.state.meter ≡ spent.0 = ap (λ o. unwrap_or o 0) spent.1 in
    record {
      charges_of = omega (arith, is, before, after, spent.2.charged);
      left = omega (arith, is, before, after, spent.2.charged);
    } in
    (ran.0, ran.1, ran.2, ran.3, billed)

-- what a growth leaves under a limiter of one's own: the limiter, and a memory within its limit
pub ruleset growths = (grown_stays, grown_within)
