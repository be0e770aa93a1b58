-- Requests that nothing but a limiter refuses; and a wider request, which more causes may refuse than another: an
-- attempt of the other, with its end, charge and answer, is one of the wider.
use Rattle.std.proofs.Common.{◌≡◌, ◌∙◌, ◌⊎◌, ap, true, None, Ok, Option, Result, Some, inl, inr, refl, sym, ℕ}
use Rattle.std.specs.Result.{result_map_both}
use Rattle.wasmi_meter.specs.Attempt.{Attempt, AttemptOutcome, Denied, Failed, Follows, IsFirstCause, MayEnd, Met, MeteredValue, Request, Unasked, answer_of, covers, optional_due, outcome_charge, value_after, with_value}
use Rattle.wasmi_meter.specs.Limiter.{Rules}
use Rattle.wasmi_meter.specs.Meter.{Meter}
use Rattle.wasmi_store.specs.Growth.{IsDenied}
use Rattle.wasmi_store.proofs.GrowthLemmas.{on_test_too}

-- nothing stands against a request but its limiter
pub record IsUnrefused {V E : Type 0} (e : Request V E) (m : Option Meter) : Type 0 where
  pub early : e.early ≡ None
  pub late : e.late ≡ None
  pub paid : covers m (optional_due m e.price) ≡ true
  pub room : (cause : E) → e.refuses cause → ⊥

module _ {V E S T : Type 0} (rules : Rules S) (e : Request V E) (m : Option Meter) (free : IsUnrefused e m) (value : T)
    (l l' : S) where
  -- no failure comes after the permission
  no_failure : (late : Option E) (cause : E) → late ≡ None → IsFirstCause e m late cause → ⊥
  no_failure None cause none first = free.room cause (rw free.paid at first)
  no_failure (Some late) cause none first = cc

  -- the limiter has denied it, or it is met
  pub met_or_denied : (outcome : AttemptOutcome E) → MayEnd e m outcome → Follows e rules l outcome l'
      → (result : Result T E) → result ≡ answer_of e value outcome
      → (result ≡ Ok value) ⊎ IsDenied rules e.question l l'
  met_or_denied (Unasked cause) may follows result answered = let none = free.early in absurd cc
  met_or_denied (Denied answer) may follows result answered = inr (answer, may.1, follows)
  met_or_denied Met may follows result answered = inl answered
  met_or_denied (Failed cause notice_answer) may follows result answered =
      absurd (no_failure e.late cause free.late may.1)

-- An attempt of a request that more causes may refuse after the charge, and whose value is seen as another.
module _ {V E : Type 0} (e : Request V E) (late : Option E) (refuses : E → Type 0)
    (wider : (cause : E) → e.refuses cause → refuses cause) (seen : V → V) where
  -- that request
  abbrev pub widened : Request V E
  widened = record e { late = late; refuses = refuses; grown = seen e.grown }

  -- where no early cause stands, the late one is the same
  abbrev pub HasLate : Type 0
  HasLate = e.early ≡ None → e.late ≡ late

  -- a first cause is one of the wider request
  first_cause : (m : Option Meter) (cause : E) (l : Option E) → IsFirstCause e m l cause → IsFirstCause widened m l cause
  first_cause m cause (Some last) first = first
  first_cause m cause None first =
      on_test_too (covers m (optional_due m e.price)) _ _ _ _ (wider cause) (λ unpaid. unpaid) first

  -- an end is one of the wider request, with the same charge; the limiter sees the same, and the same is left
  too : {S : Type 0} (rules : Rules S) (m : Option Meter) (x : V) (l l' : S) → HasLate → (outcome : AttemptOutcome E)
      → MayEnd e m outcome → Follows e rules l outcome l'
      → MayEnd widened m outcome × (outcome_charge e m outcome ≡ outcome_charge widened m outcome)
      × Follows widened rules l outcome l' × (seen (value_after e x outcome) ≡ value_after widened (seen x) outcome)
  too rules m x l l' has Met (early, none, paid) h = ((early, sym (has early) ∙ none, paid), refl, h, refl)
  too rules m x l l' has (Failed cause notice_answer) (early, first) h =
      ((early, first_cause m cause late (rw (has early) at first)), rw (has early) refl, h, refl)
  too rules m x l l' has outcome may h = (may, refl, h, refl)

  -- what it answers
  pub answers : {T U : Type 0} (f : T → U) (made : T) (outcome : AttemptOutcome E)
      → result_map_both f (λ error. error) (answer_of e made outcome) ≡ answer_of widened (f made) outcome
  answers f made Met = refl
  answers f made outcome = refl

  -- an attempt is one of the wider request
  pub attempts : {S : Type 0} (rules : Rules S) (s s' : MeteredValue V S) (outcome : AttemptOutcome E) (charge : ℕ)
      → HasLate → Attempt rules e s outcome charge s'
      → Attempt rules widened (with_value s (seen s.value)) outcome charge (with_value s' (seen s'.value))
  attempts rules s s' outcome charge has a =
      let t = too rules s.meter s.value s.limiter s'.limiter has outcome a.may_end a.follows in record {
        may_end = t.0;
        follows = t.2;
        charged = a.charged ∙ t.1;
        meter = a.meter;
        value = ap seen a.value ∙ t.3;
      }
