-- Facts by a test; the making and the growth of any value, by what was tested on the way: the limiter's answer or
-- notice, the late cause, and what the meter can pay; and a growth of another request, of a loan, and without a meter.
use Rattle.std.proofs.Common.{◌≡◌, ℕ, ◌<◌, ◌≤◌, Bool, true, false, Option, Some, None, Result, Ok, Err, inl, inr, refl, ap, ◌∙◌, arith}
use Rattle.wasmi_store.proofs.Common.{cond-true, cond-false, if◌then◌else◌, MatchBool, nat_tests, CustomFuelCosts, Question, Answer, NoticeAnswer, Rules, KeepsLoan, optional_rules, Meter, amount_left, Charges, MeteredValue, alone, Request, AttemptOutcome, Unasked, Denied, Met, Failed, Attempt, Permits, answer_of, error_of_failure, optional_due, covers, IsPermitted, ReachesCharge, attempt_unasked, attempt_denied, attempt_late, attempt_unpaid, attempt_refused, attempt_met, IsAsked, Makes, Growth, Grows, WithCharge, metered_value}
use Rattle.std.specs.Borrow.{MutBor}
use Rattle.std.proofs.lemmas.Grind.{common_steps}
use Rattle.wasmi_meter.specs.declared.limiter.LimiterRef.{LimiterRef}
use Rattle.wasmi_meter.specs.Attempt.{Follows}
use Rattle.wasmi_meter.specs.Limiter.{SameLoan, lent_limiter, lent_rules}
use Rattle.std.specs.Prelude.{option_and_then}

-- what follows whether a test holds or fails
pub on_test : {C : Type 0} (test : Bool) (Holds Fails : Type 0) → MatchBool test Holds Fails → (Holds → C) → (Fails → C)
    → C
on_test true Holds Fails h holds fails = holds h
on_test false Holds Fails h holds fails = fails h

-- one of two facts by a test, where each leads to another
pub on_test_too : (test : Bool) (Holds Holds' Fails Fails' : Type 0) → (Holds → Holds') → (Fails → Fails')
    → MatchBool test Holds Fails → MatchBool test Holds' Fails'
on_test_too true Holds Holds' Fails Fails' holds fails h = holds h
on_test_too false Holds Holds' Fails Fails' holds fails h = fails h

-- two facts by one test, taken apart at once
pub on_both_tests : {C : Type 0} (test : Bool) (Holds Holds' Fails Fails' : Type 0) → MatchBool test Holds Fails
    → MatchBool test Holds' Fails' → (Holds → Holds' → C) → (Fails → Fails' → C) → C
on_both_tests true Holds Holds' Fails Fails' h h' holds fails = holds h h'
on_both_tests false Holds Holds' Fails Fails' h h' holds fails = fails h h'

-- a growth is one of another request or under other rules too, where nothing changes if nothing has changed, and its
-- attempt is one there with the same answer
pub grows_too : {V E S T : Type 0} {rules : Rules S} {rules' : Rules T} (g : Growth V E) (e : Request V E)
    {s s' : MeteredValue V S} {t t' : MeteredValue V T} {result : Result ℕ E} {charge : ℕ} → (s' ≡ s → t' ≡ t)
    → ((outcome : AttemptOutcome E) → result ≡ answer_of g.request g.size outcome
    → Attempt rules g.request s outcome charge s'
    → (result ≡ answer_of e g.size outcome) × Attempt rules' e t outcome charge t')
    → Grows rules g s result charge s' → Grows rules' (record g { request = e }) t result charge t'
grows_too g e still attempts (inl none) = inl (record {
  none = none.none;
  answered = none.answered;
  uncharged = none.uncharged;
  same = still none.same;
})
grows_too g e still attempts (inr some) =
    let there = attempts some.outcome some.answered some.attempt in
    inr (record { some = some.some; outcome = some.outcome; attempt = there.1; answered = there.0 })

-- a growth by 0 returns the size, and changes nothing
pub grows_none : {V E S : Type 0} (rules : Rules S) (g : Growth V E) (s : MeteredValue V S) {result : Result ℕ E}
    → g.amount ≡ 0 → result ≡ Ok g.size → WithCharge (Grows rules g) s result s
grows_none rules g s none answered =
    (0, inl (record { none = none; answered = answered; uncharged = refl; same = refl }))

-- a loan is itself
pub loan_same : {L : Type 0} (r : LimiterRef (MutBor L)) → KeepsLoan r r
loan_same r = same r.limiter
  where
    same : {L : Type 0} (lent : Option (MutBor L)) → SameLoan lent lent
    same None = tt
    same (Some r) = refl

-- a loan that is kept, and kept again, is kept
pub loan_kept : {L : Type 0} (r r' r'' : LimiterRef (MutBor L)) → KeepsLoan r r' → KeepsLoan r' r'' → KeepsLoan r r''
loan_kept r r' r'' kept more = grind (arith, common_steps)

module _ {V L : Type 0} (rules : Rules L) (r r' : LimiterRef (MutBor L)) where
  -- what a reference to a limiter sees of an attempt, the limiter sees, and the loan is kept
  follows_lent : {E : Type 0} (e : Request V E) (outcome : AttemptOutcome E)
      → Follows e (optional_rules (lent_rules rules)) (Some r) outcome (Some r')
      → KeepsLoan r r' × Follows e (optional_rules rules) (lent_limiter r) outcome (lent_limiter r')
  follows_lent e (Unasked cause) same = let is : r' ≡ r = cc in (rw is (loan_same r), ap lent_limiter is)
  follows_lent e (Denied answer) asked = asked
  follows_lent e Met asked = asked
  follows_lent e (Failed cause answer) (Some p, asked, noticed) =
      (loan_kept r p r' asked.0 noticed.0, (lent_limiter p, asked.1, noticed.1))
  follows_lent e (Failed cause answer) (None, asked, noticed) = absurd asked

  module _ (v v' : V) (m m' : Option Meter) where
    -- an attempt under a reference to a limiter is one under the limiter, and keeps the loan
    attempt_lent : {E : Type 0} (e : Request V E) (outcome : AttemptOutcome E) (charge : ℕ)
        → Attempt (optional_rules (lent_rules rules)) e (metered_value v m (Some r)) outcome charge
        (metered_value v' m' (Some r'))
        → KeepsLoan r r' × Attempt (optional_rules rules) e (metered_value v m (lent_limiter r)) outcome charge
        (metered_value v' m' (lent_limiter r'))
    attempt_lent e outcome charge a =
        let seen = follows_lent e outcome a.follows in (
          seen.0,
          record {
            may_end = a.may_end;
            follows = seen.1;
            charged = a.charged;
            meter = a.meter;
            value = a.value;
          },
        )

    -- where nothing changed, the loan is kept, and nothing changed for the limiter
    pub same_lent : metered_value v' m' (Some r') ≡ metered_value v m (Some r)
        → KeepsLoan r r' × (metered_value v' m' (lent_limiter r') ≡ metered_value v m (lent_limiter r))
    same_lent same =
        let lent : Some r' ≡ Some r = ap (λ (s : MeteredValue V (Option (LimiterRef (MutBor L)))). s.limiter) same in
        let is : r' ≡ r = cc in (
          rw is (loan_same r),
          ap (λ (s : MeteredValue V (Option (LimiterRef (MutBor L)))).
              metered_value s.value s.meter (option_and_then lent_limiter s.limiter)) same,
        )

    -- a growth under a reference to a limiter is one under the limiter, and keeps the loan
    pub grows_lent : {E : Type 0} (g : Growth V E) (result : Result ℕ E) (charge : ℕ)
        → Grows (optional_rules (lent_rules rules)) g (metered_value v m (Some r)) result charge
        (metered_value v' m' (Some r'))
        → KeepsLoan r r' × Grows (optional_rules rules) g (metered_value v m (lent_limiter r)) result charge
        (metered_value v' m' (lent_limiter r'))
    grows_lent g result charge grows = (
      elim grows [
        | inl none ↦ (same_lent none.same).0
        | inr some ↦ (attempt_lent g.request some.outcome charge some.attempt).0
      ],
      grows_too g g.request (λ same. (same_lent same).1)
          (λ outcome answered a. (answered, (attempt_lent g.request outcome charge a).1)) grows,
    )

-- a creation under a reference to a limiter is one under the limiter, and keeps the loan
pub makes_lent : {T E L : Type 0} (rules : Rules L) (r r' : LimiterRef (MutBor L)) (e : Request (Unit {0}) E) (made : T)
    (result : Result T E) → Makes (optional_rules (lent_rules rules)) e made (Some r) result (Some r')
    → KeepsLoan r r' × Makes (optional_rules rules) e made (lent_limiter r) result (lent_limiter r')
makes_lent rules r r' e made result (outcome, attempt, answered) =
    let seen = attempt_lent rules r r' tt tt None None e outcome 0 attempt in (seen.0, (outcome, seen.1, answered))

-- what is left, or less, can be paid
pub payable : (m : Meter) (n : ℕ) → n ≤ amount_left m → covers (Some m) n ≡ true
payable m n h = grind (arith, nat_tests)

-- more than what is left can't be paid
pub unpayable : (m : Meter) (n : ℕ) → amount_left m < n → covers (Some m) n ≡ false
unpayable m n h = grind (arith, nat_tests)

-- the limiter gets a notice of a cause, and the error is by its answer
abbrev pub TellsOf : {V E S : Type 0} → Rules S → Request V E → E → S → E → S → Type 0
TellsOf rules e cause l error l' = (answer : NoticeAnswer) × rules.noticed l (e.notice cause) answer l'
    × (error ≡ error_of_failure e.refusal cause answer)

-- a request is permitted where the limiter's answer permits its question
pub permitted_by : {V E S : Type 0} (rules : Rules S) (e : Request V E) (question : Question) → IsAsked e question
    → (l permitted : S) → rules.asked l question (Ok true) permitted → IsPermitted rules e l permitted
permitted_by rules e question is l permitted asks = record { early = is.early; asks = rw is.question_is at asks }

module _ {T E S : Type 0} (rules : Rules S) (e : Request (Unit {0}) E) (made : T) (l : S) where
  -- where an early cause stands, the limiter isn't asked, and the cause is answered
  pub makes_unasked : (cause : E) → e.early ≡ Some cause → Makes rules e made l (Err cause) l
  makes_unasked cause early = (Unasked cause, attempt_unasked rules e (alone l) cause early, refl)

  -- where the limiter doesn't permit it, the error of its answer is answered
  pub makes_denied : (question : Question) → IsAsked e question → (answer : Answer) (l' : S)
      → rules.asked l question answer l' → (error : E) → Permits e.denial e.refusal answer (Err error)
      → Makes rules e made l (Err error) l'
  makes_denied question is answer l' asks error denies = (
    Denied answer,
    attempt_denied rules e (alone l) is.early answer l' denies.0 (rw is.question_is at asks),
    ap Err denies.1,
  )

  -- where a late cause stands after the permission, the limiter gets a notice, and the error is by its answer
  pub makes_late : (permitted : S) → IsPermitted rules e l permitted → (cause : E) → e.late ≡ Some cause
      → (error : E) (l' : S) → TellsOf rules e cause permitted error l' → Makes rules e made l (Err error) l'
  makes_late permitted permits cause late error l' tells = (
    Failed cause tells.0,
    attempt_late rules e (alone l) permitted permits cause tells.0 l' late tells.1,
    ap Err tells.2,
  )

  -- where what it is made in refuses it, the limiter gets a notice, and the error is by its answer
  pub makes_refused : (permitted : S) → ReachesCharge rules e l permitted → (cause : E) → e.refuses cause
      → (error : E) (l' : S) → TellsOf rules e cause permitted error l' → Makes rules e made l (Err error) l'
  makes_refused permitted reaches cause refuses error l' tells = (
    Failed cause tells.0,
    attempt_refused rules e (alone l) permitted reaches refl cause tells.0 l' refuses tells.1,
    ap Err tells.2,
  )

-- a growth by 1 or more, with what stands before it
pub record GrowthAttempt (V E S : Type 0) : Type 1 where
  pub rules : Rules S
  pub growth : Growth V E
  pub some : growth.amount ≡ 0 → ⊥
  pub value : V
  pub meter : Meter
  pub limiter : S

-- the growth of a value
abbrev pub growing : {V E S : Type 0} → Rules S → (growth_of : V → Growth V E) → (x : V) → Meter → S
    → ((growth_of x).amount ≡ 0 → ⊥) → GrowthAttempt V E S
growing rules growth_of x m l some =
    record { rules = rules; growth = growth_of x; some = some; value = x; meter = m; limiter = l }

module _ {V E S : Type 0} (t : GrowthAttempt V E S) where
  abbrev before : MeteredValue V S
  before = record { value = t.value; meter = Some t.meter; limiter = t.limiter }

  abbrev request : Request V E
  request = t.growth.request

  -- what is due
  abbrev price : ℕ
  price = optional_due (Some t.meter) t.growth.request.price

  -- the growth ends so, with some charge
  abbrev pub EndsIn : Result ℕ E → V → Meter → S → Type 0
  EndsIn result x' m' l' = (charge : ℕ)
      × Grows t.rules t.growth before result charge (record { value = x'; meter = Some m'; limiter = l' })

  -- an attempt with its answer is a growth
  grows : (outcome : AttemptOutcome E) (charge : ℕ) (s' : MeteredValue V S)
      → Attempt t.rules request before outcome charge s' → (result : Result ℕ E)
      → result ≡ answer_of request t.growth.size outcome → (charge : ℕ) × Grows t.rules t.growth before result charge s'
  grows outcome charge s' attempt result answered =
      (charge, inr (record { some = omega (arith, t.some); outcome = outcome; attempt = attempt; answered = answered }))

  -- where an early cause stands, the limiter isn't asked, nothing changes, and the cause is answered
  pub grows_unasked : (cause : E) → request.early ≡ Some cause → EndsIn (Err cause) t.value t.meter t.limiter
  grows_unasked cause early = grows (Unasked cause) 0 before (attempt_unasked t.rules request before cause early) _ refl

  -- where the limiter doesn't permit it, the error of its answer is answered, and nothing else changes
  pub grows_denied : (question : Question) → IsAsked request question → (answer : Answer) (l' : S)
      → t.rules.asked t.limiter question answer l' → (error : E)
      → Permits request.denial request.refusal answer (Err error) → EndsIn (Err error) t.value t.meter l'
  grows_denied question is answer l' asks error denies = grows (Denied answer) 0 _
      (attempt_denied t.rules request before is.early answer l' denies.0 (rw is.question_is at asks)) _
      (ap Err denies.1)

-- a growth that the limiter permits, where a late cause stands if a test fails, and so much is due
pub record PermitsGrowth {V E S : Type 0} (t : GrowthAttempt V E S) (p : S) (test : Bool) (cause : E) (amount : ℕ)
    : Type 0 where
  pub permits : IsPermitted t.rules t.growth.request t.limiter p
  pub late : t.growth.request.late ≡ (if test then None else Some cause)
  pub due : amount ≡ price t

module _ {V E S : Type 0} {t : GrowthAttempt V E S} {p : S} {test : Bool} {late : E} {amount : ℕ}
    (permitted : PermitsGrowth t p test late amount) where
  -- where the test fails, the limiter gets a notice, and nothing is charged
  pub grows_late : test ≡ false → (error : E) (l' : S) → TellsOf t.rules (request t) late p error l'
      → EndsIn t (Err error) t.value t.meter l'
  grows_late fails error l' tells = grows t (Failed late tells.0) 0 _
      (attempt_late t.rules (request t) (before t) p permitted.permits late tells.0 l'
      (permitted.late ∙ cond-false _ _ _ fails) tells.1) _ (ap Err tells.2)

  module _ (holds : test ≡ true) (m' : Meter) where
    -- nothing stands before the charge
    reaches : ReachesCharge t.rules (request t) t.limiter p
    reaches = record { permits = permitted.permits; late = permitted.late ∙ cond-true _ _ _ holds }

    -- where what is due can't be paid, the limiter gets a notice, and nothing is charged
    pub grows_unpaid : (required : ℕ) → Charges t.meter amount (Err required) m' → (error : E) (l' : S)
        → TellsOf t.rules (request t) ((request t).unpaid required) p error l' → EndsIn t (Err error) t.value m' l'
    grows_unpaid required short error l' tells =
        let is : required ≡ price t = short.1 ∙ permitted.due in
        rw short.2 (
        grows t (Failed ((request t).unpaid (price t)) tells.0) 0 _
        (attempt_unpaid t.rules (request t) (before t) p reaches tells.0 l'
        (unpayable t.meter (price t) (rw permitted.due at short.0)) (rw is at tells.1)) _
        (ap Err (tells.2 ∙ ap (λ n. error_of_failure (request t).refusal ((request t).unpaid n) tells.0) is))
        )

    module _ (enough : Charges t.meter amount (Ok tt) m') where
      -- the price is paid
      paid : Charges t.meter (price t) (Ok tt) m'
      paid = rw permitted.due at enough

      -- where it is paid and what it grows into refuses it, the limiter gets a notice, and the value stays
      pub grows_refused : (cause : E) → (request t).refuses cause → (x' : V) → x' ≡ t.value → (error : E) (l' : S)
          → TellsOf t.rules (request t) cause p error l' → EndsIn t (Err error) x' m' l'
      grows_refused cause refuses x' same error l' tells = rw (paid.1, same) (
          grows t (Failed cause tells.0) (price t) _ (attempt_refused t.rules (request t) (before t) p reaches
          (payable t.meter (price t) paid.0) cause tells.0 l' refuses tells.1) _ (ap Err tells.2)
          )

      -- where it is paid and no cause stands, the value has grown, and the old size is answered
      pub grows_met : (x' : V) → x' ≡ (request t).grown → (old : ℕ) → old ≡ t.growth.size → EndsIn t (Ok old) x' m' p
      grows_met x' grown old answers = rw (paid.1, grown) (
          grows t Met (price t) _
          (attempt_met t.rules (request t) (before t) p reaches (payable t.meter (price t) paid.0)) _
          (ap Ok answers)
          )

module _ {V E S : Type 0} (rules : Rules S) (amount size : ℕ) (e : Request V E) (price : CustomFuelCosts → ℕ) (x : V)
    (l : S) (costs : CustomFuelCosts) (s' : MeteredValue V S) where
  abbrev priced : Growth V E
  priced = record { amount = amount; size = size; request = record e { price = Some price } }

  abbrev off : MeteredValue V S
  off = metered_value x (let m : Meter = record { left = None; costs = costs } in Some m) l

  -- a growth that has a price, with a meter that is off, is one without a meter
  pub grows_unmetered : {result : Result ℕ E} {charge : ℕ} → Grows rules priced off result charge s'
      → Grows rules priced (metered_value x None l) result charge (metered_value s'.value None s'.limiter)
  grows_unmetered grows = grows_too priced priced.request
      (ap (λ (s : MeteredValue V S). metered_value s.value None s.limiter)) (λ outcome answered a. (
        answered,
        record { may_end = a.may_end; follows = a.follows; charged = a.charged; meter = refl; value = a.value },
      )) grows
