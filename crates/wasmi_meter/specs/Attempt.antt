-- An attempt, which is one creation or growth of a value with its meter and its limiter: what it begins with, what is
-- asked and paid, what is due and whether that is left, how it can end, and which answer, charge and value each end
-- means.
use Rattle.std.specs.Prelude.{◌≡◌, ℕ, Bool, true, nat_le, is_none, ◌&&◌, if◌then◌else◌, MatchBool, Option, Some, None, Result, Ok, Err, option_map}
use Rattle.wasmi_meter.specs.declared.fuel.CustomFuelCosts.{CustomFuelCosts}
use Rattle.wasmi_meter.specs.Limiter.{Question, Failure, Answer, NoticeAnswer, IsDenial, Rules}
use Rattle.wasmi_meter.specs.Meter.{Meter, amount_left, meter_after, due}

-- a value that may grow, the meter that is charged, if there is one, and the limiter that is asked
pub record MeteredValue (V S : Type 0) : Type 0 where
  pub value : V
  pub meter : Option Meter
  pub limiter : S

-- another value with the same meter and limiter
abbrev pub with_value : {V W S : Type 0} → MeteredValue V S → W → MeteredValue W S
with_value s value = record { value = value; meter = s.meter; limiter = s.limiter }

-- what an attempt to make something begins with: a limiter, and no meter
abbrev pub alone : {S : Type 0} → S → MeteredValue (Unit {0}) S
alone l = record { value = tt; meter = None; limiter = l }

-- what is asked and paid, and the causes of a refusal in their order
pub record Request (V E : Type 0) : Type 1 where
  -- the first cause before the question
  pub early : Option E
  pub question : Question
  -- the error if the limiter says no, and the error if it returns one to the question or to the notice
  pub denial : E
  pub refusal : E
  -- the notice that the limiter gets of a cause
  pub notice : E → Failure
  -- the first cause after the permission that stands before the charge
  pub late : Option E
  -- the price by a meter's costs, if there is one, and the cause if so much can't be paid
  pub price : Option (CustomFuelCosts → ℕ)
  pub unpaid : ℕ → E
  -- the causes by which what is grown into may refuse after the charge
  pub refuses : E → Type 0
  -- the value once it has grown
  pub grown : V

-- the four ends: unasked, denied by the limiter, met, or failed after the permission, with the answer to the notice
pub data AttemptOutcome (E : Type 0) : Type 0 where
  Unasked : E → AttemptOutcome E
  Denied : Answer → AttemptOutcome E
  Met : AttemptOutcome E
  Failed : E → NoticeAnswer → AttemptOutcome E

-- what is due for the price of an attempt: nothing if there is no price or no meter, or if the meter is off
abbrev pub optional_due : Option Meter → Option (CustomFuelCosts → ℕ) → ℕ
optional_due (Some m) (Some price) = due m price
optional_due _ _ = 0

-- whether so much is left for an attempt, as always without a meter
abbrev pub covers : Option Meter → ℕ → Bool
covers (Some m) amount = nat_le amount (amount_left m)
covers None amount = true

-- the error of an attempt that ends with an answer that is no permission
abbrev pub error_of_answer : {E : Type 0} → E → E → Answer → E
error_of_answer denial refusal (Ok _) = denial
error_of_answer denial refusal (Err _) = refusal

-- the error of an attempt that failed after the permission, by the answer to the notice
abbrev pub error_of_failure : {E : Type 0} → E → E → NoticeAnswer → E
error_of_failure refusal cause (Ok _) = cause
error_of_failure refusal cause (Err _) = refusal

-- whether an attempt goes on after a limiter's answer: no error if that permits, else the error
abbrev pub Permits : {E : Type 0} → E → E → Answer → Result (Unit {0}) E → Type 0
Permits denial refusal answer (Ok _) = answer ≡ Ok true
Permits denial refusal answer (Err error) = IsDenial answer × (error ≡ error_of_answer denial refusal answer)

module _ {V E : Type 0} (e : Request V E) where
  -- the result of an attempt that ends so: this value if it is met, else the error
  abbrev pub answer_of : {T : Type 0} → T → AttemptOutcome E → Result T E
  answer_of value (Unasked cause) = Err cause
  answer_of value (Denied answer) = Err (error_of_answer e.denial e.refusal answer)
  answer_of value Met = Ok value
  answer_of value (Failed cause notice_answer) = Err (error_of_failure e.refusal cause notice_answer)

  -- the value afterwards: the grown one if the attempt was met, else the same
  abbrev pub value_after : V → AttemptOutcome E → V
  value_after value Met = e.grown
  value_after value _ = value

  module _ (m : Option Meter) where
    -- the first cause after the permission: the late one, then fuel, then what is grown into
    abbrev pub IsFirstCause : Option E → E → Type 0
    IsFirstCause (Some late) cause = cause ≡ late
    IsFirstCause None cause =
        MatchBool (covers m (optional_due m e.price)) (e.refuses cause) (cause ≡ e.unpaid (optional_due m e.price))

    -- when an attempt may end so
    abbrev pub MayEnd : AttemptOutcome E → Type 0
    MayEnd (Unasked cause) = e.early ≡ Some cause
    MayEnd (Denied answer) = (e.early ≡ None) × IsDenial answer
    MayEnd Met = (e.early ≡ None) × (e.late ≡ None) × (covers m (optional_due m e.price) ≡ true)
    MayEnd (Failed cause notice_answer) = (e.early ≡ None) × IsFirstCause e.late cause

    -- what is charged: what is due, once the late cause is absent and so much is left, also where there is then no room
    abbrev pub outcome_charge : AttemptOutcome E → ℕ
    outcome_charge Met = optional_due m e.price
    outcome_charge (Failed cause notice_answer) =
        if is_none e.late && covers m (optional_due m e.price) then optional_due m e.price else 0
    outcome_charge _ = 0

  -- What the limiter sees: nothing, a denial, or a permission, which is followed by the growth or by just one notice.
  abbrev pub Follows : {S : Type 0} → Rules S → S → AttemptOutcome E → S → Type 0
  Follows rules l (Unasked cause) l' = l' ≡ l
  Follows rules l (Denied answer) l' = rules.asked l e.question answer l'
  Follows rules l Met l' = rules.asked l e.question (Ok true) l'
  Follows rules l (Failed cause notice_answer) l' =
      (permitted : _) × rules.asked l e.question (Ok true) permitted
      × rules.noticed permitted (e.notice cause) notice_answer l'

-- one attempt: its end, its charge, and the value, the meter and the limiter afterwards
pub record Attempt {V E S : Type 0} (rules : Rules S) (e : Request V E) (s : MeteredValue V S)
    (outcome : AttemptOutcome E) (charge : ℕ) (s' : MeteredValue V S) : Type 0 where
  pub may_end : MayEnd e s.meter outcome
  pub follows : Follows e rules s.limiter outcome s'.limiter
  pub charged : charge ≡ outcome_charge e s.meter outcome
  pub meter : s'.meter ≡ option_map (λ m. meter_after m charge) s.meter
  pub value : s'.value ≡ value_after e s.value outcome
