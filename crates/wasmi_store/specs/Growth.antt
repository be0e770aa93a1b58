-- Making and growing a memory or a table, as an attempt with its answer: how what it begins with is put together, what
-- a limiter is asked and denies, and a call with some charge.
use Rattle.std.specs.Prelude.{◌≡◌, ◌<◌, ◌⊎◌, ℕ, Option, None, Result, Ok}
use Rattle.wasmi_meter.specs.Limiter.{Question, Answer, IsDenial, Rules}
use Rattle.wasmi_meter.specs.Meter.{Meter}
use Rattle.wasmi_meter.specs.Attempt.{MeteredValue, alone, Request, AttemptOutcome, Attempt, answer_of}

-- a value with its meter, if there is one, and its limiter
abbrev pub metered_value : {V S : Type 0} → V → Option Meter → S → MeteredValue V S
metered_value value meter limiter = record { value = value; meter = meter; limiter = limiter }

-- a value with its meter, if there is one, and no limiter to ask
abbrev pub metered : {V : Type 0} → V → Option Meter → MeteredValue V (Unit {0})
metered value meter = metered_value value meter tt

-- a call on a value takes place, with some charge
abbrev pub WithCharge : {A R : Type 0} → (A → R → ℕ → A → Type 0) → A → R → A → Type 0
WithCharge Acts s result s' = (charge : ℕ) × Acts s result charge s'

-- no early cause stands against what is asked, and this is the question
pub record IsAsked {V E : Type 0} (e : Request V E) (question : Question) : Type 0 where
  pub early : e.early ≡ None
  pub question_is : question ≡ e.question

-- a limiter was asked a question, and denied it
abbrev pub IsDenied : {S : Type 0} → Rules S → Question → S → S → Type 0
IsDenied rules question l l' = (answer : Answer) × IsDenial answer × rules.asked l question answer l'

-- an attempt to make a value, which is returned if the attempt is met; no fuel is charged
abbrev pub Makes : {T E S : Type 0} → Rules S → Request (Unit {0}) E → T → S → Result T E → S → Type 0
Makes {E = E} rules e made l result l' =
    (outcome : AttemptOutcome E) × Attempt rules e (alone l) outcome 0 (alone l') × (result ≡ answer_of e made outcome)

-- a growth: by how much, the size before it, and what is asked and paid for it
pub record Growth (V E : Type 0) : Type 1 where
  pub amount : ℕ
  pub size : ℕ
  pub request : Request V E

-- a growth by 0 returns the size, and changes nothing
pub record GrowsByNone {V E S : Type 0} (g : Growth V E) (s : MeteredValue V S) (result : Result ℕ E) (charge : ℕ)
    (s' : MeteredValue V S) : Type 0 where
  pub none : g.amount ≡ 0
  pub answered : result ≡ Ok g.size
  pub uncharged : charge ≡ 0
  pub same : s' ≡ s

-- a growth by 1 or more is an attempt, and returns the old size if it is met
pub record GrowsBySome {V E S : Type 0} (rules : Rules S) (g : Growth V E) (s : MeteredValue V S) (result : Result ℕ E)
    (charge : ℕ) (s' : MeteredValue V S) : Type 0 where
  pub some : 0 < g.amount
  pub outcome : AttemptOutcome E
  pub attempt : Attempt rules g.request s outcome charge s'
  pub answered : result ≡ answer_of g.request g.size outcome

-- a growth with its result and its charge
abbrev pub Grows : {V E S : Type 0} → Rules S → Growth V E → MeteredValue V S → Result ℕ E → ℕ → MeteredValue V S
    → Type 0
Grows rules g s result charge s' = GrowsByNone g s result charge s' ⊎ GrowsBySome rules g s result charge s'
