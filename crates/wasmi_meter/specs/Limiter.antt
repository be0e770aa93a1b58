-- What a limiter is asked and told and what it answers, its rules, a limiter that may be absent, and the loan of a
-- limiter by a reference to one.
use Rattle.std.specs.Prelude.{◌≡◌, ℕ, Option, Some, None, Result, Ok, Bool, true, option_map}
use Rattle.wasmi_meter.specs.declared.{limiter.Kind.Kind, error.LimiterError.LimiterError, error.MemoryError.MemoryError, error.TableError.TableError, limiter.LimiterRef.LimiterRef}
use Rattle.wasmi_meter.specs.declared.limiter.Kind.TheVariants.{Bytes, Elements}
use Rattle.std.specs.Option.{option_copied_mut}
use Rattle.std.specs.Borrow.{MutBor, LendsIf, Fml, RattleType}
use Rattle.wasmi_meter.specs.contracts.limiter.LimiterRef.{the_row}

-- May this grow from current to desired, where maximum is the most that its type allows?
pub record Question : Type 0 where
  pub kind : Kind
  pub current : ℕ
  pub desired : ℕ
  pub maximum : Option ℕ

-- what a limiter answers to a question: it permits, says no, or returns an error
abbrev pub Answer : Type 0
Answer = Result Bool LimiterError

-- what a limiter answers to a notice: it accepts it, or returns an error
abbrev pub NoticeAnswer : Type 0
NoticeAnswer = Result (Unit {0}) LimiterError

-- the answer is no permission
abbrev pub IsDenial : Answer → Type 0
IsDenial (Ok true) = ⊥
IsDenial _ = Unit {0}

-- why a growth failed that was permitted
pub data Failure : Type 0 where
  MemoryFailure : MemoryError → Failure
  TableFailure : TableError → Failure

-- the kind of what failed to grow
abbrev pub kind_of : Failure → Kind
kind_of (MemoryFailure error) = Bytes
kind_of (TableFailure error) = Elements

-- what a limiter may answer in each of its states, and the state after it
pub record Rules (S : Type 0) : Type 1 where
  pub asked : S → Question → Answer → S → Type 0
  pub noticed : S → Failure → NoticeAnswer → S → Type 0

-- the rules of a limiter that permits everything, accepts each notice, and stays the same
abbrev pub unlimited_rules : {S : Type 0} → Rules S
unlimited_rules = record {
  asked = λ l question answer l'. (answer ≡ Ok true) × (l' ≡ l);
  noticed = λ l failure notice_answer l'. (notice_answer ≡ Ok tt) × (l' ≡ l);
}

-- a question to a limiter that may be absent: without one it is permitted
abbrev pub AskedIf : {S : Type 0} → Rules S → Option S → Question → Answer → Option S → Type 0
AskedIf rules (Some l) question answer (Some l') = rules.asked l question answer l'
AskedIf rules None question answer None = answer ≡ Ok true
AskedIf rules _ question answer _ = ⊥

-- a notice to a limiter that may be absent: without one it is accepted
abbrev pub NoticedIf : {S : Type 0} → Rules S → Option S → Failure → NoticeAnswer → Option S → Type 0
NoticedIf rules (Some l) failure notice_answer (Some l') = rules.noticed l failure notice_answer l'
NoticedIf rules None failure notice_answer None = notice_answer ≡ Ok tt
NoticedIf rules _ failure notice_answer _ = ⊥

-- the rules of a limiter that may be absent
abbrev pub optional_rules : {S : Type 0} → Rules S → Rules (Option S)
optional_rules rules = record { asked = AskedIf rules; noticed = NoticedIf rules }

-- what is lent, if anything
abbrev pub loan : {R : Type 0} → LimiterRef R → Option R
loan r = r.limiter

-- the present value of the limiter that is lent, or none
abbrev pub lent_limiter : {L : Type 0} → LimiterRef (MutBor L) → Option L
lent_limiter r = option_copied_mut r.limiter

-- one loan before and after a call: both absent, or under one name
abbrev pub SameLoan : {L : Type 0} → Option (MutBor L) → Option (MutBor L) → Type 0
SameLoan None None = Unit {0}
SameLoan (Some r) (Some r') = r'.ghost_name ≡ r.ghost_name
SameLoan _ _ = ⊥

-- r' leads to what r leads to
abbrev pub KeepsLoan : {L : Type 0} → LimiterRef (MutBor L) → LimiterRef (MutBor L) → Type 0
KeepsLoan r r' = SameLoan r.limiter r'.limiter

-- r lends the limiter out of s, and s ends with the last value that was written through it
abbrev pub LendsLimiter : (R L : RattleType) → (R.Denot → L.Denot → R.Denot) → MutBor (LimiterRef R.Denot)
    → Option (MutBor L.Denot) → Fml
LendsLimiter R L last s r =
    LendsIf (the_row R) L s r (λ l. record s.now { limiter = option_map (λ lender. last lender l) s.now.limiter }) s.now

-- the rules of a reference to a limiter, if there is one: those of the limiter, and it leads to what it led to
abbrev pub lent_rules : {L : Type 0} → Rules L → Rules (LimiterRef (MutBor L))
lent_rules rules = record {
  asked = λ r question answer r'. KeepsLoan r r' × AskedIf rules (lent_limiter r) question answer (lent_limiter r');
  noticed = λ r failure notice_answer r'.
      KeepsLoan r r' × NoticedIf rules (lent_limiter r) failure notice_answer (lent_limiter r');
}
