-- Limiters that count what they permitted: amounts by kind, what is held, taken, given back and released, limiters with
-- caps and their rules, and quotas.
use Rattle.std.specs.Prelude.{ℕ, ◌≡◌, ◌+◌, ◌-◌, ◌≤◌, ◌<◌, Option, Some, None, Ok, Bool, true, false}
use Rattle.wasmi_meter.specs.declared.{quota.Amounts.Amounts, limiter.Kind.Kind, quota.Holdings.Holdings, quota.Quota.Quota}
use Rattle.wasmi_meter.specs.declared.limiter.Kind.TheVariants.{Bytes, Elements}
use Rattle.wasmi_meter.specs.Limiter.{Question, Answer, Failure, NoticeAnswer, kind_of, Rules}

-- the amount of a kind
abbrev pub amount_of : Amounts → Kind → ℕ
amount_of amounts Bytes = amounts.bytes
amount_of amounts Elements = amounts.elements

-- the amounts with another one of a kind
abbrev pub with_amount : Amounts → Kind → ℕ → Amounts
with_amount amounts Bytes n = record amounts { bytes = n }
with_amount amounts Elements n = record amounts { elements = n }

-- nothing of either kind
abbrev pub nothing : Amounts
nothing = record { bytes = 0; elements = 0 }

-- the amounts by kind
abbrev pub amounts_of : (Kind → ℕ) → Amounts
amounts_of amount = record { bytes = amount Bytes; elements = amount Elements }

-- what is held of a kind
abbrev pub amount_held : Holdings → Kind → ℕ
amount_held h kind = amount_of h.held kind

-- n more of a kind
abbrev pub with_more : Holdings → Kind → ℕ → Holdings
with_more h kind n = record { held = with_amount h.held kind (amount_held h kind + n); last = Some (kind, n) }

-- a notice of a kind takes back the last difference, once, if it is of that kind; otherwise all stays
abbrev pub without_last_of : Kind → Holdings → Option (Kind × ℕ) → Holdings
without_last_of Bytes h (Some (Bytes, n)) =
    record { held = with_amount h.held Bytes (h.held.bytes - n); last = None }
without_last_of Elements h (Some (Elements, n)) =
    record { held = with_amount h.held Elements (h.held.elements - n); last = None }
without_last_of kind h last = h

-- what is held after a notice of a kind
abbrev pub without_last : Kind → Holdings → Holdings
without_last kind h = without_last_of kind h h.last

-- n more of a kind are taken exactly where they stay, with what is held and what others hold, within the cap, and
-- nothing changes otherwise
pub record Takes (others cap : ℕ) (h : Holdings) (kind : Kind) (n : ℕ) (taken : Bool) (h' : Holdings) : Type 0 where
  pub within : others + amount_held h kind + n ≤ cap → (taken ≡ true) × (h' ≡ with_more h kind n)
  pub above : cap < others + amount_held h kind + n → (taken ≡ false) × (h' ≡ h)

-- n of a kind are given up, and nothing can be taken back after that
abbrev pub with_less : Holdings → Kind → ℕ → Holdings
with_less h kind n = record { held = with_amount h.held kind (amount_held h kind - n); last = None }

-- n of a kind are given up exactly where as many are held, and nothing changes otherwise
pub record Releases (h : Holdings) (kind : Kind) (n : ℕ) (released : Bool) (h' : Holdings) : Type 0 where
  pub held : n ≤ amount_held h kind → (released ≡ true) × (h' ≡ with_less h kind n)
  pub short : amount_held h kind < n → (released ≡ false) × (h' ≡ h)

-- as much is held of each kind
pub record HoldsTheSame (h h' : Holdings) : Type 0 where
  pub bytes : h'.held.bytes ≡ h.held.bytes
  pub elements : h'.held.elements ≡ h.held.elements

-- a permission adds the difference that was asked for, and another answer keeps what is held
abbrev pub Reserves : Question → Answer → Holdings → Holdings → Type 0
Reserves q (Ok true) h h' = h' ≡ with_more h q.kind (q.desired - q.current)
Reserves q _ h h' = HoldsTheSame h h'

-- a notice takes back the last difference, once, if it is of its kind, and changes nothing that is held otherwise
abbrev pub GivesBack : Kind → Holdings → Holdings → Type 0
GivesBack kind h h' = h' ≡ without_last kind h

-- limiters with caps: what one holds, the same one with other holdings, what others hold of a kind beside it, and the
-- most that all of them together may hold of a kind
pub record Capped (L : Type 0) : Type 0 where
  pub holdings : L → Holdings
  pub with_holdings : L → Holdings → L
  pub others : L → Kind → ℕ
  pub cap : L → Kind → ℕ

module _ {L : Type 0} (c : Capped L) where
  -- what all together hold of a kind
  abbrev pub held_together : L → Kind → ℕ
  held_together l kind = c.others l kind + amount_held (c.holdings l) kind

  -- all together hold no more of a kind than its cap
  abbrev pub IsWithin : L → Type 0
  IsWithin l = (kind : Kind) → held_together l kind ≤ c.cap l kind

  -- n more of a kind are taken, or not, and all but the holdings stays
  pub record HoldsMore (l : L) (kind : Kind) (n : ℕ) (taken : Bool) (l' : L) : Type 0 where
    pub takes : Takes (c.others l kind) (c.cap l kind) (c.holdings l) kind n taken (c.holdings l')
    pub rest : l' ≡ c.with_holdings l (c.holdings l')

  -- a question is answered by whether the difference is taken
  abbrev pub Asked : L → Question → Answer → L → Type 0
  Asked l q answer l' = (taken : Bool) × (answer ≡ Ok taken) × HoldsMore l q.kind (q.desired - q.current) taken l'

  -- a notice is accepted, gives back what was taken last, if that is of its kind, and keeps all but the holdings
  pub record Noticed (l : L) (failure : Failure) (notice_answer : NoticeAnswer) (l' : L) : Type 0 where
    pub accepts : notice_answer ≡ Ok tt
    pub gives_back : c.holdings l' ≡ without_last (kind_of failure) (c.holdings l)
    pub rest : l' ≡ c.with_holdings l (c.holdings l')

  -- the rules of such limiters
  abbrev pub capped_rules : Rules L
  capped_rules = record { asked = Asked; noticed = Noticed }

-- what a quota holds
abbrev pub holdings : Quota → Holdings
holdings quota = quota.holdings

-- the most that it may hold of a kind
abbrev pub cap_of : Quota → Kind → ℕ
cap_of quota kind = amount_of quota.caps kind

-- quotas as limiters with caps
abbrev pub capped_quota : Capped Quota
capped_quota = record {
  holdings = holdings;
  with_holdings = λ quota h. record quota { holdings = h };
  others = λ quota kind. 0;
  cap = cap_of;
}

-- no more of a kind is held than its cap
abbrev pub IsWithinCaps : Quota → Type 0
IsWithinCaps = IsWithin capped_quota

-- the caps stay
abbrev pub SameCaps : Quota → Quota → Type 0
SameCaps quota quota' = (kind : Kind) → cap_of quota' kind ≡ cap_of quota kind

-- the rules of a quota
abbrev pub quota_rules : Rules Quota
quota_rules = capped_rules capped_quota
