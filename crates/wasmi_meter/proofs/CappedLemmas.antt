-- Limiters with caps, and quotas: a question or a notice leaves no choice, all but the holdings stays, and what is held
-- stays within the caps, also after a denial, a notice or a release.
use Rattle.std.proofs.Common.{◌≡◌, ℕ, ◌+◌, ◌-◌, ◌≤◌, Bool, true, Option, Some, None, Ok, inl, inr, ap, ◌∙◌, arith, refl}
use Rattle.std.proofs.lemmas.Bool.{cases_lt}
use Rattle.wasmi_meter.specs.declared.{quota.Holdings.Holdings, limiter.Kind.Kind, quota.Amounts.Amounts, quota.Quota.Quota}
use Rattle.wasmi_meter.specs.declared.limiter.Kind.TheVariants.{Bytes, Elements}
use Rattle.wasmi_meter.specs.Capped.{Capped, held_together, IsWithin, Asked, Noticed, amount_held, with_more, with_less, without_last_of, HoldsTheSame, Reserves, GivesBack, Takes, Releases, capped_quota, holdings, IsWithinCaps}
use Rattle.wasmi_meter.specs.Limiter.{Question, Answer, IsDenial, Failure, NoticeAnswer, kind_of}

-- what is to be taken leaves no choice of whether it is, nor of what is held after it
takes_unique : {others cap : ℕ} {h : Holdings} {kind : Kind} {n : ℕ} {taken taken' : Bool} {a b : Holdings}
    → Takes others cap h kind n taken a → Takes others cap h kind n taken' b → (taken ≡ taken') × (a ≡ b)
takes_unique {others} {cap} {h} {kind} {n} first second = elim (cases_lt cap (others + amount_held h kind + n)) [
  | inl above ↦ let one = first.above above in let other = second.above above in (cc, cc)
  | inr within ↦ let one = first.within within in let other = second.within within in (cc, cc)
]

-- after n more of a kind that fit, what is held of each kind fits
more_fits : (others cap : Kind → ℕ) (h : Holdings) (q : Kind) (n : ℕ) → others q + amount_held h q + n ≤ cap q
    → ((kind : Kind) → others kind + amount_held h kind ≤ cap kind) → (kind : Kind)
    → others kind + amount_held (with_more h q n) kind ≤ cap kind
more_fits others cap h Bytes n fits within Bytes = omega (arith, fits)
more_fits others cap h Elements n fits within Elements = omega (arith, fits)
more_fits others cap h q n fits within kind = within kind

-- no more is held of a kind once a last difference was taken back
less_held : (back : Kind) (h : Holdings) (last : Option (Kind × ℕ)) (kind : Kind)
    → amount_held (without_last_of back h last) kind ≤ amount_held h kind
less_held Bytes h (Some (Bytes, n)) Bytes = omega arith
less_held Elements h (Some (Elements, n)) Elements = omega arith
less_held back h last kind = omega arith

-- a denial keeps the holdings
pub denial_keeps : (q : Question) (answer : Answer) (h h' : Holdings) → IsDenial answer → Reserves q answer h h'
    → HoldsTheSame h h'
denial_keeps q (Ok true) h h' denial reserves = absurd denial
denial_keeps q answer h h' denial reserves = reserves

-- what is held is the same after a difference was added and taken back
pub given_back : (kind : Kind) (n : ℕ) (h p h' : Holdings) → p ≡ with_more h kind n → GivesBack kind p h'
    → HoldsTheSame h h'
given_back Bytes n h p h' more gives = rw (gives, more) (record { bytes = omega arith; elements = refl })
given_back Elements n h p h' more gives = rw (gives, more) (record { bytes = refl; elements = omega arith })

-- the caps, and what others hold, are the same with other holdings
pub record KeepsCaps {L : Type 0} (c : Capped L) : Type 0 where
  pub cap : (l : L) (h : Holdings) (kind : Kind) → c.cap (c.with_holdings l h) kind ≡ c.cap l kind
  pub others : (l : L) (h : Holdings) (kind : Kind) → c.others (c.with_holdings l h) kind ≡ c.others l kind

module _ {L : Type 0} (c : Capped L) where
  -- a question leaves no choice of the answer, nor of the limiter after it
  pub asked_unique : (l : L) (q : Question) (answer answer' : Answer) (a b : L) → Asked c l q answer a
      → Asked c l q answer' b → (answer ≡ answer') × (a ≡ b)
  asked_unique l q answer answer' a b (taken, answered, first) (taken', answered', second) =
      let one = takes_unique first.takes second.takes in (cc, cc)

  -- a notice leaves no choice of the answer, nor of the limiter after it
  pub noticed_unique : (l : L) (failure : Failure) (answer answer' : NoticeAnswer) (a b : L)
      → Noticed c l failure answer a → Noticed c l failure answer' b → (answer ≡ answer') × (a ≡ b)
  noticed_unique l failure answer answer' a b first second = (cc, cc)

  module _ (keeps : KeepsCaps c) (l l' : L) where
    -- the caps stay where all but the holdings does
    pub caps_kept : l' ≡ c.with_holdings l (c.holdings l') → (kind : Kind) → c.cap l' kind ≡ c.cap l kind
    caps_kept rest kind = ap (λ k. c.cap k kind) rest ∙ keeps.cap l (c.holdings l') kind

    -- what others hold stays where all but the holdings does
    pub others_kept : l' ≡ c.with_holdings l (c.holdings l') → (kind : Kind) → c.others l' kind ≡ c.others l kind
    others_kept rest kind = ap (λ k. c.others k kind) rest ∙ keeps.others l (c.holdings l') kind

    -- within the caps by what is held
    holds_within : l' ≡ c.with_holdings l (c.holdings l')
        → ((kind : Kind) → c.others l kind + amount_held (c.holdings l') kind ≤ c.cap l kind) → IsWithin c l'
    holds_within rest fits kind = omega (arith, caps_kept rest kind, others_kept rest kind, fits kind)

    -- a question leads from within the caps to within them
    pub asked_is_within : IsWithin c l → (q : Question) (answer : Answer) → Asked c l q answer l' → IsWithin c l'
    asked_is_within within q answer (taken, answered, more) =
        elim (cases_lt (c.cap l q.kind) (held_together c l q.kind + (q.desired - q.current))) [
          | inl above ↦ holds_within more.rest (λ kind. rw (more.takes.above above).1 (within kind))
          | inr fits ↦ holds_within more.rest (λ kind. rw (more.takes.within fits).1
              (more_fits (c.others l) (c.cap l) (c.holdings l) q.kind _ fits within kind))
        ]

    -- a notice leads from within the caps to within them
    pub noticed_is_within : IsWithin c l → (failure : Failure) (notice_answer : NoticeAnswer)
        → Noticed c l failure notice_answer l' → IsWithin c l'
    noticed_is_within within failure notice_answer noticed =
        holds_within noticed.rest (λ kind. rw noticed.gives_back
        (omega (arith, less_held (kind_of failure) (c.holdings l) (c.holdings l).last kind, within kind)))

-- the caps of a quota are the same with other holdings
pub quota_keeps : KeepsCaps capped_quota
quota_keeps = record { cap = λ quota h kind. refl; others = λ quota h kind. refl }

-- a quota that holds nothing is within any caps
pub nothing_within : (caps held : Amounts) → (held.bytes ≡ 0) × (held.elements ≡ 0)
    → IsWithinCaps (record { caps = caps; holdings = record { held = held; last = None } })
nothing_within caps held none Bytes = omega (arith, none.0)
nothing_within caps held none Elements = omega (arith, none.1)

-- no more of a kind is held once some of one was given up
less_left : (back : Kind) (h : Holdings) (n : ℕ) (kind : Kind) → amount_held (with_less h back n) kind ≤ amount_held h kind
less_left Bytes h n Bytes = omega arith
less_left Elements h n Elements = omega arith
less_left back h n kind = omega arith

-- what is given up leaves a quota within its caps
pub released_within : (quota quota' : Quota) (kind : Kind) (n : ℕ) (released : Bool)
    → Releases (holdings quota) kind n released (holdings quota') → quota'.caps ≡ quota.caps
    → IsWithinCaps quota → IsWithinCaps quota'
released_within quota quota' kind n released releases caps within k =
    elim (cases_lt (amount_held (holdings quota) kind) n) [
      | inl short ↦ rw (caps, (releases.short short).1) (within k)
      | inr fits ↦ rw (caps, (releases.held fits).1) (omega (arith, less_left kind (holdings quota) n k, within k))
    ]
