-- A limiter with caps is a reserving one: it reserves what it permits, and gives back at a notice.
use Rattle.std.specs.Prelude.{◌+◌, ◌-◌}
use Rattle.std.proofs.Common.{inl, inr, refl}
use Rattle.std.proofs.lemmas.Bool.{cases_lt}
use Rattle.wasmi_meter.specs.Capped.{Capped, held_together, Asked, Noticed, Reserves, GivesBack}
use Rattle.wasmi_meter.specs.Limiter.{Question, Answer, Failure, NoticeAnswer, kind_of}

module _ {L : Type 0} (c : Capped L) where
  -- a question to a limiter with caps adds the difference if it is permitted, and else keeps what is held
  pub asked_reserves : (l l' : L) (q : Question) (answer : Answer) → Asked c l q answer l'
      → Reserves q answer (c.holdings l) (c.holdings l')
  asked_reserves l l' q answer (taken, answered, more) =
      elim (cases_lt (c.cap l q.kind) (held_together c l q.kind + (q.desired - q.current))) [
        | inl above ↦ let none = more.takes.above above in
            rw (answered, none.0, none.1) (record { bytes = refl; elements = refl })
        | inr within ↦ let some = more.takes.within within in rw (answered, some.0) some.1
      ]

  -- a notice to a limiter with caps takes back the last difference if it is of its kind
  pub noticed_gives_back : (l l' : L) (failure : Failure) (notice_answer : NoticeAnswer)
      → Noticed c l failure notice_answer l' → GivesBack (kind_of failure) (c.holdings l) (c.holdings l')
  noticed_gives_back l l' failure notice_answer noticed = noticed.gives_back
