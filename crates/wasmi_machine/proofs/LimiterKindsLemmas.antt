-- A run under a limiter of one of three kinds (`AnyLimiter`) is one by the rules of its kind, and the kind stays.
use Rattle.std.proofs.Common.{◌≡◌, Option, Some, None, List, [], ◌∷◌, refl}
use Rattle.wasmi_machine.proofs.Common.{Rules, optional_rules, quota_rules, RelatesByKind, RepliesKeepKind, RunsKeepKind, RunsOfCallsKeepKind, IsRunOf, Run, RepliesWith, State, World, Turn, world}
use Rattle.wasmi_meter.specs.declared.{any_limiter.AnyLimiter.AnyLimiter, quota.Quota.Quota}
use Rattle.wasmi_meter.specs.declared.any_limiter.AnyLimiter.TheVariants as limiter
use Rattle.wasmi_meter.specs.AnswerList.{AnswersAhead, answer_list_rules}
use Rattle.wasmi_meter.specs.AnyLimiter.{any_limiter_rules, quota_of}
use Rattle.wasmi_machine.proofs.HoldingLemmas.{Carries, optional_carries}
use Rattle.wasmi_machine.proofs.RevealingLemmas.{run_carried}

-- for each kind of limiter: a run under one in these states leaves it in them, and is one under its image, which may be
-- none
run_within : {L T : Type 0} {IsIn : L → Type 0} {image : L → Option T} {rules : Rules L} {rules' : Rules T}
    → Carries IsIn image rules (optional_rules rules') → (s : State) (l : L) (turns : List Turn) (s' : State) (l' : L)
    → IsIn l → Run (optional_rules rules) (world s (Some l)) turns (world s' (Some l'))
    → IsIn l' × Run (optional_rules rules') (world s (image l)) turns (world s' (image l'))
run_within {rules' = rules'} carries s l turns s' l' here ran =
    run_carried (optional_carries {rules' = rules'} carries) (world s (Some l)) turns (world s' (Some l')) here ran

-- the list that a limiter answers from, if it does
abbrev list_of : AnyLimiter → Option AnswersAhead
list_of (limiter.Answers list) = Some list
list_of l = None

-- a limiter of the kind that permits everything does what is done where there is no limiter
unlimited_carries : {T : Type 0} (rules : Rules T) → Carries (λ l. l ≡ limiter.Unlimited)
    (λ l. let none : Option T = None in none) any_limiter_rules (optional_rules rules)
unlimited_carries {T} rules = record {
  asked = λ l q answer l' is asked. let done = rw is at asked in (done.1, done.0);
  noticed = λ l failure answer l' is noticed. let done = rw is at noticed in (done.1, done.0);
}

-- a limiter that is a quota does what the quota does
quota_carries : Carries (λ l. (own : Quota) × (l ≡ limiter.Quota own)) quota_of any_limiter_rules
    (optional_rules quota_rules)
quota_carries = record {
  asked = λ l q answer l' (own, is) done. let step = rw is at done in ((step.0, step.1), rw (is, step.1) step.2);
  noticed = λ l failure answer l' (own, is) done.
      let step = rw is at done in ((step.0, step.1), rw (is, step.1) step.2);
}

-- a limiter that answers from a list does what the list does
list_carries : Carries (λ l. (own : AnswersAhead) × (l ≡ limiter.Answers own)) list_of any_limiter_rules
    (optional_rules answer_list_rules)
list_carries = record {
  asked = λ l q answer l' (own, is) done. let step = rw is at done in ((step.0, step.1), rw (is, step.1) step.2);
  noticed = λ l failure answer l' (own, is) done.
      let step = rw is at done in ((step.0, step.1), rw (is, step.1) step.2);
}

-- a run leaves a limiter of the kind of the one before it
pub runs_keep_kind : RunsKeepKind
runs_keep_kind turns s limiter.Unlimited s' l' ran =
    run_within {rules' = quota_rules} (unlimited_carries quota_rules) s limiter.Unlimited turns s' l' refl ran
runs_keep_kind turns s (limiter.Quota quota) s' l' ran =
    let within = run_within quota_carries s (limiter.Quota quota) turns s' l' (quota, refl) ran in
    (within.0.0, within.0.1, rw within.0.1 at within.1)
runs_keep_kind turns s (limiter.Answers list) s' l' ran =
    let within = run_within list_carries s (limiter.Answers list) turns s' l' (list, refl) ran in
    (within.0.0, within.0.1, rw within.0.1 at within.1)

-- what a relation gives in each world, it gives by the rules of a kind
by_kind : (Relates Relates' : (L : Type 0) → Rules L → World L → World L → Type 0)
    → ((L : Type 0) (rules : Rules L) (w w' : World L) → Relates L rules w w' → Relates' L rules w w')
    → (s : State) (l : AnyLimiter) (s' : State) (l' : AnyLimiter) → RelatesByKind Relates s l s' l'
    → RelatesByKind Relates' s l s' l'
by_kind Relates Relates' too s limiter.Unlimited s' l' (same, related) = (same, too _ _ _ _ related)
by_kind Relates Relates' too s (limiter.Quota quota) s' l' (quota', same, related) = (quota', same, too _ _ _ _ related)
by_kind Relates Relates' too s (limiter.Answers list) s' l' (list', same, related) = (list', same, too _ _ _ _ related)

-- a run of calls is one by the rules of the kind
pub runs_of_calls_keep_kind : RunsOfCallsKeepKind
runs_of_calls_keep_kind calls replies s l s' l' (turns, called, told, ran) =
    by_kind (λ L rules w w'. Run rules w turns w') (λ L rules w w'. IsRunOf rules calls w replies w')
    (λ L rules w w' ran. (turns, called, told, ran)) s l s' l' (runs_keep_kind turns s l s' l' ran)

-- a reply is one by the rules of the kind
pub replies_keep_kind : RepliesKeepKind
replies_keep_kind call reply s l s' l' (charge, written, step) =
    let turn : Turn = record { call = call; reply = reply; charge = charge; written = written } in
    by_kind (λ L rules w w'. Run rules w (turn ∷ []) w') (λ L rules w w'. RepliesWith rules call w reply w')
    (λ L rules w w' ran. (charge, written, rw ran.2 ran.1)) s l s' l'
    (runs_keep_kind (turn ∷ []) s l s' l' (world s' (Some l'), step, refl))
