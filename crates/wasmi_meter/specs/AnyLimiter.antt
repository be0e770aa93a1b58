-- A limiter of one of three kinds: its rules, and the quota and the caps that it has, if it is a quota.
use Rattle.std.specs.Prelude.{◌≡◌, Option, Some, None, Ok, true, option_map}
use Rattle.wasmi_meter.specs.declared.{quota.Amounts.Amounts, any_limiter.AnyLimiter.AnyLimiter, quota.Quota.Quota}
use Rattle.wasmi_meter.specs.declared.any_limiter.AnyLimiter.TheVariants as limiter
use Rattle.wasmi_meter.specs.Capped.{amounts_of, cap_of, quota_rules}
use Rattle.wasmi_meter.specs.AnswerList.{AnswersAhead, answer_list_rules}
use Rattle.wasmi_meter.specs.Limiter.{Rules}

-- A question or a notice is answered as a limiter of its kind answers it, and the kind stays; `accepted` is the answer
-- of one that permits and accepts everything.
abbrev pub AnsweredByKind : {Asked Answer : Type 0} → (accepted : Answer) → (Quota → Asked → Answer → Quota → Type 0)
    → (AnswersAhead → Asked → Answer → AnswersAhead → Type 0) → AnyLimiter → Asked → Answer → AnyLimiter → Type 0
AnsweredByKind accepted of_quota of_list limiter.Unlimited asked answer l' =
    (answer ≡ accepted) × (l' ≡ limiter.Unlimited)
AnsweredByKind accepted of_quota of_list (limiter.Quota quota) asked answer l' =
    (quota' : Quota) × (l' ≡ limiter.Quota quota') × of_quota quota asked answer quota'
AnsweredByKind accepted of_quota of_list (limiter.Answers list) asked answer l' =
    (list' : AnswersAhead) × (l' ≡ limiter.Answers list') × of_list list asked answer list'

-- the rules of such a limiter
abbrev pub any_limiter_rules : Rules AnyLimiter
any_limiter_rules = record {
  asked = AnsweredByKind (Ok true) quota_rules.asked answer_list_rules.asked;
  noticed = AnsweredByKind (Ok tt) quota_rules.noticed answer_list_rules.noticed;
}

-- the quota that such a limiter is, if it is one
abbrev pub quota_of : AnyLimiter → Option Quota
quota_of (limiter.Quota quota) = Some quota
quota_of _ = None

-- the caps of such a limiter, if it is a quota
abbrev pub caps_of : AnyLimiter → Option Amounts
caps_of l = option_map (λ quota. amounts_of (cap_of quota)) (quota_of l)
