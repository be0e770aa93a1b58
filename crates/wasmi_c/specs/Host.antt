-- A limiter of the host's own: its answers to questions and notices, and whether they are about what a growth asks.
use Rattle.std.specs.Prelude.{◌≡◌, ℕ, Bool, true, false, nat_eq, nat_lt, is_none, is_some, ◌&&◌, if◌then◌else◌, Option, Ok, Err, unwrap_or}
use Rattle.wasmi_meter.specs.declared.error.LimiterError.TheVariants.{ResourceLimiterDeniedAllocation}
use Rattle.wasmi_meter.specs.Limiter.{Answer, NoticeAnswer, Rules}
use Rattle.wasmi_store.specs.Growth.{Growth}
use Rattle.wasmi_c.specs.declared.{host.HostAnswers.HostAnswers, host.Question.Question}

-- 1 is yes, 0 is no, any other number is an error
abbrev pub answer_of : ℕ → Answer
answer_of n = if nat_eq n 1 then Ok true else (if nat_eq n 0 then Ok false else Err ResourceLimiterDeniedAllocation)

-- 0 accepts a notice, any other number is an error
abbrev pub notice_answer_of : ℕ → NoticeAnswer
notice_answer_of n = if nat_eq n 0 then Ok tt else Err ResourceLimiterDeniedAllocation

-- the answers, before the limiter is asked or told
abbrev pub fresh : HostAnswers → HostAnswers
fresh h = record h { asked = 0; told = 0 }

-- the limiter that answers so; it keeps that it was asked and told
abbrev pub host_rules : Rules HostAnswers
host_rules = record {
  asked = λ h question answer h'. (answer ≡ answer_of h.answer) × (h' ≡ record h { asked = 1 });
  noticed = λ h failure notice_answer h'.
      (notice_answer ≡ notice_answer_of h.notice_answer) × (h' ≡ record h { told = 1 });
}

-- a question by its sizes, as C reads it: without a maximum both of its fields are 0
abbrev pub plain_sizes : ℕ → ℕ → Option ℕ → Question
plain_sizes current desired maximum = record {
  current = current;
  desired = desired;
  maximum = unwrap_or maximum 0;
  has_maximum = if is_some maximum then 1 else 0;
}

-- whether the host's answers are to what a growth asks: about the present size, and about the new one if it asks at
-- all, which it does by 1 or more if no early cause stands against it
abbrev pub is_about : {V E : Type 0} → HostAnswers → Growth V E → Bool
is_about a g = nat_eq a.current g.request.question.current
    && (if nat_lt 0 g.amount && is_none g.request.early then nat_eq a.desired g.request.question.desired else true)
