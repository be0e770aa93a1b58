use Rattle.std.proofs.Common.{refl}
use Rattle.wasmi_meter.proofs.any_limiter.AnyLimiterLimiterByKind.growing.Goals as goal

pub returns-in-Quota : goal.returns-in-Quota
returns-in-Quota c = record {
  asked = λ maximum. rw c.in-Quota.is (c.growing.new.self, refl, c.growing.ensures.asked maximum);
}

pub returns-in-Answers : goal.returns-in-Answers
returns-in-Answers c = record {
  asked = λ maximum. rw c.in-Answers.is
      (c.growing-in-Answers.new.self, refl, c.growing-in-Answers.ensures.asked maximum);
}
