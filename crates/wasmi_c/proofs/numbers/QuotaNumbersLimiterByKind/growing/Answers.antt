use Rattle.std.proofs.Common.{sym}
use Rattle.wasmi_c.proofs.numbers.QuotaNumbersLimiterByKind.growing.Goals as goal

pub returns : goal.returns
returns c = record {
  asked = λ maximum. (
    rw (sym c.in-Some.ensures.value, c.store.ensures.limiter) (c.growing-answer.ensures.asked maximum),
    c.store.ensures.kept,
  );
}
