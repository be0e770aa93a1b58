-- A limiter that answers from a list: the answers of the list, which of them is next, and the rules of such a limiter.
use Rattle.std.specs.Prelude.{◌≡◌, List, Ok, Err, true, false, drop, slice_index_or}
use Rattle.wasmi_meter.specs.Limiter.{Answer, NoticeAnswer, Rules}
use Rattle.wasmi_meter.specs.declared.answer_list.LimiterAnswer.{LimiterAnswer}
use Rattle.wasmi_meter.specs.declared.answer_list.LimiterAnswer.TheVariants.{Permit, Deny, Error, Complain}
use Rattle.wasmi_meter.specs.declared.error.LimiterError.TheVariants.{ResourceLimiterDeniedAllocation}

-- what a question is answered by an answer of a list
abbrev pub answer_by : LimiterAnswer → Answer
answer_by Permit = Ok true
answer_by Deny = Ok false
answer_by Error = Err ResourceLimiterDeniedAllocation
answer_by Complain = Ok true

-- what a notice is answered after a question that was answered so
abbrev pub notice_answer_by : LimiterAnswer → NoticeAnswer
notice_answer_by Complain = Err ResourceLimiterDeniedAllocation
notice_answer_by answer = Ok tt

-- the answers to the next questions, in order, and the one to the last question
pub record AnswersAhead : Type 0 where
  pub ahead : List LimiterAnswer
  pub last : LimiterAnswer

-- a limiter with these answers that was asked nothing yet
abbrev pub new_answers : List LimiterAnswer → AnswersAhead
new_answers answers = record { ahead = answers; last = Permit }

-- the answer to the next question: `Permit` once none is left
abbrev pub next_answer : AnswersAhead → LimiterAnswer
next_answer list = slice_index_or list.ahead 0 Permit

-- a question takes the next answer, and is answered by it
pub record TakesAnswer (list : AnswersAhead) (answer : Answer) (list' : AnswersAhead) : Type 0 where
  pub answered : answer ≡ answer_by (next_answer list)
  pub taken : list' ≡ record { ahead = drop 1 list.ahead; last = next_answer list }

-- the rules of such a limiter, whatever is asked: a notice is answered as the last answer says, and takes none
abbrev pub answer_list_rules : Rules AnswersAhead
answer_list_rules = record {
  asked = λ list question answer list'. TakesAnswer list answer list';
  noticed = λ list failure notice_answer list'. (notice_answer ≡ notice_answer_by list.last) × (list' ≡ list);
}
