-- Outcomes that a reader's bytes decide, where memory isn't refused, and runs under answers that accept each notice.
use Rattle.std.specs.Prelude.{◌≡◌, ⊤, ℕ, List, All, Option, Some, Ok, Err}
use Rattle.wasmi_machine.specs.Determinism.{IsNotOutOfMemory, StaysAccepting}
use Rattle.wasmi_script.specs.declared.error.ReplayError.TheVariants.{Parse, ReadFault}
use Rattle.wasmi_grammar.specs.declared.error.ParseError.TheVariants.{OutOfMemory}
use Rattle.wasmi_grammar.specs.declared.header.LimiterLine.{LimiterLine}
use Rattle.wasmi_grammar.specs.declared.header.LimiterLine.TheVariants.{Answers}
use Rattle.wasmi_meter.specs.AnswerList.{notice_answer_by, AnswersAhead, answer_list_rules}
use Rattle.wasmi_script.specs.Outcomes.{ReplayOutcome, IsOutcomeOf, outcome_text, status_after}
use Rattle.wasmi_meter.specs.Limiter.{optional_rules}
use Rattle.wasmi_machine.specs.declared.{calls.Call.Call, calls.Reply.Reply}
use Rattle.wasmi_machine.specs.State.{State, World, world}
use Rattle.wasmi_machine.specs.Steps.{IsRunOf}

-- no word of an `answers` line is `complain`: each notice is accepted
abbrev pub HasNoComplain : Option LimiterLine → Type 0
HasNoComplain (Some (Answers words)) = All (λ word. notice_answer_by word ≡ Ok tt) words.items
HasNoComplain limiter = ⊤

-- Memory isn't refused and the reader doesn't fail: no reply says out of memory, and no word is `complain`, so that no
-- notice of it is answered by another error.
abbrev pub IsDecided : ReplayOutcome → Type 0
IsDecided (Ok replayed) = All IsNotOutOfMemory replayed.ran.replies.items × HasNoComplain replayed.script.header.limiter_line
IsDecided (Err (Parse OutOfMemory)) = ⊥
IsDecided (Err ReadFault) = ⊥
IsDecided (Err error) = ⊤

-- two outcomes print the same text and end in the same way
pub record EndAlike (outcome outcome' : ReplayOutcome) : Type 0 where
  pub text : outcome_text outcome ≡ outcome_text outcome'
  pub status : status_after outcome ≡ status_after outcome'

-- two outcomes of the same bytes that these decide end alike
abbrev pub OutcomesAreOne : Type 0
OutcomesAreOne =
    (bytes : List ℕ) (outcome outcome' : ReplayOutcome) → IsOutcomeOf bytes outcome → IsOutcomeOf bytes outcome'
    → IsDecided outcome → IsDecided outcome' → EndAlike outcome outcome'

-- a limiter whose answers, with the last one that was given, let each notice be accepted: none of them is `Complain`
pub record NeverComplains (list : AnswersAhead) : Type 0 where
  pub ahead : All (λ answer. notice_answer_by answer ≡ Ok tt) list.ahead
  pub last : notice_answer_by list.last ≡ Ok tt

-- a limiter that never complains accepts each notice, and stays one
abbrev pub QuietListsAcceptNotices : Type 0
QuietListsAcceptNotices = StaysAccepting answer_list_rules NeverComplains

-- two runs of one list of calls from one machine under a limiter that never complains, in which no reply says out of
-- memory, have the same replies and end in one world
abbrev pub QuietListsDecideReplies : Type 0
QuietListsDecideReplies = (calls : List Call) (s : State) (list : AnswersAhead) → NeverComplains list
    → (replies replies' : List Reply) (v v' : World (Option AnswersAhead))
    → All IsNotOutOfMemory replies → All IsNotOutOfMemory replies'
    → IsRunOf (optional_rules answer_list_rules) calls (world s (Some list)) replies v
    → IsRunOf (optional_rules answer_list_rules) calls (world s (Some list)) replies' v'
    → (replies ≡ replies') × (v ≡ v')
