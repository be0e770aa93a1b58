-- Limiters in runs: deterministic ones, ones that accept each notice, permit each question, or are of one kind; and
-- failures, replies and runs that don't say out of memory, and replies that tell no denial.
use Rattle.std.specs.Prelude.{◌≡◌, List, Ok, Option, Some, None, true, All, map}
use Rattle.wasmi_meter.specs.Limiter.{Question, Answer, Failure, MemoryFailure, TableFailure, NoticeAnswer, Rules, optional_rules}
use Rattle.wasmi_machine.specs.declared.{calls.Reply.Reply, calls.Call.Call}
use Rattle.wasmi_machine.specs.declared.calls.Reply.TheVariants.{Memory, Table, Segment, NoRoom}
use Rattle.wasmi_machine.specs.State.{Turn, State, World, world}
use Rattle.wasmi_meter.specs.declared.{any_limiter.AnyLimiter.AnyLimiter, quota.Quota.Quota}
use Rattle.wasmi_meter.specs.AnswerList.{AnswersAhead, answer_list_rules}
use Rattle.wasmi_meter.specs.AnyLimiter.{any_limiter_rules}
use Rattle.wasmi_meter.specs.Capped.{quota_rules}
use Rattle.wasmi_machine.specs.Steps.{Run, IsRunOf, RepliesWith}
use Rattle.wasmi_meter.specs.declared.error.MemoryError.TheVariants as memory
use Rattle.wasmi_meter.specs.declared.error.TableError.TheVariants as table
use Rattle.wasmi_store.specs.declared.table.element.SegmentError.TheVariants as segment
use Rattle.wasmi_meter.specs.declared.any_limiter.AnyLimiter.TheVariants as limiter

-- a limiter has one answer to each question and to each notice, and is in one state after it
pub record IsDeterministic {S : Type 0} (rules : Rules S) : Type 0 where
  pub asked : (l : S) (question : Question) (answer answer' : Answer) (l' l'' : S) → rules.asked l question answer l'
      → rules.asked l question answer' l'' → (answer ≡ answer') × (l' ≡ l'')
  pub noticed : (l : S) (failure : Failure) (notice_answer notice_answer' : NoticeAnswer) (l' l'' : S)
      → rules.noticed l failure notice_answer l' → rules.noticed l failure notice_answer' l''
      → (notice_answer ≡ notice_answer') × (l' ≡ l'')

-- a limiter accepts each notice
abbrev pub AcceptsNotices : {S : Type 0} → Rules S → Type 0
AcceptsNotices {S} rules =
    (l : S) (failure : Failure) (notice_answer : NoticeAnswer) (l' : S) → rules.noticed l failure notice_answer l'
    → notice_answer ≡ Ok tt

-- a limiter in one of these states accepts each notice, and stays in them
pub record StaysAccepting {S : Type 0} (rules : Rules S) (IsAccepting : S → Type 0) : Type 0 where
  pub asked : (l : S) (question : Question) (answer : Answer) (l' : S) → IsAccepting l
      → rules.asked l question answer l' → IsAccepting l'
  pub noticed : (l : S) (failure : Failure) (notice_answer : NoticeAnswer) (l' : S) → IsAccepting l
      → rules.noticed l failure notice_answer l' → (notice_answer ≡ Ok tt) × IsAccepting l'

-- the failure is another one than that memory was refused
abbrev pub IsOtherFailure : Failure → Type 0
IsOtherFailure (MemoryFailure memory.OutOfSystemMemory) = ⊥
IsOtherFailure (TableFailure table.OutOfSystemMemory) = ⊥
IsOtherFailure failure = Unit {0}

-- the rules by which no limiter is notified that memory was refused
abbrev pub never_out_of_memory : {S : Type 0} → Rules S → Rules S
never_out_of_memory rules =
    record rules { noticed = λ l failure answer l'. rules.noticed l failure answer l' × IsOtherFailure failure }

-- the reply doesn't say out of memory
abbrev pub IsNotOutOfMemory : Reply → Type 0
IsNotOutOfMemory NoRoom = ⊥
IsNotOutOfMemory (Memory memory.OutOfSystemMemory) = ⊥
IsNotOutOfMemory (Table table.OutOfSystemMemory) = ⊥
IsNotOutOfMemory (Segment segment.OutOfSystemMemory) = ⊥
IsNotOutOfMemory reply = Unit {0}

-- no reply of the turns says out of memory
abbrev pub AreNotOutOfMemory : List Turn → Type 0
AreNotOutOfMemory turns = All IsNotOutOfMemory (map Turn.reply turns)

-- the rules by which each question is permitted
abbrev pub permitting : {S : Type 0} → Rules S → Rules S
permitting rules = record rules { asked = λ l q answer l'. (answer ≡ Ok true) × rules.asked l q answer l' }

-- the reply reports no denial, and is no error by which a denial is reported
abbrev pub TellsNoDenial : Reply → Type 0
TellsNoDenial (Memory memory.OutOfBoundsGrowth) = ⊥
TellsNoDenial (Memory memory.ResourceLimiterDeniedAllocation) = ⊥
TellsNoDenial (Table table.GrowOutOfBounds) = ⊥
TellsNoDenial (Table table.ResourceLimiterDeniedAllocation) = ⊥
TellsNoDenial reply = Unit {0}

module _ (Relates : (L : Type 0) → Rules L → World L → World L → Type 0) where
  -- Two machines, each with a limiter of one kind, are related by the rules of that kind: without a limiter, under its
  -- quota or under its list of answers.
  abbrev pub RelatesByKind : State → AnyLimiter → State → AnyLimiter → Type 0
  RelatesByKind s limiter.Unlimited s' l' = (l' ≡ limiter.Unlimited)
      × Relates (Option Quota) (optional_rules quota_rules) (world s None) (world s' None)
  RelatesByKind s (limiter.Quota quota) s' l' = (quota' : Quota) × (l' ≡ limiter.Quota quota')
      × Relates (Option Quota) (optional_rules quota_rules) (world s (Some quota)) (world s' (Some quota'))
  RelatesByKind s (limiter.Answers list) s' l' = (list' : AnswersAhead) × (l' ≡ limiter.Answers list')
      × Relates (Option AnswersAhead) (optional_rules answer_list_rules) (world s (Some list)) (world s' (Some list'))

  -- what the rules of such limiters relate, the rules of its kind do, and the kind stays
  abbrev pub KindStays : Type 0
  KindStays = (s : State) (l : AnyLimiter) (s' : State) (l' : AnyLimiter)
      → Relates (Option AnyLimiter) (optional_rules any_limiter_rules) (world s (Some l)) (world s' (Some l'))
      → RelatesByKind s l s' l'

-- a run under such a limiter is one by the rules of its kind
abbrev pub RunsKeepKind : Type 0
RunsKeepKind = (turns : List Turn) → KindStays (λ L rules w w'. Run rules w turns w')

-- a run of calls with these replies under such a limiter is one by the rules of its kind
abbrev pub RunsOfCallsKeepKind : Type 0
RunsOfCallsKeepKind = (calls : List Call) (replies : List Reply)
    → KindStays (λ L rules w w'. IsRunOf rules calls w replies w')

-- a reply to a call under such a limiter is one by the rules of its kind
abbrev pub RepliesKeepKind : Type 0
RepliesKeepKind = (call : Call) (reply : Reply) → KindStays (λ L rules w w'. RepliesWith rules call w reply w')
