-- The outcome of a replay: the text that is printed of it, with what is held, the errors of reading, and its status.
use Rattle.std.specs.Prelude.{ℕ, Result, Ok, Err, ◌<◌, ⊤, List, Option, None, Some, IfSome, length, ◌≡◌, ◌≤◌, ◌⊎◌, [], ◌++◌, codes, flat_map, decimal}
use Rattle.wasmi_script.specs.declared.{error.ReplayError.ReplayError, replaying.Status.Status, replaying.Held.Held, printing.Replayed.Replayed}
use Rattle.wasmi_script.specs.declared.error.ReplayError.TheVariants.{Parse, TooLong, ReadFault}
use Rattle.wasmi_script.specs.declared.replaying.Status.TheVariants.{Answered, BadScript, OutOfMemory, Fault}
use Rattle.std.specs.Io.KnownBytes.{Appends}
use Rattle.std.specs.List.{zip, enumerate_from}
use Rattle.wasmi_meter.specs.declared.limiter.Kind.TheVariants.{Bytes, Elements}
use Rattle.wasmi_machine.specs.declared.{calls.Call.Call, calls.Reply.Reply}
use Rattle.wasmi_machine.specs.State.{State, total}
use Rattle.wasmi_script.specs.declared.replaying.Held.TheVariants.{Nothing, Quota, Tenants}
use Rattle.wasmi_grammar.specs.Lines.{WritesScript, calls_of, IsFirstBadLine}
use Rattle.wasmi_script.specs.Printing.{AppendsFront, line}
use Rattle.wasmi_script.specs.ScriptRuns.{IsReplayOf}
use Rattle.wasmi_script.specs.Texts.{reply_text, error_text}
use Rattle.wasmi_grammar.specs.declared.error.ParseError.TheVariants as Errors

-- the number that a process ends with
abbrev pub status_number : Status → ℕ
status_number Answered = 0
status_number BadScript = 2
status_number OutOfMemory = 3
status_number Fault = 4

-- how a replay ends whose lines could be printed
abbrev pub status_after : {A : Type 0} → Result A ReplayError → Status
status_after (Ok replayed) = Answered
status_after (Err (Parse (Errors.BadCommand line))) = BadScript
status_after (Err (Parse Errors.OutOfMemory)) = OutOfMemory
status_after (Err TooLong) = BadScript
status_after (Err ReadFault) = Fault

-- the most bytes that a script may have
abbrev pub script_limit : ℕ
script_limit = 1048576

-- why the bytes that a reader has left aren't read; a fault only if it has failed
abbrev pub IsReadError : Option (List ℕ) → Type 0 → ReplayError → Type 0
IsReadError left failed (Parse (Errors.BadCommand number)) = ⊥
IsReadError left failed (Parse Errors.OutOfMemory) = ⊤
IsReadError left failed TooLong = IfSome left (λ bytes. script_limit < length bytes)
IsReadError left failed ReadFault = failed

-- a line for each call, with its reply
abbrev pub replies_text : List Call → List Reply → List ℕ
replies_text calls replies = flat_map (λ turn. line (reply_text turn.0 turn.1)) (zip calls replies)

-- the line of a tenant; none where it was removed
abbrev pub tenant_line : ℕ → Option State → List ℕ
tenant_line index (Some machine) =
    line (codes "held " ++ (decimal index
    ++ (codes " " ++ (decimal (total machine Bytes) ++ (codes " " ++ decimal (total machine Elements))))))
tenant_line index None = []

-- a line for each tenant
abbrev pub tenants_text : List (Option State) → List ℕ
tenants_text machines = flat_map (λ tenant. tenant_line tenant.0 tenant.1) (enumerate_from 0 machines)

-- what is held after a run
abbrev pub held_text : Held → List ℕ
held_text Nothing = []
held_text (Quota held) = line (codes "held " ++ (decimal held.bytes ++ (codes " " ++ decimal held.elements)))
held_text (Tenants pool) = tenants_text pool.machines

-- a script with its replies, or why it isn't run
abbrev pub ReplayOutcome : Type 0
ReplayOutcome = Result Replayed ReplayError

-- what is printed: the replies and what is held then, or why the script isn't run
abbrev pub outcome_text : ReplayOutcome → List ℕ
outcome_text (Ok replayed) =
    replies_text (calls_of replayed.script) replayed.ran.replies.items ++ held_text replayed.ran.held
outcome_text (Err error) = line (error_text error)

-- The outcome of some bytes: a run of the script that they write, a line that is no command, or that they are too
-- many. Memory may be refused at any script.
abbrev pub IsOutcomeOf : List ℕ → ReplayOutcome → Type 0
IsOutcomeOf bytes (Ok replayed) =
    (length bytes ≤ script_limit) × WritesScript bytes replayed.script × IsReplayOf replayed.script replayed.ran
IsOutcomeOf bytes (Err (Parse (Errors.BadCommand number))) = (length bytes ≤ script_limit) × IsFirstBadLine bytes number
IsOutcomeOf bytes (Err (Parse Errors.OutOfMemory)) = ⊤
IsOutcomeOf bytes (Err TooLong) = script_limit < length bytes
IsOutcomeOf bytes (Err ReadFault) = ⊥

-- the outcome of a reader: a fault if it has failed, else an outcome of some bytes, which are its own where it tells them
abbrev pub IsOutcomeOfReader : Option (List ℕ) → Type 0 → ReplayOutcome → Type 0
IsOutcomeOfReader given failed (Err ReadFault) = failed
IsOutcomeOfReader given failed outcome =
    (bytes : List ℕ) × IfSome given (λ told. told ≡ bytes) × IsOutcomeOf bytes outcome

-- the writer has the whole text and is flushed, and the status is the outcome's; or it has a front, and failed
abbrev pub PrintsOutcome : Option (List ℕ) → Option (List ℕ) → Type 0 → ReplayOutcome → Status → Type 0
PrintsOutcome old new flushed outcome status =
    (Appends old new (outcome_text outcome) × flushed × (status ≡ status_after outcome))
    ⊎ (AppendsFront old new (outcome_text outcome) × (status ≡ Fault))

-- a script has an outcome of this kind, and a writer has got it
pub record Replays (IsOutcome : ReplayOutcome → Type 0) (old new : Option (List ℕ)) (flushed : Type 0)
    (status : Status) : Type 0 where
  pub outcome : ReplayOutcome
  pub of_script : IsOutcome outcome
  pub printed : PrintsOutcome old new flushed outcome status
