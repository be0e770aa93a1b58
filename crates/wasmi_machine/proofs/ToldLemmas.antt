-- Limiters that accept each notice: which ones do, and that the replies of a run under one show whether it is told of
-- lack of memory, and are the same in each run if it is deterministic.
use Rattle.std.specs.Prelude.{IfSome}
use Rattle.std.proofs.Common.{◌≡◌, ◌∙◌, Option, Some, None, Ok, true, List, map, refl, sym, ap}
use Rattle.wasmi_machine.proofs.Common.{All, MemoryError, TableError, MemoryFailure, TableFailure, Rules, AskedIf, NoticedIf, unlimited_rules, optional_rules, quota_rules, Request, Failed, Call, Reply, World, Turn, Run, IsRunOf, AcceptsNotices, StaysAccepting, IsOtherFailure, IsDeterministic, never_out_of_memory, IsNotOutOfMemory, AreNotOutOfMemory}
use Rattle.wasmi_meter.specs.declared.error.MemoryError.TheVariants as memerr
use Rattle.wasmi_meter.specs.declared.error.TableError.TheVariants as taberr
use Rattle.wasmi_store.specs.Memory as memory
use Rattle.wasmi_store.specs.Table as table
use Rattle.wasmi_machine.specs.declared.calls.Reply.TheVariants as replied
use Rattle.wasmi_machine.proofs.DeterminismLemmas as determinism
use Rattle.wasmi_machine.proofs.HoldingLemmas.{Carries, if_there, step_stays}
use Rattle.wasmi_machine.proofs.RevealingLemmas.{Narrowing, Reveals, run_revealed}

-- an error of which a reply that has memory tells is no lack of it
no_memory : (c : MemoryError) → IsNotOutOfMemory (replied.Memory c) → IsOtherFailure (MemoryFailure c)
no_memory memerr.OutOfSystemMemory has = has
no_memory c has = tt

-- an error of a table of which a reply that has memory tells is no lack of it
no_table : (c : TableError) → IsNotOutOfMemory (replied.Table c) → IsOtherFailure (TableFailure c)
no_table taberr.OutOfSystemMemory has = has
no_table c has = tt

module _ {S : Type 0} (rules : Rules S) (IsAccepting : S → Type 0) (stays : StaysAccepting rules IsAccepting) where
  -- the replies that have memory, in these states of the limiter
  abbrev telling : Narrowing S S
  telling = record {
    rules = rules;
    image = λ l. l;
    narrower = never_out_of_memory rules;
    shown = IsNotOutOfMemory;
    within = IsAccepting;
  }

  -- the replies to an attempt's errors tell whether the limiter is told of lack of memory
  want_revealed : {V E : Type 0} (refusal : E → Reply) (e : Request V E)
      → ((c : E) → IsNotOutOfMemory (refusal c) → IsOtherFailure (e.notice c)) → Reveals telling refusal e
  want_revealed refusal e nowant (Failed c notice_answer) l l' within shown (permitted, asks, notices) =
      let still = stays.asked l e.question (Ok true) permitted within asks in
      let accepted = stays.noticed permitted (e.notice c) notice_answer l' still notices in
      (permitted, asks, (notices, nowant c (rw accepted.0 at (shown _ refl))))
  want_revealed refusal e nowant outcome l l' within shown f = f

  -- the limiter stays in these states
  accepting : Carries IsAccepting (λ l. l) rules rules
  accepting = record {
    asked = λ l question answer l' within asks. (stays.asked l question answer l' within asks, asks);
    noticed = λ l failure answer l' within notices. ((stays.noticed l failure answer l' within notices).1, notices);
  }

  -- a run whose replies have memory is one under these rules
  pub told_run : (w : World S) (turns : List Turn) (w' : World S) → IsAccepting w.limiter
      → All IsNotOutOfMemory (map Turn.reply turns) → Run rules w turns w' → Run (never_out_of_memory rules) w turns w'
  told_run = run_revealed telling
      (record {
        memory_made = λ room ty. want_revealed replied.Memory (memory.creation_of room ty) no_memory;
        memory_grown = λ x pages. want_revealed replied.Memory (memory.growth_of x pages) no_memory;
        table_made = λ ty init. want_revealed replied.Table (table.creation_of ty init) no_table;
        table_grown = λ x n reference. want_revealed replied.Table (table.growth_of x n reference) no_table;
      }) (step_stays accepting)

-- none of the turns of a run says out of memory, where its replies are these and none of them does
pub replies_have : (turns : List Turn) (replies : List Reply) → map Turn.reply turns ≡ replies
    → All IsNotOutOfMemory replies → AreNotOutOfMemory turns
replies_have turns replies is all = rw is all

-- a limiter that accepts each notice does so in any state
pub accepts_always : {S : Type 0} (rules : Rules S) → AcceptsNotices rules → StaysAccepting rules (λ l. Unit {0})
accepts_always rules accepts = record {
  asked = λ l question answer l' within asks. tt;
  noticed = λ l failure notice_answer l' within notices. (accepts l failure notice_answer l' notices, tt);
}

-- a limiter that may be absent accepts each notice if the limiter does
pub optional_accepts : {L : Type 0} (rules : Rules L) → AcceptsNotices rules → AcceptsNotices (optional_rules rules)
optional_accepts rules accepts (Some l) failure notice_answer (Some l') notices =
    accepts l failure notice_answer l' notices
optional_accepts rules accepts None failure notice_answer None notices = notices
optional_accepts rules accepts l failure notice_answer l' notices = absurd notices

-- the limiter that permits everything accepts each notice
pub unlimited_accepts : {S : Type 0} → AcceptsNotices (unlimited_rules {S = S})
unlimited_accepts l failure notice_answer l' noticed = noticed.0

-- a quota accepts each notice
pub quota_accepts : AcceptsNotices quota_rules
quota_accepts l failure notice_answer l' noticed = noticed.accepts

-- a run as a host sees it: its replies, none of which tells of lack of memory, and what there is after it
pub record SeenRun {S : Type 0} (rules : Rules S) (calls : List Call) (w : World S) : Type 0 where
  pub replies : List Reply
  pub after : World S
  pub has : All IsNotOutOfMemory replies
  pub ran : IsRunOf rules calls w replies after

module _ {L : Type 0} (rules : Rules L) (IsAccepting : L → Type 0) (stays : StaysAccepting rules IsAccepting) where
  -- a limiter that may be absent stays in the states in which the limiter stays
  optional_stays : StaysAccepting (optional_rules rules) (λ l. IfSome l IsAccepting)
  optional_stays = record {
    asked = λ l question answer l' within asks. if_there (λ l l'. AskedIf rules l question answer l')
        (λ l l'. IfSome l IsAccepting → IfSome l' IsAccepting)
        (λ l l' asks within. stays.asked l question answer l' within asks) (λ permits within. within)
        (λ l. (λ h. h, λ h. h)) l l' asks within;
    noticed = λ l failure notice_answer l' within notices. if_there (λ l l'. NoticedIf rules l failure notice_answer l')
        (λ l l'. IfSome l IsAccepting → (notice_answer ≡ Ok tt) × IfSome l' IsAccepting)
        (λ l l' notices within. stays.noticed l failure notice_answer l' within notices)
        (λ accepts within. (accepts, within)) (λ l. (λ h. h, λ h. h)) l l' notices within;
  }

  -- two runs of the same calls have the same replies, as a host sees them
  pub accepted_replies_are_one : IsDeterministic rules → (calls : List Call) (w : World (Option L))
      → IfSome w.limiter IsAccepting
      → (a b : SeenRun (optional_rules rules) calls w) → (a.replies ≡ b.replies) × (a.after ≡ b.after)
  accepted_replies_are_one once calls w within a b =
      let (turns, made, told, ran) = a.ran in
      let (turns', made', told', ran') = b.ran in
      let have = replies_have turns a.replies told a.has in
      let have' = replies_have turns' b.replies told' b.has in
      let never = told_run (optional_rules rules) (λ l. IfSome l IsAccepting) optional_stays in
      let one =
      determinism.runs_are_one (optional_rules rules) (determinism.optional_unique rules once) w turns turns' a.after
      b.after (made ∙ sym made') have have' (never w turns a.after within have ran)
      (never w turns' b.after within have' ran') in
      (sym told ∙ ap (map Turn.reply) one.0 ∙ told', one.1)

-- any limiter is in a state of which nothing is said
any_state : {L : Type 0} (l : Option L) → IfSome l (λ state. Unit {0})
any_state (Some l) = tt
any_state None = tt

module _ {L : Type 0} (rules : Rules L) (accepts : AcceptsNotices rules) where
  -- a run whose replies have memory, under a limiter that accepts each notice
  pub told_runs : (w : World (Option L)) (turns : List Turn) (w' : World (Option L)) → AreNotOutOfMemory turns
      → Run (optional_rules rules) w turns w' → Run (never_out_of_memory (optional_rules rules)) w turns w'
  told_runs w turns w' = told_run (optional_rules rules) (λ l. IfSome l (λ state. Unit {0}))
      (optional_stays rules (λ l. Unit {0}) (accepts_always rules accepts)) w turns w' (any_state w.limiter)

  -- two runs of the same calls under such a limiter have the same replies
  pub replies_are_one : IsDeterministic rules → (calls : List Call) (w : World (Option L))
      (a b : SeenRun (optional_rules rules) calls w) → (a.replies ≡ b.replies) × (a.after ≡ b.after)
  replies_are_one once calls w =
      accepted_replies_are_one rules (λ l. Unit {0}) (accepts_always rules accepts) once calls w (any_state w.limiter)
