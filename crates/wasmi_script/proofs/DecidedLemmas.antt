-- Where there is enough memory the bytes decide what is printed: calls and scripts that say the same have the same
-- replies, and a limiter that answers from a list leaves no choice.
use Rattle.std.proofs.Common.{ℕ, ◌≡◌, ◌∙◌, ◌++◌, List, [], ◌∷◌, Vec, All, Option, Some, length, None, Ok, Err, map, slice_set, slice_index_or, refl, sym, ap, subst, arith}
use Rattle.wasmi_script.proofs.Common.{option_map, option_map_or, drop_at, map-append, take_at, Call, Reply, State, new_state, no_slots, World, world, Turn, BadCommand, OutOfMemory, Parse, TooLong, ReadFault, meter_meaning, meter_off, region_bytes, start_of, tenant_start, line, kind_text, reply_text, error_text, IsNewQuota, IsReplayBy, AnswersParts, new_pool, TenantRun, parts_in, calls_in, replies_text, held_text, answer_list_rules, new_answers, notice_answer_by}
use Rattle.std.specs.List.{flat_map}
use Rattle.std.proofs.lemmas.List.Elements.{All-head, All-drop, All-take}
use Rattle.wasmi_meter.specs.declared.answer_list.LimiterAnswer.{LimiterAnswer}
use Rattle.wasmi_meter.specs.declared.answer_list.LimiterAnswer.TheVariants.{Permit}
use Rattle.wasmi_meter.specs.declared.quota.Quota as quotas
use Rattle.wasmi_meter.specs.Limiter.{Rules, unlimited_rules, optional_rules}
use Rattle.wasmi_meter.specs.Capped.{holdings, quota_rules}
use Rattle.wasmi_machine.specs.declared.calls.Call.TheVariants.{Write, NewData, NewSegment}
use Rattle.wasmi_machine.specs.declared.calls.Reply.TheVariants.{Made}
use Rattle.wasmi_machine.specs.Steps.{effect_of, Run, IsRunOf}
use Rattle.wasmi_machine.specs.Determinism.{IsDeterministic, IsNotOutOfMemory}
use Rattle.wasmi_machine.proofs.DeterminismLemmas.{unlimited_unique, quota_unique}
use Rattle.wasmi_machine.proofs.ToldLemmas.{accepted_replies_are_one, replies_are_one, unlimited_accepts, quota_accepts}
use Rattle.wasmi_budget.specs.Pool.{PoolValue, RunsTenant, tenant_at, tenant_rules}
use Rattle.wasmi_script.specs.declared.replaying.Ran.{Ran}
use Rattle.wasmi_script.specs.declared.replaying.Held.TheVariants as holding
use Rattle.wasmi_grammar.specs.declared.{script.Script.Script, header.LimiterLine.LimiterLine}
use Rattle.wasmi_grammar.specs.declared.header.LimiterLine.TheVariants.{Quota, Answers, Tenants}
use Rattle.wasmi_grammar.specs.Lines.{calls_of}
use Rattle.wasmi_grammar.specs.Meanings.{CallMeaning, WriteMeaning, SegmentMeaning, DataMeaning, OtherCall, call_meaning, limiter_meaning, PartMeaning, part_meaning, ScriptMeaning, HaveSameMeaning}
use Rattle.wasmi_script.specs.Decided.{HasNoComplain, OutcomesAreOne, NeverComplains, QuietListsAcceptNotices, QuietListsDecideReplies}
use Rattle.wasmi_script.proofs.ScriptRunsLemmas.{run_from}
use Rattle.wasmi_grammar.proofs.OneScriptLemmas.{texts_unique, bad_lines_once, no_bad_line}

-- a limiter that answers from a list leaves no choice
pub answers_unique : IsDeterministic answer_list_rules
answers_unique = record {
  asked = λ list question answer answer' list' list'' takes takes'.
      (takes.answered ∙ sym takes'.answered, takes.taken ∙ sym takes'.taken);
  noticed = λ list failure notice_answer notice_answer' list' list'' accepts accepts'.
      (accepts.0 ∙ sym accepts'.0, accepts.1 ∙ sym accepts'.1);
}

-- a quiet answer: one by which a notice is accepted
abbrev IsQuiet : LimiterAnswer → Type 0
IsQuiet answer = notice_answer_by answer ≡ Ok tt

-- the next of quiet answers is quiet, and so is `Permit` after them
quiet_next : (answers : List LimiterAnswer) → All IsQuiet answers → IsQuiet (slice_index_or answers 0 Permit)
quiet_next [] all = refl
quiet_next (answer ∷ answers) all = All-head IsQuiet answer answers all

-- a limiter whose answers are quiet accepts each notice, and stays one
pub quiet_lists : QuietListsAcceptNotices
quiet_lists = record {
  asked = λ list question answer list' quiet takes. rw takes.taken (record {
    ahead = All-drop IsQuiet 1 list.ahead quiet.ahead;
    last = quiet_next list.ahead quiet.ahead;
  });
  noticed = λ list failure notice_answer list' quiet accepts.
      (accepts.0 ∙ quiet.last, rw accepts.1 quiet);
}

-- where there is enough memory, a limiter whose answers are quiet leaves the replies no choice
pub quiet_lists_decide : QuietListsDecideReplies
quiet_lists_decide calls s list quiet replies replies' v v' has has' ran ran' =
    accepted_replies_are_one answer_list_rules NeverComplains quiet_lists answers_unique calls (world s (Some list)) quiet
    (record { replies = replies; after = v; has = has; ran = ran })
    (record { replies = replies'; after = v'; has = has'; ran = ran' })

-- a call that says this, as all calls that say the same do
abbrev HasMeaning : CallMeaning → Call → Type 0
-- a write, by its place and its bytes
HasMeaning (WriteMeaning memory offset bytes) call = (v : Vec ℕ _) × (call ≡ Write memory offset v) × (v.items ≡ bytes)
-- a new segment, by its type and its items
HasMeaning (SegmentMeaning ty items) call = (v : Vec ℕ _) × (call ≡ NewSegment ty v) × (v.items ≡ items)
-- a new data segment, by its bytes
HasMeaning (DataMeaning bytes) call = (v : Vec ℕ _) × (call ≡ NewData v) × (v.items ≡ bytes)
HasMeaning (OtherCall other) call = call ≡ other

-- a call is one of what it says
says : (call : Call) → HasMeaning (call_meaning call) call
says (Write memory offset bytes) = (bytes, refl, refl)
says (NewSegment ty items) = (items, refl, refl)
says (NewData bytes) = (bytes, refl, refl)
says call = refl

-- calls that say the same have the same effect
same_effect : (s : State) (call call' : Call) → HasMeaning (call_meaning call) call' → effect_of s call' ≡ effect_of s call
same_effect s (Write memory offset bytes) call' (v, is, items) = ap (effect_of s) is ∙ rw items refl
same_effect s (NewSegment ty items) call' (v, is, same) = ap (effect_of s) is ∙ rw same refl
same_effect s (NewData bytes) call' (v, is, same) = ap (effect_of s) is ∙ rw same refl
same_effect s call call' is = ap (effect_of s) is

-- calls that say the same make the same kind of thing
pub same_kind : (call call' : Call) → HasMeaning (call_meaning call) call' → kind_text call' ≡ kind_text call
same_kind (Write memory offset bytes) call' (v, is, items) = ap kind_text is
same_kind (NewSegment ty items) call' (v, is, same) = ap kind_text is
same_kind (NewData bytes) call' (v, is, same) = ap kind_text is
same_kind call call' is = ap kind_text is

-- what the calls of parts say
calls_meaning : (parts : List TenantRun) → map call_meaning (calls_in parts) ≡ flat_map PartMeaning.calls (map part_meaning parts)
calls_meaning [] = refl
calls_meaning (part ∷ parts) = rw (map-append, calls_meaning parts)

-- scripts that say the same have calls that say the same
calls_same : (script script' : Script) → HaveSameMeaning script script'
    → map call_meaning (calls_of script) ≡ map call_meaning (calls_of script')
calls_same script script' same =
    calls_meaning (parts_in script.parts) ∙ ap (λ s. flat_map PartMeaning.calls s.parts) same
    ∙ sym (calls_meaning (parts_in script'.parts))

-- a reply to calls that make the same kind of thing has the same text
reply_same : (call call' : Call) (reply : Reply) → kind_text call' ≡ kind_text call
    → reply_text call' reply ≡ reply_text call reply
reply_same call call' (Made index) same = rw same
reply_same call call' reply same = refl

-- the same replies to calls that say the same have the same text
replies_same : (calls calls' : List Call) (replies : List Reply) → map call_meaning calls ≡ map call_meaning calls'
    → replies_text calls replies ≡ replies_text calls' replies
replies_same [] [] replies same = refl
replies_same (call ∷ calls) (call' ∷ calls') [] same = refl
replies_same (call ∷ calls) (call' ∷ calls') (reply ∷ replies) same =
    let here : call_meaning call ≡ call_meaning call' = cc in
    let kind = same_kind call call' (rw here (says call')) in
    rw (reply_same call call' reply kind, replies_same calls calls' replies (cc))
replies_same calls calls' replies same = absurd cc

module _ {S : Type 0} (rules : Rules S) where
  -- a turn with another call
  abbrev by_call : Turn → Call → Turn
  by_call turn other = record turn { call = other }

  -- turns that are a run are one by other calls that say the same, with the same replies
  retold_run : (turns : List Turn) (calls : List Call) (w w' : World S)
      → map call_meaning calls ≡ map call_meaning (map Turn.call turns) → Run rules w turns w'
      → (retold : List Turn) × (map Turn.call retold ≡ calls) ×
      (map Turn.reply retold ≡ map Turn.reply turns) × Run rules w retold w'
  retold_run [] [] w w' same ran = ([], refl, refl, ran)
  retold_run (turn ∷ turns) (call ∷ calls) w w' same (v, step, ran) =
      let here : call_meaning call ≡ call_meaning turn.call = cc in
      let later : map call_meaning calls ≡ map call_meaning (map Turn.call turns) = cc in
      let rest = retold_run turns calls v w' later ran in (
        by_call turn call ∷ rest.0,
        ap (λ cs. call ∷ cs) rest.1,
        ap (λ rs. turn.reply ∷ rs) rest.2,
        (v, rw (same_effect w.state call turn.call (rw here (says turn.call))) at step, rest.3),
      )
  retold_run turns calls w w' same ran = absurd cc

  -- a run of calls is one of others that say the same
  retold : (calls calls' : List Call) (w w' : World S) (replies : List Reply)
      → map call_meaning calls ≡ map call_meaning calls'
      → IsRunOf rules calls' w replies w' → IsRunOf rules calls w replies w'
  retold calls calls' w w' replies same (turns, called, replied, ran) =
      let again = retold_run turns calls w w' (same ∙ ap (map call_meaning) (sym called)) ran in
      (again.0, again.1, again.2 ∙ replied, again.3)

-- the replies of two runs tell of no lack of memory
abbrev HaveBoth : List Reply → List Reply → Type 0
HaveBoth replies replies' = All IsNotOutOfMemory replies × All IsNotOutOfMemory replies'

-- the tenants of scripts that say the same start with the same machine
tenants_same : (script script' : Script) → HaveSameMeaning script script'
    → tenant_start script.header ≡ tenant_start script'.header
tenants_same script script' same = λ i. record (new_state (option_map_or meter_meaning (same i).meter meter_off))
    { reserved = option_map_or (λ slots. slots) (same i).reserve no_slots }

-- a run of a script's calls from the machine that it starts with is one of those of a script that says the same
again : {L : Type 0} (rules : Rules L) (script script' : Script) (limiter limiter' : L) (replies : List Reply)
    (after : World L) → HaveSameMeaning script script' → limiter ≡ limiter'
    → IsRunOf rules (calls_of script') (world (start_of script'.header) limiter') replies after
    → IsRunOf rules (calls_of script) (world (start_of script.header) limiter) replies after
again rules script script' limiter limiter' replies after same alike run =
    let start : start_of script.header ≡ start_of script'.header =
    λ i. record (tenants_same script script' same i) { spare = option_map region_bytes (same i).region } in
    retold rules (calls_of script) (calls_of script') (world (start_of script.header) limiter) after replies
    (calls_same script script' same)
    (run_from rules (calls_of script') _ _ limiter' limiter replies after (sym start) (sym alike) run)

-- two quotas of a line that hold nothing are one
new_quotas : (asked : _) (quota quota' : quotas.Quota) → IsNewQuota asked quota → IsNewQuota asked quota'
    → quota ≡ quota'
new_quotas asked quota quota' new new' =
    λ i. record {
      caps = record { bytes = (new.bytes ∙ sym new'.bytes) i; elements = (new.elements ∙ sym new'.elements) i };
      holdings = (new.nothing ∙ sym new'.nothing) i;
    }

-- two replays have the same replies, and what is held then has the same text
record SameReplies (ran ran' : Ran) : Type 0 where
  pub answers : ran.replies.items ≡ ran'.replies.items
  pub text : held_text ran.held ≡ held_text ran'.held

-- what holds of all items of two lists, as of the replies to a part and to the later ones, holds of those of each
all_parted : {X : Type 0} (P : X → Type 0) (xs ys : List X) → All P (xs ++ ys) → All P xs × All P ys
all_parted P xs ys all = (
  rw (take_at xs ys _ refl) at (All-take P (length xs) (xs ++ ys) all),
  rw (drop_at xs ys _ refl) at (All-drop P (length xs) (xs ++ ys) all),
)

-- a run of a tenant whose replies tell of no lack of memory
record TenantRan (pool : PoolValue) (tenant : ℕ) (calls : List Call) : Type 0 where
  pub replies : List Reply
  pub after : PoolValue
  pub has : All IsNotOutOfMemory replies
  pub ran : RunsTenant pool tenant calls replies after

-- the runs of tenants, one after the other
module _ (once : IsDeterministic tenant_rules) where
  -- two runs of a tenant by calls that say the same have the same replies and leave the same pool
  tenant_unique : (pool : PoolValue) (tenant : ℕ) (calls calls' : List Call) → map call_meaning calls ≡ map call_meaning calls'
      → (a : TenantRan pool tenant calls) (b : TenantRan pool tenant calls')
      → (a.replies ≡ b.replies) × (a.after ≡ b.after)
  tenant_unique pool tenant calls calls' same a b =
      let ran = a.ran in
      let ran' = b.ran in
      let found : Some ran'.machine ≡ Some ran.machine = sym ran'.found ∙ ran.found in
      let machine : ran'.machine ≡ ran.machine = cc in
      let again = run_from (optional_rules tenant_rules) calls' ran'.machine ran.machine _ _ b.replies _ machine
      (ap (λ s. Some (tenant_at pool tenant s)) machine) ran'.ran in
      let one = replies_are_one tenant_rules (λ l failure notice_answer l' noticed. noticed.accepts) once calls _
      (record { replies = a.replies; after = _; has = a.has; ran = ran.ran }) (record {
        replies = b.replies;
        after = _;
        has = b.has;
        ran = retold (optional_rules tenant_rules) calls calls' _ _ b.replies same again;
      }) in (
        one.0,
        ran.after ∙ (λ i. record pool { machines = slice_set pool.machines tenant (Some (one.1 i).state) }) ∙ sym ran'.after,
      )

  -- two runs of parts that say the same have the same replies and leave the same pool
  parts_unique : (parts parts' : List TenantRun) (pool : PoolValue) → map part_meaning parts ≡ map part_meaning parts'
      → (replies replies' : List Reply) (after after' : PoolValue) → HaveBoth replies replies'
      → AnswersParts pool parts replies after → AnswersParts pool parts' replies' after'
      → (replies ≡ replies') × (after ≡ after')
  parts_unique [] [] pool same replies replies' after after' has (none, is) (none', is') =
      (none ∙ sym none', is ∙ sym is')
  parts_unique (part ∷ parts) (part' ∷ parts') pool same replies replies' after after' has
      (answered, later, middle, split, ran, rest) (answered', later', middle', split', ran', rest') =
      let here : part_meaning part ≡ part_meaning part' = cc in
      let more : map part_meaning parts ≡ map part_meaning parts' = cc in
      let parted = all_parted IsNotOutOfMemory answered later (rw split at has.0) in
      let parted' = all_parted IsNotOutOfMemory answered' later' (rw split' at has.1) in
      let one = tenant_unique pool part.tenant part.calls part'.calls (ap PartMeaning.calls here)
      (record { replies = answered; after = middle; has = parted.0; ran = ran }) (record {
        replies = answered';
        after = middle';
        has = parted'.0;
        ran = rw (ap PartMeaning.tenant here) ran';
      }) in
      let others = parts_unique parts parts' middle more later later' after after' (parted.1, parted'.1) rest (rw one.1 rest') in
      (rw (split, split', one.0, others.0), others.1)
  parts_unique parts parts' pool same replies replies' after after' has ran ran' = absurd cc

  -- replays of scripts that say the same, by their limiter lines, where no word is `complain`
  by_unique : (limiter limiter' : Option LimiterLine) (script script' : Script) (ran ran' : Ran)
      → HasNoComplain limiter → option_map limiter_meaning limiter ≡ option_map limiter_meaning limiter'
      → HaveSameMeaning script script' → IsReplayBy limiter script ran → IsReplayBy limiter' script' ran'
      → HaveBoth ran.replies.items ran'.replies.items → SameReplies ran ran'
  by_unique None None script script' ran ran' quiet said same (is, after, run) (is', after', run') has = record {
    answers = (replies_are_one unlimited_rules unlimited_accepts unlimited_unique (calls_of script) _
        (record { replies = ran.replies.items; after = after; has = has.0; ran = run }) (record {
          replies = ran'.replies.items;
          after = after';
          has = has.1;
          ran = again (optional_rules unlimited_rules) script script' None None _ after' same refl run';
        })).0;
    text = ap held_text (is ∙ sym is');
  }
  by_unique (Some (Quota asked)) (Some (Quota asked')) script script' ran ran' quiet said same
      (quota, new, end, after, run, totals, is) (quota', new', end', after', run', totals', is') has =
      let line : asked ≡ asked' = cc in
      let retold_run = again (optional_rules quota_rules) script script' (Some quota) (Some quota') _ _ same
      (ap (λ q. Some q) (new_quotas asked quota quota' new (rw line new'))) run' in
      let one = replies_are_one quota_rules quota_accepts quota_unique (calls_of script) _
      (record { replies = ran.replies.items; after = _; has = has.0; ran = run })
      (record { replies = ran'.replies.items; after = _; has = has.1; ran = retold_run }) in
      let limiters : Some after ≡ Some after' = ap (λ (w : World (Option quotas.Quota)). w.limiter) one.1 in
      let afters : after ≡ after' = cc in
      record { answers = one.0; text = ap held_text (is ∙ ap (λ q. holding.Quota (holdings q).held) afters ∙ sym is') }
  by_unique (Some (Answers words)) (Some (Answers words')) script script' ran ran' quiet said same
      (none, after, run) (none', after', run') has =
      let given : words.items ≡ words'.items = cc in
      let retold_run = again (optional_rules answer_list_rules) script script' (Some (new_answers words.items)) _ _ _
      same (ap (λ g. Some (new_answers g)) given) run' in
      record {
        answers = (quiet_lists_decide (calls_of script) (start_of script.header) (new_answers words.items)
            (record { ahead = quiet; last = refl }) ran.replies.items ran'.replies.items _ _ has.0 has.1 run
            retold_run).0;
        text = ap held_text (none ∙ sym none');
      }
  by_unique (Some (Tenants asked)) (Some (Tenants asked')) script script' ran ran' quiet said same
      (pool, held, answers) (pool', held', answers') has =
      let line : asked ≡ asked' = cc in
      let retold_parts = subst (λ (p : PoolValue). AnswersParts p (parts_in script'.parts) ran'.replies.items pool')
      (λ i. new_pool (sym line i) (tenants_same script' script (sym same) i)) answers' in
      let one = parts_unique (parts_in script.parts) (parts_in script'.parts) _ (ap ScriptMeaning.parts same)
      ran.replies.items ran'.replies.items pool pool' has answers retold_parts in
      record { answers = one.0; text = ap held_text (held ∙ ap holding.Tenants one.1 ∙ sym held') }
  by_unique limiter limiter' script script' ran ran' quiet said same replay replay' has = absurd cc

  -- two outcomes of the same bytes that these decide end alike
  pub outcomes_unique : OutcomesAreOne
  outcomes_unique bytes (Ok a) (Ok b) (short, writes, replay) (short', writes', replay') (has, none) (has', none') =
      let same = texts_unique bytes a.script b.script writes writes' in
      let ran = by_unique a.script.header.limiter_line b.script.header.limiter_line a.script b.script a.ran b.ran none
      (ap ScriptMeaning.limiter same) same replay replay' (has, has') in
      record {
        text = rw (
          replies_same (calls_of a.script) (calls_of b.script) a.ran.replies.items
              (calls_same a.script b.script same),
          ran.answers,
          ran.text,
        );
        status = refl;
      }
  outcomes_unique bytes (Ok a) (Err (Parse (BadCommand number))) is is' decided decided' =
      absurd (no_bad_line bytes a.script number is.1 is'.1)
  outcomes_unique bytes (Err (Parse (BadCommand number))) (Ok b) is is' decided decided' =
      absurd (no_bad_line bytes b.script number is'.1 is.1)
  outcomes_unique bytes (Err (Parse (BadCommand number))) (Err (Parse (BadCommand number'))) is is' decided decided' =
      let same = bad_lines_once bytes number number' is.1 is'.1 in
      record { text = ap (λ n. line (error_text (Parse (BadCommand n)))) same; status = refl }
  outcomes_unique bytes (Err (Parse OutOfMemory)) outcome' is is' decided decided' = absurd decided
  outcomes_unique bytes (Err ReadFault) outcome' is is' decided decided' = absurd decided
  outcomes_unique bytes outcome (Err (Parse OutOfMemory)) is is' decided decided' = absurd decided'
  outcomes_unique bytes outcome (Err ReadFault) is is' decided decided' = absurd decided'
  outcomes_unique bytes (Err TooLong) (Err TooLong) is is' decided decided' = record { text = refl; status = refl }
  outcomes_unique bytes (Err TooLong) outcome' is is' decided decided' = absurd (omega (arith, is'.0, is))
  outcomes_unique bytes outcome (Err TooLong) is is' decided decided' = absurd (omega (arith, is.0, is'))
