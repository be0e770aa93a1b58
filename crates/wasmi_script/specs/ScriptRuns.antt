-- What the run of a script returns, by its header lines: on a new machine under a limiter, or by parts on a new pool.
use Rattle.std.specs.Prelude.{◌≡◌, List, [], ◌∷◌, ◌++◌, Option, None, Some, replicate}
use Rattle.wasmi_meter.specs.Limiter.{optional_rules, unlimited_rules}
use Rattle.wasmi_meter.specs.declared.{limiter.NoLimits.NoLimits, quota.Quota.Quota, quota.Amounts.Amounts, answer_list.LimiterAnswer.LimiterAnswer}
use Rattle.wasmi_meter.specs.declared.limiter.Kind.TheVariants.{Bytes, Elements}
use Rattle.wasmi_meter.specs.Capped.{nothing, quota_rules, cap_of, holdings}
use Rattle.wasmi_machine.specs.declared.{calls.Call.Call, calls.Reply.Reply}
use Rattle.wasmi_machine.specs.State.{State, World, world, HoldsTotals}
use Rattle.wasmi_machine.specs.Steps.{IsRunOf}
use Rattle.wasmi_budget.specs.Pool.{PoolValue, RunsTenant}
use Rattle.wasmi_grammar.specs.declared.{header.Header.Header, script.Script.Script, header.LimiterLine.LimiterLine, header.TenantsLine.TenantsLine}
use Rattle.wasmi_grammar.specs.declared.header.LimiterLine.TheVariants as Lines
use Rattle.wasmi_grammar.specs.Lines.{calls_of}
use Rattle.wasmi_grammar.specs.Parts.{TenantRun, parts_in}
use Rattle.wasmi_script.specs.declared.replaying.Held.TheVariants.{Nothing}
use Rattle.wasmi_script.specs.declared.replaying.Held.TheVariants as Holding
use Rattle.wasmi_script.specs.declared.{replaying.Held.Held, replaying.Ran.Ran}
use Rattle.wasmi_meter.specs.AnswerList.{AnswersAhead, answer_list_rules, new_answers}
use Rattle.wasmi_grammar.specs.Headers.{start_of, tenant_start}

-- a quota of these caps that holds nothing yet
pub record IsNewQuota (caps : Amounts) (quota : Quota) : Type 0 where
  pub bytes : cap_of quota Bytes ≡ caps.bytes
  pub elements : cap_of quota Elements ≡ caps.elements
  pub nothing : holdings quota ≡ record { held = nothing; last = None }

-- The replies, with what is held, are those of a run of the calls from a machine, under a limiter of these answers.
abbrev pub IsListedReplay : List LimiterAnswer → State → List Call → List Reply → Held → Type 0
IsListedReplay answers start calls replies held = (held ≡ Nothing) × (after : World (Option AnswersAhead))
    × IsRunOf (optional_rules answer_list_rules) calls (world start (Some (new_answers answers))) replies after

-- The replies are those of a run of the calls on a new machine with the meter, the reserved slots and the region of
-- these header lines, without a limiter or under the one that a line asks for. What is held is what a quota then holds,
-- which is all that the machine has.
abbrev pub IsReplayOnOne : Option LimiterLine → Header → List Call → Ran → Type 0
IsReplayOnOne None header calls ran = (ran.held ≡ Nothing) × (after : World (Option NoLimits))
    × IsRunOf (optional_rules unlimited_rules) calls (world (start_of header) None) ran.replies.items after
IsReplayOnOne (Some (Lines.Quota caps)) header calls ran =
    (quota : Quota) × IsNewQuota caps quota × (end : State) × (after : Quota)
    × IsRunOf (optional_rules quota_rules) calls (world (start_of header) (Some quota)) ran.replies.items
    (world end (Some after)) × HoldsTotals (holdings after) end × (ran.held ≡ Holding.Quota (holdings after).held)
IsReplayOnOne (Some (Lines.Answers answers)) header calls ran =
    IsListedReplay answers.items (start_of header) calls ran.replies.items ran.held
IsReplayOnOne (Some (Lines.Tenants line)) header calls ran = ⊥

-- a pool of new machines, as many as a line says, under its caps
abbrev pub new_pool : TenantsLine → State → PoolValue
new_pool line start = record { caps = line.caps; machines = replicate line.count (Some start) }

-- the parts are run one after another, each in one run of its tenant, and the replies are those to the parts in turn
abbrev pub AnswersParts : PoolValue → List TenantRun → List Reply → PoolValue → Type 0
AnswersParts pool [] replies pool' = (replies ≡ []) × (pool' ≡ pool)
AnswersParts pool (part ∷ parts) replies pool' =
    (answered : List Reply) × (later : List Reply) × (middle : PoolValue) × (replies ≡ answered ++ later)
    × RunsTenant pool part.tenant part.calls answered middle × AnswersParts middle parts later pool'

-- The replies are those of the parts, one after another, on a pool of new machines with the script's meter and its
-- reserved slots. What is held is what the pool's machines have then.
abbrev pub IsPoolReplay : TenantsLine → Script → Ran → Type 0
IsPoolReplay line script ran = (pool : PoolValue) × (ran.held ≡ Holding.Tenants pool)
    × AnswersParts (new_pool line (tenant_start script.header)) (parts_in script.parts) ran.replies.items pool

-- the replies are those of the parts on a pool, or of a run on a new machine with the script's meter, slots and region
abbrev pub IsReplayBy : Option LimiterLine → Script → Ran → Type 0
IsReplayBy (Some (Lines.Tenants line)) script ran = IsPoolReplay line script ran
IsReplayBy limiter script ran = IsReplayOnOne limiter script.header (calls_of script) ran

-- the replies are those of a run as the script's header lines ask for it
abbrev pub IsReplayOf : Script → Ran → Type 0
IsReplayOf script ran = IsReplayBy script.header.limiter_line script ran
