-- What calls and lists of calls do to a machine with its limiter, whether the limiter is kept after runs, calls, writes
-- and reservations, and how a machine is made.
use Rattle.std.proofs.Common.{◌≡◌, ◌+◌, ◌<◌, ◌≤◌, ◌++◌, set, take, length, get_or, All, Option, Some, None, false, is_some, map, Ok, Err, List, Result, arith, IfOk, OnErr, [], ◌∷◌, refl, sym, ap, ℕ, ◌∙◌, ◌^◌, sum, inl, inr}
use Rattle.wasmi_c.proofs.Common.{take_all, take_more, take_more_set, Vec, optional_rules, holdings, quota_rules, SameCaps, State, with_memories, with_reserved, total, Turn, byte_count, slot_count, world, with_tables, Write, CallsAreRuns, InTurn, ListsAreRuns, MachineReplies, QuotasAreKept, world_of, ReplyStruct}
use Rattle.std.specs.Global.{Global}
use Rattle.std.specs.declared.alloc.AllocError.{AllocError}
use Rattle.wasmi_meter.specs.AnyLimiter.{any_limiter_rules, caps_of}
use Rattle.wasmi_meter.specs.declared.{any_limiter.AnyLimiter.AnyLimiter, limiter.Kind.Kind}
use Rattle.wasmi_meter.specs.declared.limiter.Kind.TheVariants.{Bytes, Elements}
use Rattle.wasmi_machine.specs.Determinism.{RelatesByKind, RunsKeepKind}
use Rattle.wasmi_machine.specs.Laws.{HoldsTotalsAlways, QuotasStayWithin}
use Rattle.wasmi_machine.proofs.StoreLemmas.{run_of_one, write_replies}
use Rattle.wasmi_machine.specs.Steps.{IsRunOf, Run, RepliesWith, SomeCopy}
use Rattle.wasmi_machine.specs.TableEffects.{ReservesElementsAt}
use Rattle.wasmi_budget.proofs.TenantLemmas.{elements_alike}
use Rattle.wasmi_machine.specs.declared.{calls.Call.Call, calls.Reply.Reply, slots.SlotCounts.SlotCounts}
use Rattle.wasmi_c.specs.Machine.Caps.{Keeps, MachineValue}
use Rattle.wasmi_c.specs.Machine.CallStructs.{call_of}
use Rattle.wasmi_c.specs.Machine.NewMachines.{IsAnswer, IsNewWithAnswers, MakesMachine, MakesWithAnswers, listed_answer}
use Rattle.wasmi_c.specs.declared.{machine.call_struct.CallStruct.CallStruct, machine.limits.Limits.Limits}
use Rattle.wasmi_machine.proofs.MemoryEffectsLemmas.{vector_store_facts, write_facts}
use Rattle.wasmi_machine.specs.MemoryEffects.{StoresMemoryAt, WritesMemoryAt}
use Rattle.wasmi_meter.specs.declared.any_limiter.AnyLimiter.TheVariants as limiter

-- a limiter is kept after a run: it holds what the machine has, within the caps of the one before
abbrev KeptAfter : AnyLimiter → State → AnyLimiter → Type 0
KeptAfter l s' l' = Keeps s' l' × (caps_of l' ≡ caps_of l)

-- a limiter that is related by the rules of its kind to one after a run is kept by it
kept_by_kind : HoldsTotalsAlways quota_rules holdings → QuotasStayWithin → (turns : List Turn) (s : State)
    (l : AnyLimiter) (s' : State) (l' : AnyLimiter) → Keeps s l
    → RelatesByKind (λ L rules w w'. Run rules w turns w') s l s' l' → KeptAfter l s' l'
kept_by_kind holds stays turns s limiter.Unlimited s' l' kept (same, ran) = rw same (tt, refl)
kept_by_kind holds stays turns s (limiter.Quota quota) s' l' kept (quota', same, ran) =
    let held = holds s quota kept.totals turns (world s' (Some quota')) ran in
    let within = stays s quota kept.within turns (world s' (Some quota')) ran in
    let stayed : quota' ≡ within.0 = cc in
    let is_held : quota' ≡ held.0 = cc in
    let caps : SameCaps quota quota' = rw stayed within.3 in
    rw same (
      record { totals = rw is_held held.2; within = rw stayed within.2 },
      (λ i. Some (record { bytes = caps Bytes i; elements = caps Elements i })),
    )
kept_by_kind holds stays turns s (limiter.Answers list) s' l' kept (list', same, ran) = rw same (tt, refl)

-- quotas are kept in each run
pub quotas_kept : RunsKeepKind → HoldsTotalsAlways quota_rules holdings → QuotasStayWithin → QuotasAreKept
quotas_kept kinds holds stays turns s l s' l' ran kept =
    kept_by_kind holds stays turns s l s' l' kept (kinds turns s l s' l' ran)

module _ (keeps : QuotasAreKept) (machine : MachineValue) (s : State) (l : AnyLimiter) (s' : State) (l' : AnyLimiter)
    (seen : record { state = s; limiter = l } ≡ machine) (kept : Keeps s l) where
  -- the limiter holds what the machine has, within the caps of the one before
  abbrev Kept : Type 0
  Kept = Keeps s' l' × (caps_of l' ≡ caps_of machine.limiter)

  -- a limiter that is kept from one to another has the caps of the machine's
  of_machine : KeptAfter l s' l' → Kept
  of_machine after = (after.0, after.1 ∙ ap (λ (m : MachineValue). caps_of m.limiter) seen)

  -- after a call the limiter holds what the machine has, within the same caps
  pub kept_by_call : (call : Call) (reply : Reply)
      → RepliesWith (optional_rules any_limiter_rules) call (world s (Some l)) reply (world s' (Some l')) → Kept
  kept_by_call call reply (charge, written, step) =
      of_machine (keeps (record { call = call; reply = reply; charge = charge; written = written } ∷ []) s l s' l'
      (world s' (Some l'), step, refl) kept)

  -- after calls that are run, or refused, the limiter holds what the machine has, within the same caps
  pub kept_by_run : (calls : List Call) (result : Result (Vec Reply Global) AllocError)
      → IfOk result (λ replies. IsRunOf (optional_rules any_limiter_rules) calls (world s (Some l)) replies.items
      (world s' (Some l')))
      → OnErr result ((s' ≡ s) × (l' ≡ l)) → Kept
  kept_by_run calls (Ok replies) (turns, called, replied, ran) unchanged =
      of_machine (keeps turns s l s' l' ran kept)
  kept_by_run calls (Err error) run unchanged = of_machine (rw (unchanged.0, unchanged.1) (kept, refl))

-- a call is a run of it alone
pub calls_run : CallsAreRuns
calls_run call machine reply machine' =
    run_of_one (optional_rules any_limiter_rules) call (world_of machine) reply (world_of machine')

-- a quota that holds what a machine has holds what another has that has as much of each kind
kept_by_totals : (s : State) (l : AnyLimiter) (s' : State) → ((kind : Kind) → total s' kind ≡ total s kind) → Keeps s l
    → Keeps s' l
kept_by_totals s limiter.Unlimited s' same kept = tt
kept_by_totals s (limiter.Quota quota) s' same kept = record {
  totals = record {
    bytes = kept.totals.bytes ∙ sym (same Bytes);
    elements = kept.totals.elements ∙ sym (same Elements);
  };
  within = kept.within;
}
kept_by_totals s (limiter.Answers list) s' same kept = tt

-- a limiter is kept where the memories keep their sizes
kept_by_sizes : (s : State) (l : AnyLimiter) (s' : State)
    → map (slot_count byte_count) s'.memories ≡ map (slot_count byte_count) s.memories
    → s' ≡ with_memories s s'.memories → Keeps s l → Keeps s' l
kept_by_sizes s l s' same rest = kept_by_totals s l s' (λ kind. elim kind as (λ kind. total s' kind ≡ total s kind) [
  | Bytes ↦ ap sum same
  | Elements ↦ ap (λ state. total state Elements) rest
])

-- a store keeps the sizes of the memories
pub kept_by_store : (s : State) (l : AnyLimiter) (index a : ℕ) (stored : List ℕ) (full : Reply) (s' : State)
    → StoresMemoryAt index a stored s.memories full s'.memories → s' ≡ with_memories s s'.memories → Keeps s l
    → Keeps s' l
kept_by_store s l index a stored full s' stores rest kept =
    kept_by_sizes s l s' ((vector_store_facts index a (Some stored) s.memories).keeps full s'.memories stores).0 rest kept

-- a write keeps the sizes of the memories
pub kept_by_write : (s : State) (l : AnyLimiter) (index offset : ℕ) (bytes : List ℕ) (full : Reply) (s' : State)
    → WritesMemoryAt index offset bytes s.memories full s'.memories → s' ≡ with_memories s s'.memories → Keeps s l
    → Keeps s' l
kept_by_write s l index offset bytes full s' writes rest kept =
    kept_by_sizes s l s' ((write_facts index offset bytes s.memories).keeps full s'.memories writes).0 rest kept

-- a write of bytes is a step of a machine by the call `Write` with a copy of them
pub machine_writes : (machine : MachineValue) (s : State) (l : AnyLimiter) → record { state = s; limiter = l } ≡ machine
    → (memory offset : ℕ) (bytes : List ℕ) → length bytes < 2 ^ 63 → (full : Reply) (s' : State)
    → WritesMemoryAt memory offset bytes s.memories full s'.memories → s' ≡ with_memories s s'.memories
    → SomeCopy bytes
    (λ copy. MachineReplies (Write memory offset copy) machine full (record { state = s'; limiter = l }))
machine_writes machine s l seen memory offset bytes short full s' writes rest =
    let written = write_replies (optional_rules any_limiter_rules) memory offset bytes short s full s' writes rest in (
      written.0,
      written.1,
      rw (← seen) (0, 0, written.2 (Some l)),
    )

-- a limiter is kept where slots are reserved, which count nowhere
pub kept_by_reserve : (s : State) (l : AnyLimiter) (more : SlotCounts) (s' : State) → s' ≡ with_reserved s more
    → Keeps s l → Keeps s' l
kept_by_reserve s l more s' reserved = kept_by_totals s l s' (λ kind. ap (λ state. total state kind) reserved)

-- a limiter is kept where elements are reserved, which count nowhere
pub kept_by_elements : (s : State) (l : AnyLimiter) (table elements : ℕ) (reply : Reply) (s' : State)
    → ReservesElementsAt table elements s.tables reply s'.tables → s' ≡ with_tables s s'.tables → Keeps s l → Keeps s' l
kept_by_elements s l table elements reply s' tables rest =
    kept_by_totals s l s' (elements_alike table elements reply s s' (tables, rest))

-- what is made as one machine is made as one of which a fact holds
pub made_so : (IsNew : MachineValue → Type 0) (machine : MachineValue) (held : Option MachineValue) (status : ℕ)
    (held' : Option MachineValue) → MakesMachine (λ made. made ≡ machine) held status held' → IsNew machine
    → MakesMachine IsNew held status held'
made_so IsNew machine None status held' (inl refused) is = inl refused
made_so IsNew machine None status held' (inr (made, same, done, kept)) is = inr (made, rw same is, done, kept)
made_so IsNew machine (Some old) status held' there is = there

-- where there is none, what is made as a new machine with answers is made with these answers
pub made_with_answers : (limits : Limits) (numbers : List ℕ) (machine : MachineValue) (held : Option MachineValue)
    (status : ℕ) (held' : Option MachineValue) → MakesMachine (λ made. made ≡ machine) held status held'
    → is_some held ≡ false → All IsAnswer numbers → IsNewWithAnswers limits (map listed_answer numbers) machine
    → MakesWithAnswers limits numbers held status held'
made_with_answers limits numbers machine None status held' made none all is =
    inr (all, made_so (IsNewWithAnswers limits (map listed_answer numbers)) machine None status held' made is)
made_with_answers limits numbers machine (Some old) status held' made none all is = absurd cc

module _ {V : Type 0} (Replies : CallStruct → V → ReplyStruct → V → Type 0) where
  -- one more call is replied to after others
  in_turn_push : (calls : List CallStruct) (v : V) (replies : List ReplyStruct) (w : V)
      → InTurn Replies calls v replies w → (call : CallStruct) (reply : ReplyStruct) (x : V) → Replies call w reply x
      → InTurn Replies (calls ++ call ∷ []) v (replies ++ reply ∷ []) x
  in_turn_push [] v [] w ran call reply x step = (x, rw (← ran) step, refl)
  in_turn_push [] v (r ∷ replies) w ran call reply x step = absurd ran
  in_turn_push (c ∷ calls) v [] w ran call reply x step = absurd ran
  in_turn_push (c ∷ calls) v (r ∷ replies) w ran call reply x step =
      (ran.0, ran.1, in_turn_push calls ran.0 replies w ran.2 call reply x step)

  -- the next call of a list is replied to after those before, with its reply at the place of its number
  pub next_in_turn : (calls : List CallStruct) (i : ℕ) (none : CallStruct) (v : V) (replies : List ReplyStruct)
      (reply : ReplyStruct) (w x : V) → InTurn Replies (take i calls) v (take i replies) w → i < length calls
      → length replies ≡ length calls → Replies (get_or calls i none) w reply x
      → InTurn Replies (take (i + 1) calls) v (take (i + 1) (set replies i reply)) x
  next_in_turn calls i none v replies reply w x ran inside places step =
      rw (take_more calls i none inside, take_more_set replies i reply (omega (arith, inside, places)))
      (in_turn_push (take i calls) v (take i replies) w ran (get_or calls i none) reply x step)

  -- all calls are replied to once the place is past the last one
  pub all_in_turn : (calls : List CallStruct) (i : ℕ) (v : V) (replies : List ReplyStruct) (w : V)
      → InTurn Replies (take i calls) v (take i replies) w → length calls ≤ i → length replies ≡ length calls
      → InTurn Replies calls v replies w
  all_in_turn calls i v replies w ran past places =
      rw (take_all i calls past, take_all i replies (omega (arith, past, places))) at ran

-- calls that are replied to in turn are one run of them
pub lists_run : ListsAreRuns
lists_run [] [] machine [] machine' are same = ([], ([], refl, refl, ap world_of same), refl)
lists_run [] [] machine (t ∷ told) machine' are ran = absurd ran
lists_run [] (c ∷ calls) machine told machine' are ran = absurd cc
lists_run (n ∷ numbers) [] machine told machine' are ran = absurd cc
lists_run (n ∷ numbers) (c ∷ calls) machine [] machine' are ran = absurd ran
lists_run (n ∷ numbers) (c ∷ calls) machine (t ∷ told) machine' are (next, step, ran) =
    let is : call_of n ≡ Some c = cc in
    let one = rw is at step in
    let rest = lists_run numbers calls next told machine' (cc) ran in
    let turn : Turn = record { call = c; reply = one.0; charge = one.1.0; written = one.1.1 } in (
      one.0 ∷ rest.0,
      (turn ∷ rest.1.0, λ i. c ∷ rest.1.1 i, λ i. one.0 ∷ rest.1.2 i, (world_of next, one.1.2, rest.1.3)),
      λ i. one.2 i ∷ rest.2 i,
    )
