-- What a program of the interpreter did is a run, whose instructions set no fuel and take one each: the replies to its
-- growths, its actions, and the fuel that is taken and spent.
use Rattle.std.proofs.Common.{◌≡◌, ◌∙◌, ◌+◌, ◌-◌, ◌*◌, ◌<◌, ◌≤◌, ◌⊎◌, inl, inr, ℕ, zero, suc, Bool, true, false, ◌==◌, Option, Some, None, MatchOption, MatchBool, Result, Ok, Err, cond, List, [], ◌∷◌, ◌++◌, map, refl, sym, ap, arith, All, if◌then◌else◌, is_some, IsSome, slice_get, add-one, add-zero}
use Rattle.std.specs.Option.{option_map, option_map_or, option_and_then, unwrap_or}
use Rattle.std.proofs.Math.Nat.{mul-le-mul_left}
use Rattle.std.proofs.lemmas.Bool.Decides.{nat_tests}
use Rattle.std.proofs.lemmas.List.Elements.{All-nil, All-cons}
use Rattle.std.proofs.lemmas.List.Sums.{sum_by-append, sum_by-le-sum_by}
use Rattle.wasmi_meter.specs.declared.{fuel.FuelError.FuelError, error.MemoryError.MemoryError}
use Rattle.wasmi_meter.specs.declared.fuel.FuelError.TheVariants.{FuelMeteringDisabled, OutOfFuel}
use Rattle.wasmi_meter.specs.Limiter.{Rules}
use Rattle.wasmi_meter.specs.Meter.{Meter, amount_left, ConsumesFuel}
use Rattle.wasmi_raw.specs.RawVal.{raw_of}
use Rattle.wasmi_core.specs.Types.{Reply}
use Rattle.wasmi_core.specs.Calls.{SetFuel, GrowMemory, SetRegister}
use Rattle.wasmi_core.specs.Replies.{Done, Fuel, Number, Memory}
use Rattle.wasmi_core.specs.Account.{SetsNoFuel, charges, has_written, bytes_written, writing_turns, charges_for_writing}
use Rattle.wasmi_core.specs.State.{State, World, Turn, world}
use Rattle.wasmi_core.specs.Steps.{Step, Run, AreTurns}
use Rattle.wasmi_core.specs.Laws.{RunsJoin, ChargesAreSpent, FuelBoundsWriting}
use Rattle.wasmi_example_callers.specs.declared.{interpreter.Instruction.Instruction, interpreter.Action.Action, interpreter.Ending.Ending, interpreter.Outcome.Outcome}
use Rattle.wasmi_example_callers.specs.declared.interpreter.Instruction.TheVariants.{Constant}
use Rattle.wasmi_example_callers.specs.declared.interpreter.Action.TheVariants.{Calls, Grows, Continues, Branches}
use Rattle.wasmi_example_callers.specs.declared.interpreter.Ending.TheVariants as ending
use Rattle.wasmi_example_callers.specs.Interpreter.{action_of, action_at, grow_result, place_after, CarriesOut, is_out_of_fuel, fuel_taken, Stops, StepsAt, Reaches, ExecutesProgram, HasRun, last_instruction, instructions_of, PaysProgramFuel}

-- the state with so much fuel left
abbrev with_left : State → Option ℕ → State
with_left s left = record s { meter = record s.meter { left = left } }

-- where metering is off no fuel is taken
taken_off : (s : State) → s.meter.left ≡ None → fuel_taken s ≡ s
taken_off s off = ap (with_left s) (ap (option_map (λ n. n - 1)) off ∙ sym off)

-- what the answer to a request for one fuel tells of the state before and after it
abbrev pub Tells : State → State → Result ℕ FuelError → Type 0
Tells s s' (Err (OutOfFuel required)) = (is_out_of_fuel s.meter ≡ true) × (s' ≡ s)
Tells s s' result = (is_out_of_fuel s.meter ≡ false) × (s' ≡ fuel_taken s)

module _ (s s' : State) (result : Result ℕ FuelError)
    (on : IsSome s.meter.left → ConsumesFuel s.meter 1 (amount_left s.meter - 1) result s'.meter)
    (off : s.meter.left ≡ None → (result ≡ Err FuelMeteringDisabled) × (s' ≡ s))
    (rest : s' ≡ record s { meter = s'.meter }) where
  -- what the answer to a request for one fuel tells, by what was left
  told_by : (o : Option ℕ) → s.meter.left ≡ o → Tells s s' result
  told_by None is = let answer = off is in rw answer.0 (rw is, answer.1 ∙ sym (taken_off s is))
  told_by (Some zero) is =
      let short = (on (ap is_some is)).short (omega (arith, ap (λ o. unwrap_or o 0) is)) in
      rw short.0 (rw is, rest ∙ ap (λ (m : Meter). record s { meter = m }) short.1)
  told_by (Some (suc n)) is =
      let enough = (on (ap is_some is)).enough (omega (arith, ap (λ o. unwrap_or o 0) is)) in
      let some : (suc n == 0) ≡ false = grind (arith, nat_tests) in
      rw enough.0 (rw is some, rest ∙ ap (λ (m : Meter). record s { meter = m }) enough.1)

  -- what the answer to a request for one fuel tells, whatever was left
  pub told : Tells s s' result
  told = told_by s.meter.left refl

-- a reply to a growth of the interpreter that is neither a number nor an error of a memory gives no result
pub no_result : (reply : Reply) → ((size : ℕ) → reply ≡ Number size → ⊥)
    → ((error : MemoryError) → reply ≡ Memory error → ⊥) → grow_result reply ≡ None
no_result (Number size) number memory = absurd (number size refl)
no_result (Memory error) number memory = absurd (memory error refl)
no_result reply number memory = refl

-- the call of an action doesn't set the fuel
abbrev ActsWithoutFuel : Option Action → Type 0
ActsWithoutFuel (Some (Calls c)) = SetsNoFuel c
ActsWithoutFuel action = Unit {0}

-- an action that a function makes of a value, if there is one, doesn't set the fuel where none that it makes does
of_one : {A : Type 0} (o : Option A) (f : A → Action) → ((x : A) → ActsWithoutFuel (Some (f x)))
    → ActsWithoutFuel (option_map f o)
of_one None f each = tt
of_one (Some x) f each = each x

-- the same where the function may make no action of the value
of_bound : {A : Type 0} (o : Option A) (f : A → Option Action) → ((x : A) → ActsWithoutFuel (f x))
    → ActsWithoutFuel (option_and_then f o)
of_bound None f each = tt
of_bound (Some x) f each = each x

-- a branch doesn't set the fuel, taken or not
of_branch : (stays : Bool) (target : ℕ) → ActsWithoutFuel (Some (if stays then Continues else Branches target))
of_branch true target = tt
of_branch false target = tt

-- an action that is made of values, or a branch, doesn't set the fuel
ruleset without_fuel = (of_bound, of_one, of_branch)

-- no instruction sets the fuel
acts_without_fuel : (i : Instruction) (s : State) → ActsWithoutFuel (action_of i s)
acts_without_fuel (Constant dst number) s = tt
acts_without_fuel i s = search without_fuel

-- the turns of a growth don't set the fuel, by its result
growth_without_fuel : (o : Option ℕ) (dst pages : ℕ) (turns : List Turn) (reply last : Reply)
    → MatchOption o (AreTurns (GrowMemory 0 pages ∷ []) (reply ∷ []) turns × (last ≡ reply))
    (λ size. AreTurns (GrowMemory 0 pages ∷ SetRegister dst (raw_of size) ∷ []) (reply ∷ last ∷ []) turns)
    → All SetsNoFuel (map Turn.call turns)
growth_without_fuel None dst pages turns reply last are =
    rw are.0.calls_of (All-cons SetsNoFuel (GrowMemory 0 pages) [] tt (All-nil SetsNoFuel))
growth_without_fuel (Some size) dst pages turns reply last are =
    rw are.calls_of (All-cons SetsNoFuel (GrowMemory 0 pages) (SetRegister dst (raw_of size) ∷ []) tt
    (All-cons SetsNoFuel (SetRegister dst (raw_of size)) [] tt (All-nil SetsNoFuel)))

-- the turns of an action don't set the fuel
action_without_fuel : (action : Action) (next : ℕ) (turns : List Turn) (result : Result ℕ Ending)
    → ActsWithoutFuel (Some action) → CarriesOut action next turns result → All SetsNoFuel (map Turn.call turns)
action_without_fuel (Calls c) next turns result free (reply, are, is) =
    rw are.calls_of (All-cons SetsNoFuel c [] free (All-nil SetsNoFuel))
action_without_fuel (Grows dst pages) next turns result free (last, (reply, are), is) =
    growth_without_fuel (grow_result reply) dst pages turns reply last are
action_without_fuel action next turns result free follows = rw follows.0 (All-nil SetsNoFuel)

-- whether an instruction takes fuel, by what follows it
abbrev instruction_of : Result ℕ Ending → ℕ
instruction_of (Ok place) = 1
instruction_of (Err ending) = last_instruction ending

-- an instruction takes fuel where its call is answered
reply_instruction : (reply : Reply) (next : ℕ) → instruction_of (place_after reply next) ≡ 1
reply_instruction Done next = refl
reply_instruction reply next = refl

-- an instruction takes fuel where its action is carried out
action_instruction : (action : Action) (next : ℕ) (turns : List Turn) (result : Result ℕ Ending)
    → CarriesOut action next turns result → instruction_of result ≡ 1
action_instruction (Calls c) next turns result (reply, are, is) = ap instruction_of is ∙ reply_instruction reply next
action_instruction (Grows dst pages) next turns result (reply, are, is) =
    ap instruction_of is ∙ reply_instruction reply next
action_instruction action next turns result follows = ap instruction_of follows.1

-- two lists of turns have written as much, by as many turns, which were charged as much for it
record IsWrittenAs (all turns : List Turn) : Type 0 where
  bytes : bytes_written all ≡ bytes_written turns
  number : writing_turns all ≡ writing_turns turns
  charged : charges_for_writing all ≡ charges_for_writing turns

-- two lists of turns have written as much where both of their parts have
written_append : (all turns more extra : List Turn) → IsWrittenAs all turns → IsWrittenAs more extra
    → IsWrittenAs (all ++ more) (turns ++ extra)
written_append all turns more extra first second = record {
  bytes = let f : Turn → ℕ = λ t. t.written in
      omega (arith, sum_by-append f all more, sum_by-append f turns extra, first.bytes, second.bytes);
  number = let f : Turn → ℕ = λ t. cond (has_written t.call t.reply) 1 0 in
      omega (arith, sum_by-append f all more, sum_by-append f turns extra, first.number, second.number);
  charged = let f : Turn → ℕ = λ t. if has_written t.call t.reply then t.charge else 0 in
      omega (arith, sum_by-append f all more, sum_by-append f turns extra, first.charged, second.charged);
}

-- a part of a number
part_of : (counts : Bool) (n : ℕ) → (if counts then n else 0) ≤ n
part_of true n = omega arith
part_of false n = omega arith

-- the charges for writing are charges
writing_within : (turns : List Turn) → charges_for_writing turns ≤ charges turns
writing_within turns =
    sum_by-le-sum_by (λ (t : Turn). if has_written t.call t.reply then t.charge else 0) (λ (t : Turn). t.charge) turns
    (λ t. part_of (has_written t.call t.reply) t.charge)

module _ {S : Type 0} (rules : Rules S) where
  -- turns between which so much fuel was taken for instructions: they are those of a run, in which a call that sets the
  -- fuel stands for each fuel taken, and what is left is what was left less that fuel and the charges
  record Taken (w : World S) (turns : List Turn) (fuel : ℕ) (w' : World S) : Type 0 where
    all : List Turn
    run : Run rules w all w'
    written : IsWrittenAs all turns
    spent : (left : ℕ) → w.state.meter.left ≡ Some left
        → (left' : ℕ) × (w'.state.meter.left ≡ Some left') × (left' + fuel + charges turns ≡ left)

  -- the call that stands for the fuel that is taken of so much
  abbrev taking_turn : ℕ → Turn
  taking_turn left = record { call = SetFuel (left - 1); reply = Done; charge = 0; written = 0 }

  -- the world with one fuel taken
  abbrev next_world : World S → World S
  next_world w = world (fuel_taken w.state) w.limiter

  -- one fuel is taken by a run
  taken_run : (w : World S) (o : Option ℕ) → w.state.meter.left ≡ o
      → (all : List Turn) × Run rules w all (next_world w) × IsWrittenAs all []
  taken_run w None off = (
    [],
    ap (λ s. world s w.limiter) (taken_off w.state off),
    record { bytes = refl; number = refl; charged = refl },
  )
  taken_run w (Some left) on =
      let step : Step rules w (taking_turn left) (next_world w) = record {
        free = (refl, refl);
        machine = fuel_taken w.state;
        effect = (
          sym (ap (λ (o : Option ℕ). if is_some o then Done else Fuel FuelMeteringDisabled) on),
          ap (with_left w.state) (ap (option_map (λ n. n - 1)) on ∙ sym (ap (option_map (λ n. left - 1)) on)),
        );
        after = refl;
      } in (taking_turn left ∷ [], (next_world w, step, refl), record { bytes = refl; number = refl; charged = refl })

  -- an instruction takes no fuel and has no turns, or one fuel before its turns
  abbrev Needs : World S → List Turn → ℕ → World S → Type 0
  Needs w turns fuel w' = ((turns ≡ []) × (w' ≡ w) × (fuel ≡ 0))
      ⊎ ((is_out_of_fuel w.state.meter ≡ false) × Run rules (next_world w) turns w'
      × All SetsNoFuel (map Turn.call turns) × (fuel ≡ 1))

  -- the program ends with no turn
  stops_needs : (ending : Ending) (w : World S) (turns : List Turn) (result : Result ℕ Ending) (w' : World S)
      → last_instruction ending ≡ 0 → Stops ending w turns result w' → Needs w turns (instruction_of result) w'
  stops_needs ending w turns result w' free stops = inl (stops.1, stops.2, ap instruction_of stops.0 ∙ free)

  -- what an action needs, by whether fuel is left for it
  action_needs : (action : Action) (next : ℕ) (w : World S) (turns : List Turn) (result : Result ℕ Ending)
      (w' : World S) (out : Bool) → ActsWithoutFuel (Some action) → is_out_of_fuel w.state.meter ≡ out
      → MatchBool out (Stops ending.OutOfFuel w turns result w')
      (Run rules (next_world w) turns w' × CarriesOut action next turns result)
      → Needs w turns (instruction_of result) w'
  action_needs action next w turns result w' true free is stops =
      stops_needs ending.OutOfFuel w turns result w' refl stops
  action_needs action next w turns result w' false free is (run, follows) = inr (
    is,
    run,
    action_without_fuel action next turns result free follows,
    action_instruction action next turns result follows,
  )

  -- what the instruction of a place needs, by what it comes to
  place_needs : (o : Option Action) (next : ℕ) (w : World S) (turns : List Turn) (result : Result ℕ Ending)
      (w' : World S) → ActsWithoutFuel o → MatchOption o (Stops ending.Undefined w turns result w')
      (λ action. MatchBool (is_out_of_fuel w.state.meter) (Stops ending.OutOfFuel w turns result w')
      (Run rules (next_world w) turns w' × CarriesOut action next turns result))
      → Needs w turns (instruction_of result) w'
  place_needs None next w turns result w' free stops = stops_needs ending.Undefined w turns result w' refl stops
  place_needs (Some action) next w turns result w' free h =
      action_needs action next w turns result w' (is_out_of_fuel w.state.meter) free refl h

module _ {S : Type 0} (rules : Rules S) (joins : RunsJoin rules) (spends : ChargesAreSpent rules) where
  -- the fuel that an instruction needs is taken by it
  needs_taken : (w : World S) (turns : List Turn) (fuel : ℕ) (w' : World S) → Needs rules w turns fuel w'
      → Taken rules w turns fuel w'
  needs_taken w turns fuel w' (inl (none, same, free)) = record {
    all = [];
    run = same;
    written = record { bytes = rw none; number = rw none; charged = rw none };
    spent = λ left on. (left, ap (λ (v : World S). v.state.meter.left) same ∙ on, omega (arith, free, ap charges none));
  }
  needs_taken w turns fuel w' (inr (fuelled, run, quiet, one)) =
      let before = taken_run rules w w.state.meter.left refl in
      record {
        all = before.0 ++ turns;
        run = joins w before.0 (next_world rules w) turns w' before.1 run;
        written = written_append before.0 [] turns turns before.2
            (record { bytes = refl; number = refl; charged = refl });
        spent = λ left on.
            let tested : (left == 0) ≡ false =
            sym (ap (λ (o : Option ℕ). option_map_or (λ n. n == 0) o false) on) ∙ fuelled in
            let rest = spends (next_world rules w) (left - 1) (ap (option_map (λ n. n - 1)) on) turns w' run quiet in
            let some : 0 < left = grind (arith, nat_tests, tested) in
            (rest.0, rest.1, omega (arith, rest.2.charged, one, some));
      }

  -- the fuel that is taken by turns, and by those that follow, is taken by all of them
  taken_more : (w : World S) (turns : List Turn) (n : ℕ) (v : World S) → Taken rules w turns n v
      → (more : List Turn) (k : ℕ) (w' : World S) → Taken rules v more k w' → Taken rules w (turns ++ more) (n + k) w'
  taken_more w turns n v first more k w' second = record {
    all = first.all ++ second.all;
    run = joins w first.all v second.all w' first.run second.run;
    written = written_append first.all turns second.all more first.written second.written;
    spent = λ left on.
        let middle = first.spent left on in
        let last = second.spent middle.0 middle.1 in
        let both = sum_by-append (λ (t : Turn). t.charge) turns more in
        (last.0, last.1, omega (arith, middle.2, last.2, both));
  }

  module _ (program : List Instruction) where
    -- the instruction of a place takes fuel, as what follows it says
    step_taken : (place : ℕ) (w : World S) (turns : List Turn) (result : Result ℕ Ending) (w' : World S)
        → StepsAt rules program place w turns result w' → Taken rules w turns (instruction_of result) w'
    step_taken place w turns result w' steps =
        needs_taken w turns (instruction_of result) w'
        (place_needs rules (action_at program place w.state) (place + 1) w turns result w'
        (of_bound (slice_get program place) (λ i. action_of i w.state) (λ i. acts_without_fuel i w.state)) steps)

    -- the instructions that reach a place take one fuel each
    reached_taken : (w : World S) (n place : ℕ) (turns : List Turn) (v : World S)
        → Reaches rules program w n place turns v → Taken rules w turns n v
    reached_taken w zero place turns v (start, none, same) = needs_taken w turns 0 v (inl (none, same, refl))
    reached_taken w (suc n) place turns v (last, before, u, path, more, steps, are) =
        rw (are, ← (add-one n)) (taken_more w before n u (reached_taken w n last before u path) more 1 v
        (step_taken last u more (Ok place) v steps))

    -- a program takes one fuel for each instruction that it counts
    program_taken : (w : World S) (turns : List Turn) (outcome : Outcome) (w' : World S)
        → ExecutesProgram rules program w turns outcome w' → Taken rules w turns (instructions_of outcome) w'
    program_taken w turns outcome w' (before, v, path, ends) = by outcome.ending ends
      where
        by : (o : Option Ending) → MatchOption o ((turns ≡ before) × (w' ≡ v))
            (λ ending. (more : List Turn) × StepsAt rules program outcome.place v more (Err ending) w'
            × (turns ≡ before ++ more)) → Taken rules w turns (outcome.executed + option_map_or last_instruction o 0) w'
        by None (are, same) = rw (are, same, add-zero outcome.executed)
            (reached_taken w outcome.executed outcome.place before v path)
        by (Some ending) (more, steps, are) = rw are
            (taken_more w before outcome.executed v (reached_taken w outcome.executed outcome.place before v path) more
            (last_instruction ending) w' (step_taken outcome.place v more (Err ending) w' steps))

-- the fuel that a program takes is spent of what was left
taken_spent : {S : Type 0} (rules : Rules S) → FuelBoundsWriting rules → (w : World S) (turns : List Turn)
    (outcome : Outcome) (w' : World S) → Taken rules w turns (instructions_of outcome) w'
    → PaysProgramFuel w.state.meter turns outcome w'.state.meter
taken_spent rules bounds w turns outcome w' taken left on =
    let rate = w.state.meter.costs.bytes_copied_per_fuel in
    let s = taken.spent left on in (
      s.0,
      s.1,
      record {
        charged = omega (arith, s.2);
        written = λ rated.
            let bound = (bounds w left on rated taken.all w' taken.run).by_charges in
            let pays : rate * charges_for_writing taken.all ≡ rate * charges_for_writing turns =
            ap (λ k. rate * k) taken.written.charged in
            let excess : writing_turns taken.all * (rate - 1) ≡ writing_turns turns * (rate - 1) =
            ap (λ k. k * (rate - 1)) taken.written.number in
            let most : rate * charges_for_writing turns ≤ rate * (left - (s.0 + instructions_of outcome)) =
            mul-le-mul_left rate (omega (arith, writing_within turns, s.2)) in
            omega (arith, bound, taken.written.bytes, pays, excess, most);
      },
    )

module _ {S : Type 0} (rules : Rules S) (joins : RunsJoin rules) (spends : ChargesAreSpent rules)
    (bounds : FuelBoundsWriting rules) (program : List Instruction) (w : World S) (turns : List Turn)
    (outcome : Outcome) (w' : World S) (executes : ExecutesProgram rules program w turns outcome w') where
  -- the turns of a program, and the fuel that it takes
  pub execution : (turns : List Turn) × ExecutesProgram rules program w turns outcome w'
      × PaysProgramFuel w.state.meter turns outcome w'.state.meter
  execution = (
    turns,
    executes,
    taken_spent rules bounds w turns outcome w' (program_taken rules joins spends program w turns outcome w' executes),
  )

  -- what a program did is a run
  pub execution_run : HasRun rules w w'
  execution_run =
      let taken = program_taken rules joins spends program w turns outcome w' executes in
      (map Turn.call taken.all, map Turn.reply taken.all, (taken.all, refl, refl, taken.run))
