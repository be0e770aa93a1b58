-- What each instruction of the interpreter comes to, and what a program of them does on a machine: the places that it
-- reaches by turns, how it ends, and the fuel that it takes.
use Rattle.std.specs.Prelude.{◌≡◌, ◌+◌, ◌-◌, ◌^◌, ◌≤◌, ℕ, zero, suc, Bool, false, ◌==◌, if◌then◌else◌, Option, Some, None, MatchOption, MatchBool, Result, Ok, Err, List, [], ◌∷◌, ◌++◌, slice_get}
use Rattle.std.specs.Int.{w64, cast_unsigned}
use Rattle.std.specs.Option.{option_map, option_map_or, option_and_then}
use Rattle.wasmi_raw.specs.declared.raw.RawVal.{RawVal}
use Rattle.wasmi_raw.specs.RawVal.{raw_of, signed_in}
use Rattle.wasmi_scalar.specs.Numerics.{iadd, imul}
use Rattle.wasmi_ops.specs.declared.vector.BinaryOp.TheVariants.{I8x16Add}
use Rattle.wasmi_ops.specs.declared.vector.VectorLoadOp.TheVariants.{V128Load64Zero}
use Rattle.wasmi_meter.specs.Limiter.{Rules}
use Rattle.wasmi_meter.specs.Meter.{Meter, meter_after}
use Rattle.wasmi_store.specs.Memory.{pages_of}
use Rattle.wasmi_core.specs.Types.{Call, Reply}
use Rattle.wasmi_core.specs.Calls as call
use Rattle.wasmi_core.specs.Replies.{Done, Number, Memory}
use Rattle.wasmi_ops.specs.declared.load_store.StoreOp.TheVariants.{Store64}
use Rattle.wasmi_core.specs.State.{State, live_at, World, Turn, world}
use Rattle.wasmi_core.specs.Steps.{Run, IsRunOf, AreTurns}
use Rattle.wasmi_core.specs.Account.{IsSpent}
use Rattle.wasmi_example_callers.specs.declared.{interpreter.Instruction.Instruction, interpreter.Action.Action, interpreter.Ending.Ending, interpreter.Outcome.Outcome}
use Rattle.wasmi_example_callers.specs.declared.interpreter.Instruction.TheVariants.{Constant, Copy, Add, Multiply, AddBytes, Load, Store, Grow, Size, Branch, BranchIf, Return}
use Rattle.wasmi_example_callers.specs.declared.interpreter.Action.TheVariants.{Calls, Grows, Continues, Branches, Returns}
use Rattle.wasmi_example_callers.specs.declared.interpreter.Ending.TheVariants.{Returned, Refused, Undefined, OutOfFuel}

-- what is made of the value of one register, if it is there
abbrev pub of_register : {A : Type 0} → State → ℕ → (RawVal → A) → Option A
of_register s a f = option_map f (slice_get s.registers a)

-- what is made of the values of two registers, if they are there
abbrev pub of_registers : {A : Type 0} → State → ℕ → ℕ → (RawVal → RawVal → A) → Option A
of_registers s a b f = option_and_then (λ x. of_register s b (f x)) (slice_get s.registers a)

-- a register takes a value
abbrev pub sets : ℕ → RawVal → Action
sets dst value = Calls (call.SetRegister dst value)

-- what an instruction comes to, if the registers and the memory that it reads are there: a line for each. A growth
-- looks at the register that takes its result, too
abbrev pub action_of : Instruction → State → Option Action
action_of (Constant dst number) s = Some (sets dst (raw_of number))
action_of (Copy dst src) s = of_register s src (sets dst)
action_of (Add dst a b) s =
    of_registers s a b (λ x y. sets dst (raw_of (cast_unsigned w64 (iadd w64 (signed_in w64 x) (signed_in w64 y)))))
action_of (Multiply dst a b) s =
    of_registers s a b (λ x y. sets dst (raw_of (cast_unsigned w64 (imul w64 (signed_in w64 x) (signed_in w64 y)))))
action_of (AddBytes dst a b) s = Some (Calls (call.Binary I8x16Add dst a b))
action_of (Load dst ptr offset) s = of_register s ptr (λ x. Calls (call.VectorLoad V128Load64Zero dst 0 x.lo offset))
action_of (Store ptr offset value) s = of_registers s ptr value (λ x y. Calls (call.Store Store64 0 x.lo offset y))
action_of (Grow dst pages) s = of_registers s dst pages (λ old x. Grows dst x.lo)
action_of (Size dst) s = option_map (λ x. sets dst (raw_of (pages_of x))) (live_at s.memories 0)
action_of (Branch target) s = Some (Branches target)
action_of (BranchIf condition target) s =
    of_register s condition (λ x. if x.lo == 0 then Continues else Branches target)
action_of (Return local) s = of_register s local Returns

-- what the instruction of a place comes to, if there is one
abbrev pub action_at : List Instruction → ℕ → State → Option Action
action_at program place s = option_and_then (λ i. action_of i s) (slice_get program place)

-- the number that `memory.grow` gives by the reply to a growth, if there is a memory: its old size in pages, or -1
-- where the growth is refused
abbrev pub grow_result : Reply → Option ℕ
grow_result (Number size) = Some size
grow_result (Memory error) = Some (2 ^ 64 - 1)
grow_result reply = None

-- what follows the reply to a call: the next place, or the end of the program
abbrev pub place_after : Reply → ℕ → Result ℕ Ending
place_after Done next = Ok next
place_after reply next = Err (Refused reply)

-- a growth whose result a register takes is answered in these turns; `last` is the reply to the last of them
abbrev pub IsGrowth : ℕ → ℕ → List Turn → Reply → Type 0
IsGrowth dst pages turns last = (reply : Reply) × MatchOption (grow_result reply)
    (AreTurns (call.GrowMemory 0 pages ∷ []) (reply ∷ []) turns × (last ≡ reply))
    (λ size. AreTurns (call.GrowMemory 0 pages ∷ call.SetRegister dst (raw_of size) ∷ []) (reply ∷ last ∷ []) turns)

-- an action is answered in these turns, and what follows is a place, or the end of the program; `next` is the place
-- after that of the instruction
abbrev pub CarriesOut : Action → ℕ → List Turn → Result ℕ Ending → Type 0
CarriesOut (Calls c) next turns result =
    (reply : Reply) × AreTurns (c ∷ []) (reply ∷ []) turns × (result ≡ place_after reply next)
CarriesOut (Grows dst pages) next turns result =
    (reply : Reply) × IsGrowth dst pages turns reply × (result ≡ place_after reply next)
CarriesOut Continues next turns result = (turns ≡ []) × (result ≡ Ok next)
CarriesOut (Branches target) next turns result = (turns ≡ []) × (result ≡ Ok target)
CarriesOut (Returns value) next turns result = (turns ≡ []) × (result ≡ Err (Returned value))

-- metering is on, and nothing is left
abbrev pub is_out_of_fuel : Meter → Bool
is_out_of_fuel m = option_map_or (λ left. left == 0) m.left false

-- the state with one fuel taken, where metering is on
abbrev pub fuel_taken : State → State
fuel_taken s = record s { meter = meter_after s.meter 1 }

-- the program ends with no turn, and nothing changes
abbrev pub Stops : {S : Type 0} → Ending → World S → List Turn → Result ℕ Ending → World S → Type 0
Stops ending w turns result w' = (result ≡ Err ending) × (turns ≡ []) × (w' ≡ w)

module _ {S : Type 0} (rules : Rules S) where
  module _ (program : List Instruction) where
    -- the instruction of a place leads from one world to another by turns, for one fuel that is taken before them: the
    -- next place, or how the program ends. Without an instruction it ends, whatever fuel is left
    abbrev pub StepsAt : ℕ → World S → List Turn → Result ℕ Ending → World S → Type 0
    StepsAt place w turns result w' = MatchOption (action_at program place w.state) (Stops Undefined w turns result w')
        (λ action. MatchBool (is_out_of_fuel w.state.meter) (Stops OutOfFuel w turns result w')
        (Run rules (world (fuel_taken w.state) w.limiter) turns w' × CarriesOut action (place + 1) turns result))

    -- a number of instructions, from the first on, reach a place and a world by turns
    abbrev pub Reaches : World S → ℕ → ℕ → List Turn → World S → Type 0
    Reaches w zero place turns w' = (place ≡ 0) × (turns ≡ []) × (w' ≡ w)
    Reaches w (suc n) place turns w' = (last : ℕ) × (before : List Turn) × (v : World S) × Reaches w n last before v
        × (more : List Turn) × StepsAt last v more (Ok place) w' × (turns ≡ before ++ more)

    -- a number of instructions are executed, and then the program ends, unless it may execute no more; the turns are
    -- those of all these instructions
    abbrev pub ExecutesProgram : World S → List Turn → Outcome → World S → Type 0
    ExecutesProgram w turns outcome w' = (before : List Turn) × (v : World S)
        × Reaches w outcome.executed outcome.place before v × MatchOption outcome.ending ((turns ≡ before) × (w' ≡ v))
        (λ ending. (more : List Turn) × StepsAt outcome.place v more (Err ending) w' × (turns ≡ before ++ more))

  -- there is a run from one world to another
  abbrev pub HasRun : World S → World S → Type 0
  HasRun w w' = (calls : List Call) × (replies : List Reply) × IsRunOf rules calls w replies w'

-- whether the instruction at which a program ends has taken fuel, as a number
abbrev pub last_instruction : Ending → ℕ
last_instruction (Returned value) = 1
last_instruction (Refused reply) = 1
last_instruction Undefined = 0
last_instruction OutOfFuel = 0

-- how many instructions of a program have taken fuel
abbrev pub instructions_of : Outcome → ℕ
instructions_of outcome = outcome.executed + option_map_or last_instruction outcome.ending 0

-- while metering is on, what was left before is what is left after a program, one for each instruction, and what its
-- turns were charged, which bounds what they have written, as it does for a run of calls that don't set the fuel
abbrev pub PaysProgramFuel : Meter → List Turn → Outcome → Meter → Type 0
PaysProgramFuel m turns outcome m' = (left : ℕ) → m.left ≡ Some left → (left' : ℕ) × (m'.left ≡ Some left')
    × IsSpent m.costs.bytes_copied_per_fuel left (left' + instructions_of outcome) turns

-- no more instructions are executed than there are steps, and as many where nothing else ended the program
pub record IsWithinSteps (steps : ℕ) (outcome : Outcome) : Type 0 where
  pub within : outcome.executed ≤ steps
  pub reached : outcome.ending ≡ None → outcome.executed ≡ steps
