-- The calls on registers and on vectors in them, also loads and stores: their replies, and what each does to registers.
use Rattle.std.specs.Prelude.{◌≡◌, ℕ, Option, Some, None, Result, Ok, Err, List, slice_get, slice_set}
use Rattle.std.specs.Option.{option_map, option_map_or, option_and_then}
use Rattle.wasmi_types.specs.declared.trap.TrapCode.{TrapCode}
use Rattle.wasmi_raw.specs.declared.raw.RawVal.{RawVal}
use Rattle.wasmi_raw.specs.RawVal.{vector_in, raw_of_vector}
use Rattle.wasmi_store.specs.Memory.{MemoryValue}
use Rattle.wasmi_ops.specs.declared.{vector.VectorLoadOp.VectorLoadOp, vector.LoadLaneOp.LoadLaneOp}
use Rattle.wasmi_ops.specs.VectorOps.{loaded_vector}
use Rattle.wasmi_ops.specs.LaneOps.{loaded_lane}
use Rattle.wasmi_machine.specs.declared.{calls.Reply.Reply, slots.Slot.Slot}
use Rattle.wasmi_machine.specs.declared.calls.Reply.TheVariants.{Done, Value, Trap, NoSuch}
use Rattle.wasmi_ops.specs.LoadStoreOps.{as_raw}
use Rattle.wasmi_machine.specs.MemoryEffects.{StoresMemoryAt}

-- the vector in a register, if there is one
abbrev pub vector_at : List RawVal → ℕ → Option ℕ
vector_at registers r = option_map vector_in (slice_get registers r)

-- a register, if there is one, takes the value that a call gives it; a trap keeps it; an absent operand gives nothing
abbrev pub SetsAt : Option (Result RawVal TrapCode) → Option RawVal → ℕ → List RawVal → Reply → List RawVal → Type 0
SetsAt None old dst registers reply registers' = (reply ≡ NoSuch) × (registers' ≡ registers)
SetsAt (Some given) None dst registers reply registers' = (reply ≡ NoSuch) × (registers' ≡ registers)
SetsAt (Some (Ok value)) (Some old) dst registers reply registers' =
    (reply ≡ Done) × (registers' ≡ slice_set registers dst value)
SetsAt (Some (Err trap)) (Some old) dst registers reply registers' = (reply ≡ Trap trap) × (registers' ≡ registers)

-- the register of an index takes what a call gives, if there is such a register
abbrev pub SetsRegister : ℕ → Option (Result RawVal TrapCode) → List RawVal → Reply → List RawVal → Type 0
SetsRegister dst given registers reply registers' =
    SetsAt given (slice_get registers dst) dst registers reply registers'

-- a vector as a register takes it
abbrev pub given_vector : ℕ → Result RawVal TrapCode
given_vector v = Ok (raw_of_vector v)

-- what a function of one vector gives a register, if the vector is there
abbrev pub of_one : (ℕ → ℕ) → Option ℕ → Option (Result RawVal TrapCode)
of_one row a = option_map (λ x. given_vector (row x)) a

-- what a function of two vectors gives a register, if both are there
abbrev pub of_two : (ℕ → ℕ → ℕ) → Option ℕ → Option ℕ → Option (Result RawVal TrapCode)
of_two row a b = option_and_then (λ x. of_one (row x) b) a

-- what a function of three vectors gives a register, if all three are there
abbrev pub of_three : (ℕ → ℕ → ℕ → ℕ) → Option ℕ → Option ℕ → Option ℕ → Option (Result RawVal TrapCode)
of_three row a b c = option_and_then (λ x. of_two (row x) b c) a

-- what a load of a vector from a memory gives a register, if the memory is there
abbrev pub vector_loaded : VectorLoadOp → ℕ → Option MemoryValue → Option (Result RawVal TrapCode)
vector_loaded op a memory = option_map (λ x. as_raw raw_of_vector (loaded_vector op x.bytes a)) memory

-- what a load of one lane of a vector from a memory gives a register, if the vector and the memory are there
abbrev pub lane_loaded : LoadLaneOp → ℕ → Option ℕ → Option MemoryValue → Option (Result RawVal TrapCode)
lane_loaded op a vector memory =
    option_and_then (λ v. option_map (λ x. as_raw raw_of_vector (loaded_lane op v x.bytes a)) memory) vector

-- the raw value that is asked of a register, if it is there
abbrev pub raw_reply : Option RawVal → Reply
raw_reply value = option_map_or (λ raw. Value raw) value NoSuch

-- a store of the bytes of a vector, if its register is there
abbrev pub StoresVectorAt : ℕ → ℕ → Option (List ℕ) → List (Slot MemoryValue) → Reply → List (Slot MemoryValue) → Type 0
StoresVectorAt k a None slots reply slots' = (reply ≡ NoSuch) × (slots' ≡ slots)
StoresVectorAt k a (Some stored) slots reply slots' = StoresMemoryAt k a stored slots reply slots'
