-- The instruction, load or store that has a number, its name, what a call of it gives on values, on arrays and on a
-- memory, step by step, and what it leaves where C reads it.
use Rattle.std.specs.Prelude.{◌≡◌, ℕ, ◌==◌, ◌&&◌, if◌then◌else◌, List, map, length, slice_get, codes, Option, Result, Ok, Err, MatchResult, ◌+◌, nat_lt, ok_or}
use Rattle.std.specs.Simd.Lanes.{zip2}
use Rattle.std.specs.Int.{w32}
use Rattle.std.specs.List.{list_all}
use Rattle.wasmi_types.specs.declared.trap.TrapCode.{TrapCode}
use Rattle.wasmi_types.specs.Trap.{code_number}
use Rattle.wasmi_c.specs.declared.status.TheConstants.{DONE, NO_LANE, LENGTHS_DIFFER, UNKNOWN}
use Rattle.wasmi_c.specs.declared.{instruction.result.Refusal.Refusal, instruction.result.InstructionResult.InstructionResult, instruction.load.Load.Load, instruction.store.Store.Store, instruction.unary.Unary.Unary, instruction.binary.Binary.Binary}
use Rattle.wasmi_c.specs.declared.instruction.result.Refusal.TheVariants.{Trap, NoLane, LengthsDiffer, Unknown}
use Rattle.wasmi_raw.specs.declared.raw.RawVal.{RawVal}
use Rattle.wasmi_raw.specs.RawVal.{raw_of, raw_of_vector, vector_in, unsigned_in}
use Rattle.wasmi_types.specs.Access.{overwrite}
use Rattle.wasmi_types.specs.Numbers.{le_bytes}
use Rattle.wasmi_types.specs.declared.trap.TrapCode.TheVariants.{MemoryOutOfBounds}
use Rattle.wasmi_access.specs.LoadStore.{accessed}
use Rattle.wasmi_ops.specs.LoadStoreOps.{as_raw, loaded_raw, stored_bytes, load_name, store_name}
use Rattle.wasmi_scalar_ops.specs.ScalarOps.{unary_raw, binary_raw, scalar_unary_name, scalar_binary_name}
use Rattle.wasmi_ops.specs.VectorOps.{loaded_vector, made_vector, unary_vector, tested_raw, binary_vector, shifted_vector, ternary_vector, vector_load_name, make_name, unary_name, test_name, binary_name, shift_name}
use Rattle.wasmi_c.specs.declared.instruction.numbers.TheConstants.{LOAD_INSTRUCTIONS, STORE_INSTRUCTIONS, UNARY_INSTRUCTIONS, BINARY_INSTRUCTIONS}
use Rattle.wasmi_c.specs.declared.instruction.load.Load.TheVariants as load
use Rattle.wasmi_c.specs.declared.instruction.store.Store.TheVariants as store
use Rattle.wasmi_c.specs.declared.instruction.unary.Unary.TheVariants as one
use Rattle.wasmi_c.specs.declared.instruction.binary.Binary.TheVariants as two
use Rattle.wasmi_ops.specs.declared.{vector.TernaryOp.TernaryOp, vector.LoadLaneOp.LoadLaneOp, vector.StoreLaneOp.StoreLaneOp, vector.ExtractOp.ExtractOp, vector.ReplaceOp.ReplaceOp}
use Rattle.wasmi_ops.specs.declared.vector.TheConstants.{TERNARIES, EXTRACTIONS, LANE_LOADS, LANE_STORES, REPLACEMENTS}
use Rattle.wasmi_ops.specs.LaneOps.{extract_op, load_lane_op, replace_op, store_lane_op, extracted_raw, replaced_vector, loaded_lane, stored_lane}
use Rattle.wasmi_lanewise.specs.VectorTable as vector
use Rattle.wasmi_c.specs.Types.{where_true}

-- the status of a call of an instruction that writes nothing: the number of the trap, or which argument is wrong
abbrev pub refusal_status : Refusal → ℕ
refusal_status (Trap code) = code_number code
refusal_status NoLane = NO_LANE
refusal_status LengthsDiffer = LENGTHS_DIFFER
refusal_status Unknown = UNKNOWN

-- a call leaves the value that is expected and the status 0, or what was there and the status of the refusal
abbrev pub Leaves : {V : Type 0} → Result V Refusal → V → V → ℕ → Type 0
Leaves expected old new status = MatchResult expected
    (λ value. (status ≡ DONE) × (new ≡ value))
    (λ refusal. (status ≡ refusal_status refusal) × (new ≡ old))

-- the next step, if this one isn't refused: what a do-block joins its lines by
infixl 10 ◌>>=◌
abbrev pub ◌>>=◌ : {A B : Type 0} → Result A Refusal → (A → Result B Refusal) → Result B Refusal
Ok value >>= next = next value
Err refusal >>= next = Err refusal

-- the instruction that has a number in a list of names with their instructions: its place
unfoldable pub op_numbered : {Name Op : Type 0} → List (Name × Op) → ℕ → Option Op
op_numbered list number = slice_get (map (λ entry. entry.1) list) number

-- the names of the instructions of such a list, by what names an instruction
abbrev pub names_in : {Name Op : Type 0} → (Op → List ℕ) → List (Name × Op) → List (List ℕ)
names_in name_of list = map (λ entry. name_of entry.1) list

-- the instruction that was found by its number
abbrev pub known : {Op : Type 0} → Option Op → Result Op Refusal
known found = ok_or found Unknown

-- what an instruction gives, with its trap as a refusal
abbrev pub or_trap : {V : Type 0} → Result V TrapCode → Result V Refusal
or_trap (Ok value) = Ok value
or_trap (Err trap) = Err (Trap trap)

-- a call leaves the value that an instruction gives and the status 0, or what was there and the number of the trap
abbrev pub Gives : {V : Type 0} → Result V TrapCode → V → V → ℕ → Type 0
Gives given old new status = Leaves (or_trap given) old new status

-- what a function gives of each element of an array, if as many values are to be written
unfoldable pub each_of : {A B : Type 0} → (A → B) → List A → ℕ → Result (List B) Refusal
each_of f a count = if count == length a then Ok (map f a) else Err LengthsDiffer

-- what a function gives of the elements of two arrays at each index, if both have as many as are to be written
unfoldable pub each_of_two : {A B C : Type 0} → (A → B → C) → List A → List B → ℕ → Result (List C) Refusal
each_of_two f a b count = if (length b == length a) && (count == length a) then Ok (zip2 f a b) else Err LengthsDiffer

-- the list of what a function gives of the elements of three lists at each index
abbrev pub zip3 : {A B C D : Type 0} → (A → B → C → D) → List A → List B → List C → List D
zip3 f xs ys zs = zip2 (λ g z. g z) (zip2 f xs ys) zs

-- what a function gives of the elements of three arrays at each index, if all have as many as are to be written
unfoldable pub each_of_three
    : {A B C D : Type 0} → (A → B → C → D) → List A → List B → List C → ℕ → Result (List D) Refusal
each_of_three f a b c count =
    if (length b == length a) && (length c == length a) && (count == length a) then Ok (zip3 f a b c)
    else Err LengthsDiffer

-- a value with the status 0, or the value 0 with the number of the trap
abbrev pub result_of : Result RawVal TrapCode → InstructionResult
result_of (Ok value) = record { value = value; status = DONE }
result_of (Err trap) = record { value = raw_of 0; status = code_number trap }

-- the value that a load from an address gives, or the trap
abbrev pub loaded_value : Load → List ℕ → ℕ → Result RawVal TrapCode
loaded_value (load.Scalar op) bytes a = loaded_raw op bytes a
loaded_value (load.Vector op) bytes a = as_raw raw_of_vector (loaded_vector op bytes a)

-- the bytes that a store writes
abbrev pub stored_value : Store → RawVal → List ℕ
stored_value (store.Scalar op) value = stored_bytes op value
stored_value store.V128Store value = le_bytes 16 (vector_in value)

-- the name of a load
abbrev pub name_of_load : Load → List ℕ
name_of_load (load.Scalar op) = load_name op
name_of_load (load.Vector op) = vector_load_name op

-- the name of a store
abbrev pub name_of_store : Store → List ℕ
name_of_store (store.Scalar op) = store_name op
name_of_store store.V128Store = codes "v128_store"

-- the load that has a number
unfoldable pub load_numbered : ℕ → Option Load
load_numbered number = slice_get LOAD_INSTRUCTIONS number

-- the store that has a number
unfoldable pub store_numbered : ℕ → Option Store
store_numbered number = slice_get STORE_INSTRUCTIONS number

-- a memory after bytes are written at an address, or the trap where it ends before them
abbrev pub memory_after : List ℕ → ℕ → List ℕ → Result (List ℕ) Refusal
memory_after memory a bytes = ok_or (accessed a (overwrite memory a bytes)) (Trap MemoryOutOfBounds)

-- a call leaves a memory with bytes written at an address and the status 0, or as it was and the number of the trap
abbrev pub StoresBytes : List ℕ → ℕ → List ℕ → List ℕ → ℕ → Type 0
StoresBytes memory a bytes memory' status = Leaves (memory_after memory a bytes) memory memory' status

-- what a load gives by its number
abbrev pub load_result : ℕ → List ℕ → ℕ → Result RawVal Refusal
load_result number memory a = do op ← known (load_numbered number); or_trap (loaded_value op memory a)

-- what a load gives for one pointer of an array, plus an offset
unfoldable pub load_outcome : Load → List ℕ → ℕ → ℕ → InstructionResult
load_outcome op memory offset ptr = result_of (loaded_value op memory (ptr + offset))

-- what a load gives by its number for each pointer of an array, with one offset
abbrev pub load_results : ℕ → List ℕ → List ℕ → ℕ → ℕ → Result (List InstructionResult) Refusal
load_results number memory ptrs offset count =
    do op ← known (load_numbered number); each_of (load_outcome op memory offset) ptrs count

-- the memory after a store by its number
abbrev pub store_result : ℕ → List ℕ → ℕ → RawVal → Result (List ℕ) Refusal
store_result number memory a value =
    do op ← known (store_numbered number); memory_after memory a (stored_value op value)

-- the value that an instruction of one operand gives
abbrev pub unary_value : Unary → RawVal → RawVal
unary_value (one.Scalar op) a = unary_raw op a
unary_value (one.Make op) a = raw_of_vector (made_vector op a)
unary_value (one.Vector op) a = raw_of_vector (unary_vector op (vector_in a))
unary_value (one.Test op) a = tested_raw op (vector_in a)

-- the name of an instruction of one operand
abbrev pub name_of_unary : Unary → List ℕ
name_of_unary (one.Scalar op) = scalar_unary_name op
name_of_unary (one.Make op) = make_name op
name_of_unary (one.Vector op) = unary_name op
name_of_unary (one.Test op) = test_name op

-- the instruction of one operand that has a number
unfoldable pub unary_numbered : ℕ → Option Unary
unary_numbered number = slice_get UNARY_INSTRUCTIONS number

-- what an instruction of one operand gives by its number
abbrev pub unary_result : ℕ → RawVal → Result RawVal Refusal
unary_result number a = do op ← known (unary_numbered number); Ok (unary_value op a)

-- what an instruction of one operand gives by its number for each element of an array
abbrev pub unary_results : ℕ → List RawVal → ℕ → Result (List RawVal) Refusal
unary_results number a count = do op ← known (unary_numbered number); each_of (unary_value op) a count

-- the value that an instruction of two operands gives, or its trap
abbrev pub binary_value : Binary → RawVal → RawVal → Result RawVal TrapCode
binary_value (two.Scalar op) a b = binary_raw op a b
binary_value (two.Vector op) a b = Ok (raw_of_vector (binary_vector op (vector_in a) (vector_in b)))
binary_value (two.Shift op) a b = Ok (raw_of_vector (shifted_vector op (vector_in a) (unsigned_in w32 b)))

-- the name of an instruction of two operands
abbrev pub name_of_binary : Binary → List ℕ
name_of_binary (two.Scalar op) = scalar_binary_name op
name_of_binary (two.Vector op) = binary_name op
name_of_binary (two.Shift op) = shift_name op

-- the instruction of two operands that has a number
unfoldable pub binary_numbered : ℕ → Option Binary
binary_numbered number = slice_get BINARY_INSTRUCTIONS number

-- what an instruction of two operands gives by its number
abbrev pub binary_result : ℕ → RawVal → RawVal → Result RawVal Refusal
binary_result number a b = do op ← known (binary_numbered number); or_trap (binary_value op a b)

-- what an instruction of two operands gives for one element of an array
unfoldable pub binary_outcome : Binary → RawVal → RawVal → InstructionResult
binary_outcome op a b = result_of (binary_value op a b)

-- what an instruction of two operands gives by its number for the elements of two arrays at each index
abbrev pub binary_results : ℕ → List RawVal → List RawVal → ℕ → Result (List InstructionResult) Refusal
binary_results number a b count = do op ← known (binary_numbered number); each_of_two (binary_outcome op) a b count

-- the value that a call of an instruction of three vectors gives
abbrev pub ternary_value : TernaryOp → RawVal → RawVal → RawVal → RawVal
ternary_value op a b c = raw_of_vector (ternary_vector op (vector_in a) (vector_in b) (vector_in c))

-- what an instruction of three vectors gives by its number
abbrev pub ternary_result : ℕ → RawVal → RawVal → RawVal → Result RawVal Refusal
ternary_result number a b c = do op ← known (op_numbered TERNARIES number); Ok (ternary_value op a b c)

-- what an instruction of three vectors gives by its number for the elements of three arrays at each index
abbrev pub ternary_results : ℕ → List RawVal → List RawVal → List RawVal → ℕ → Result (List RawVal) Refusal
ternary_results number a b c count =
    do op ← known (op_numbered TERNARIES number); each_of_three (ternary_value op) a b c count

-- the instruction that has a number in a list of kinds, on the lane of an index
abbrev pub op_on_lane
    : {Name Kind Op : Type 0} → (Kind → ℕ → Option Op) → List (Name × Kind) → ℕ → ℕ → Result Op Refusal
op_on_lane on kinds number lane = do kind ← known (op_numbered kinds number); ok_or (on kind lane) NoLane

-- the extraction that has a number, on the lane of an index
abbrev pub extraction_of : ℕ → ℕ → Result ExtractOp Refusal
extraction_of number lane = op_on_lane extract_op EXTRACTIONS number lane

-- the replacement that has a number, on the lane of an index
abbrev pub replacement_of : ℕ → ℕ → Result ReplaceOp Refusal
replacement_of number lane = op_on_lane replace_op REPLACEMENTS number lane

-- the load of a lane that has a number, on the lane of an index
abbrev pub lane_load_of : ℕ → ℕ → Result LoadLaneOp Refusal
lane_load_of number lane = op_on_lane load_lane_op LANE_LOADS number lane

-- the store of a lane that has a number, on the lane of an index
abbrev pub lane_store_of : ℕ → ℕ → Result StoreLaneOp Refusal
lane_store_of number lane = op_on_lane store_lane_op LANE_STORES number lane

-- the value that a call of an extraction gives
abbrev pub extracted_value : ExtractOp → RawVal → RawVal
extracted_value op a = extracted_raw op (vector_in a)

-- the value that a replacement gives
unfoldable pub replaced_value : ReplaceOp → RawVal → RawVal → RawVal
replaced_value op a item = raw_of_vector (replaced_vector op (vector_in a) item)

-- what an extraction gives by its number and its lane
abbrev pub extract_result : ℕ → ℕ → RawVal → Result RawVal Refusal
extract_result number lane a = do op ← extraction_of number lane; Ok (extracted_value op a)

-- what an extraction gives by its number and its lane for each vector of an array
abbrev pub extract_results : ℕ → ℕ → List RawVal → ℕ → Result (List RawVal) Refusal
extract_results number lane a count = do op ← extraction_of number lane; each_of (extracted_value op) a count

-- what a replacement gives by its number and its lane
abbrev pub replace_result : ℕ → ℕ → RawVal → RawVal → Result RawVal Refusal
replace_result number lane a item = do op ← replacement_of number lane; Ok (replaced_value op a item)

-- what a replacement gives by its number and its lane for each vector of an array and the item at its index
abbrev pub replace_results : ℕ → ℕ → List RawVal → List RawVal → ℕ → Result (List RawVal) Refusal
replace_results number lane a items count =
    do op ← replacement_of number lane; each_of_two (replaced_value op) a items count

-- what a load of a lane gives by its number and its lane
abbrev pub load_lane_result : ℕ → ℕ → List ℕ → ℕ → RawVal → Result RawVal Refusal
load_lane_result number lane memory address a =
    do op ← lane_load_of number lane; or_trap (as_raw raw_of_vector (loaded_lane op (vector_in a) memory address))

-- the memory after a store of a lane by its number and its lane
abbrev pub store_lane_result : ℕ → ℕ → List ℕ → ℕ → RawVal → Result (List ℕ) Refusal
store_lane_result number lane memory address a =
    do op ← lane_store_of number lane; memory_after memory address (stored_lane op (vector_in a))

-- the lanes of two vectors of bytes that have these indices, if there are such lanes
abbrev pub lanes_of : List ℕ → Option (List ℕ)
lanes_of indices = where_true (list_all (λ index. nat_lt index 32)) indices

-- what the shuffle gives, if each index is one of a lane
abbrev pub shuffle_result : RawVal → RawVal → List ℕ → Result RawVal Refusal
shuffle_result a b indices =
    do lanes ← ok_or (lanes_of indices) NoLane; Ok (raw_of_vector (vector.shuffle (vector_in a) (vector_in b) lanes))
