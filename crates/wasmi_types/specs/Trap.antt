-- The number and the text of each trap code; what the reason of a trap carries, and its text.
use Rattle.std.specs.Prelude.{◌≡◌, ℕ, ◌<◌, ◌⊎◌, List, Result, Ok, IsErr, codes, ◌++◌, Option, Some, None, ℤ, string_bytes}
use Rattle.wasmi_types.specs.declared.{trap.TrapCode.TrapCode, trap.InvalidTrapCode.InvalidTrapCode, trap.TrapReason.TrapReason}
use Rattle.wasmi_types.specs.declared.trap.TrapCode.TheVariants.{UnreachableCodeReached, MemoryOutOfBounds, TableOutOfBounds, IndirectCallToNull, IntegerDivisionByZero, IntegerOverflow, BadConversionToInteger, StackOverflow, BadSignature, OutOfFuel, GrowthOperationLimited, OutOfSystemMemory}
use Rattle.std.specs.Fmt.{signed_decimal}
use Rattle.wasmi_types.specs.declared.trap.TrapReason.TheVariants.{InstructionTrap, I32Exit, Message, Host}

-- the row of a trap code: the number that stands for it, and its text
abbrev pub code_row : TrapCode → ℕ × List ℕ
code_row UnreachableCodeReached = (1, codes "wasm `unreachable` instruction executed")
code_row MemoryOutOfBounds = (2, codes "out of bounds memory access")
code_row TableOutOfBounds = (3, codes "undefined element: out of bounds table access")
code_row IndirectCallToNull = (4, codes "uninitialized element 2")
code_row IntegerDivisionByZero = (5, codes "integer divide by zero")
code_row IntegerOverflow = (6, codes "integer overflow")
code_row BadConversionToInteger = (7, codes "invalid conversion to integer")
code_row StackOverflow = (8, codes "call stack exhausted")
code_row BadSignature = (9, codes "indirect call type mismatch")
code_row OutOfFuel = (10, codes "all fuel consumed by WebAssembly")
code_row GrowthOperationLimited = (11, codes "growth operation limited")
code_row OutOfSystemMemory = (12, codes "out of system memory")

-- the number that stands for a trap code
abbrev pub code_number : TrapCode → ℕ
code_number code = (code_row code).0

-- the text of a trap code
abbrev pub code_message : TrapCode → List ℕ
code_message code = (code_row code).1

-- the answer is the trap code with this number, or the error where no trap code has it
pub record IsCodeOf (number : ℕ) (answer : Result TrapCode InvalidTrapCode) : Type 0 where
  pub known : (code : TrapCode) → number ≡ code_number code → answer ≡ Ok code
  pub unknown : (number ≡ 0) ⊎ (12 < number) → IsErr answer

-- the trap code of a reason, if it is one
abbrev pub code_of : {H : Type 0} → TrapReason H → Option TrapCode
code_of (InstructionTrap code) = Some code
code_of _ = None

-- the exit status of a reason, if it is one
abbrev pub exit_status_of : {H : Type 0} → TrapReason H → Option ℤ
exit_status_of (I32Exit status) = Some status
exit_status_of _ = None

-- the host's error of a reason, if it is one
abbrev pub host_error_of : {H : Type 0} → TrapReason H → Option H
host_error_of (Host error) = Some error
host_error_of _ = None

-- the reason with another error of the host, if it carries one
abbrev pub with_host_error : {H : Type 0} → TrapReason H → H → TrapReason H
with_host_error (Host error) other = Host other
with_host_error reason other = reason

-- the text of a reason, where `host_text` is that of the host's error
abbrev pub text_of : {H : Type 0} → (H → Option (List ℕ)) → TrapReason H → Option (List ℕ)
text_of host_text (InstructionTrap code) = Some (code_message code)
text_of host_text (I32Exit status) = Some (codes "Exited with i32 exit status " ++ signed_decimal status)
text_of host_text (Message message) = Some (string_bytes message)
text_of host_text (Host error) = host_text error
