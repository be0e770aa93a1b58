-- No text that is printed at once is long: the length of numbers, words and lines.
use Rattle.std.proofs.Common.{ℕ, zero, suc, ◌+◌, ◌<◌, ◌≤◌, ◌/◌, ◌%◌, ◌==◌, ◌++◌, ◌∷◌, List, [], Bool, true, false, length, length-append, codes, Some, if◌then◌else◌, lit≤, lit<, arith}
use Rattle.wasmi_script.proofs.Common.{decimal, digits, digits_onto, digit_glyph, Call, Reply, Parse, BadCommand, kind_text, head_text, error_text}
use Rattle.wasmi_types.specs.declared.trap.TrapCode.TheVariants as trap
use Rattle.wasmi_types.specs.declared.value.RefType.{RefType}
use Rattle.wasmi_types.specs.declared.value.RefType.TheVariants.{Func, Extern}
use Rattle.wasmi_meter.specs.declared.error.MemoryError.TheVariants as memory
use Rattle.wasmi_meter.specs.declared.error.TableError.TheVariants as table
use Rattle.wasmi_meter.specs.declared.fuel.FuelError.TheVariants as fuel
use Rattle.wasmi_typed.specs.declared.global.GlobalError.TheVariants.{ImmutableWrite}
use Rattle.wasmi_store.specs.declared.table.element.SegmentError.TheVariants as segment
use Rattle.wasmi_machine.specs.declared.calls.Call.TheVariants.{GetFuel}
use Rattle.wasmi_machine.specs.declared.calls.Reply.TheVariants as reply
use Rattle.wasmi_script.specs.declared.error.ReplayError.{ReplayError}
use Rattle.wasmi_operands.specs.Names.{reference_word}

-- the digits of a number are at most 64
digits_short : (k base : ℕ) (upper : Bool) (n : ℕ) (acc : List ℕ)
    → length (digits_onto k base upper n acc) ≤ k + length acc
digits_short zero base upper n acc = omega arith
digits_short (suc k) base upper n acc =
    let glyph = digit_glyph upper (n % base) in
    elim (n / base == 0) as
    (λ b. length (if b then glyph ∷ acc else digits_onto k base upper (n / base) (glyph ∷ acc)) ≤ suc k + length acc) [
      | true ↦ omega arith
      | false ↦ omega (arith, digits_short k base upper (n / base) (glyph ∷ acc))
    ]

-- a number in decimal has at most 64 digits
decimal_short : (n : ℕ) → length (decimal n) ≤ 64
unfolding digits
decimal_short n = digits_short 64 10 false n []

-- the word for what a call makes has at most 7 bytes
kind_short : (call : Call) → length (kind_text call) ≤ 7
kind_short GetFuel = lit≤ tt
kind_short call = lit≤ tt

-- the word of a reference type has at most 6 bytes
reference_short : (ty : RefType) → length (reference_word ty) ≤ 6
reference_short Func = lit≤ tt
reference_short Extern = lit≤ tt

-- the text of what a tenant holds is short
pub tenant_short : (tenant bytes elements : ℕ) → length (codes "held "
    ++ (decimal tenant ++ (codes " " ++ (decimal bytes ++ (codes " " ++ decimal elements))))) < 256
tenant_short tenant bytes elements =
    simp length-append (omega (arith, decimal_short tenant, decimal_short bytes, decimal_short elements))

-- the text of what is held is short
pub held_short : (bytes elements : ℕ)
    → length (codes "held " ++ (decimal bytes ++ (codes " " ++ decimal elements))) < 256
held_short bytes elements = simp length-append (omega (arith, decimal_short bytes, decimal_short elements))

-- the number of a byte is short
pub byte_short : (byte : ℕ) → length (codes " " ++ decimal byte) < 256
byte_short byte = omega (arith, decimal_short byte)

-- a reply without the numbers of its bytes is short
pub head_short : (call : Call) (reply : Reply) → length (head_text call reply) < 256
head_short call (reply.Made index) = simp length-append (omega (arith, kind_short call, decimal_short index))
head_short call (reply.Value value) = simp length-append (omega (arith, decimal_short value.lo, decimal_short value.hi))
head_short call (reply.Number number) = omega (arith, decimal_short number)
head_short call (reply.Reference (Some reference)) =
    simp length-append (omega (arith, reference_short reference.ty, decimal_short reference.raw))
head_short call (reply.Memory (memory.OutOfFuel required)) = omega (arith, decimal_short required)
head_short call (reply.Table (table.OutOfFuel required)) = omega (arith, decimal_short required)
head_short call (reply.Fuel (fuel.OutOfFuel required)) = omega (arith, decimal_short required)
head_short call (reply.Global ImmutableWrite) = lit< tt
head_short call (reply.Segment segment.TooManyItems) = lit< tt
head_short call (reply.Trap trap.OutOfFuel) = lit< tt
head_short call reply = lit< tt

-- the text of an error is short
pub error_short : (error : ReplayError) → length (error_text error) < 256
error_short (Parse (BadCommand number)) = simp length-append (omega (arith, decimal_short number))
error_short error = lit< tt
