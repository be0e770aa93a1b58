-- The call that numbers stand for: a line for each kind.
use Rattle.std.specs.Prelude.{ℕ, ◌%◌, Option, Some, nat_eq, if◌then◌else◌, None, option_map, option_and_then}
use Rattle.std.specs.Result.{result_ok}
use Rattle.wasmi_machine.specs.declared.calls.Call.{Call}
use Rattle.wasmi_machine.specs.declared.calls.Call.TheVariants as call
use Rattle.wasmi_c.specs.declared.{machine.call_struct.CallStruct.CallStruct, instruction.binary.Binary.Binary, instruction.load.Load.Load, instruction.store.Store.Store, instruction.unary.Unary.Unary}
use Rattle.wasmi_c.specs.Types.{u32_of, val_type_of, if_flag, memory_type_of, reference_type_of, settings_of, table_type_of}
use Rattle.wasmi_typed.specs.declared.{global.Mutability.Mutability, typed_ref.TypedRawRef.TypedRawRef}
use Rattle.wasmi_typed.specs.declared.global.Mutability.TheVariants.{Const, Var}
use Rattle.wasmi_store.specs.Memory.{MemoryTypeValue}
use Rattle.wasmi_store.specs.Table.{TableTypeValue}
use Rattle.wasmi_ops.specs.declared.vector.TheConstants.{TERNARIES}
use Rattle.wasmi_c.specs.Instruction.{load_numbered, store_numbered, binary_numbered, op_numbered, extraction_of, lane_load_of, lane_store_of, replacement_of, lanes_of, unary_numbered}
use Rattle.wasmi_c.specs.declared.instruction.binary.Binary.TheVariants as binary
use Rattle.wasmi_c.specs.declared.instruction.load.Load.TheVariants as load
use Rattle.wasmi_c.specs.declared.instruction.store.Store.TheVariants as store
use Rattle.wasmi_c.specs.declared.instruction.unary.Unary.TheVariants as unary

module _ (numbers : CallStruct) where
  -- the reference with its type
  abbrev pub typed_reference_of : Option TypedRawRef
  typed_reference_of = option_map (λ ty. record { raw = numbers.reference; ty = ty }) (reference_type_of numbers.ty)

  -- the lowest byte of the value
  abbrev pub byte_of : ℕ
  byte_of = numbers.value.lo % 256

  -- whether a global can be written
  abbrev pub mutability_of : Mutability
  mutability_of = if nat_eq numbers.is_mutable 0 then Const else Var

  -- the maximum, if there is one
  abbrev pub maximum_of : Option ℕ
  maximum_of = if_flag numbers.has_maximum numbers.maximum

  -- the type of a memory, if there is such a type
  abbrev pub memory_type_in : Option MemoryTypeValue
  memory_type_in = memory_type_of (settings_of numbers.count maximum_of numbers.is_64 numbers.page_size_log2)

  -- the type of a table, if there is such a type
  abbrev pub table_type_in : Option TableTypeValue
  table_type_in = table_type_of numbers.ty numbers.count maximum_of numbers.is_64

  -- the call of a load: of an item, or of a vector into a register
  abbrev pub load_as : Load → Call
  load_as (load.Scalar op) = call.Load op numbers.index numbers.ptr numbers.offset
  load_as (load.Vector op) = call.VectorLoad op numbers.dst numbers.index numbers.ptr numbers.offset

  -- the call of a store: of an item, or of a vector from a register
  abbrev pub store_as : Store → Call
  store_as (store.Scalar op) = call.Store op numbers.index numbers.ptr numbers.offset numbers.value
  store_as store.V128Store = call.VectorStore numbers.a numbers.index numbers.ptr numbers.offset

  -- the call of an instruction of one register, which makes or takes a vector
  abbrev pub unary_as : Unary → Option Call
  unary_as (unary.Scalar op) = None
  unary_as (unary.Make op) = Some (call.Make op numbers.dst numbers.a)
  unary_as (unary.Vector op) = Some (call.Unary op numbers.dst numbers.a)
  unary_as (unary.Test op) = Some (call.Test op numbers.a)

  -- the call of an instruction of two registers, or of a shift by an amount
  abbrev pub binary_as : Binary → Option Call
  binary_as (binary.Scalar op) = None
  binary_as (binary.Vector op) = Some (call.Binary op numbers.dst numbers.a numbers.b)
  binary_as (binary.Shift op) = option_map (call.Shift op numbers.dst numbers.a) (u32_of numbers.count)

  -- a load of an item or of a vector
  abbrev pub load_call : Option Call
  load_call = option_map load_as (load_numbered numbers.op)

  -- a store of an item or of a vector
  abbrev pub store_call : Option Call
  store_call = option_map store_as (store_numbered numbers.op)

  -- an instruction of one register
  abbrev pub unary_call : Option Call
  unary_call = option_and_then unary_as (unary_numbered numbers.op)

  -- an instruction of two registers, or a shift by an amount
  abbrev pub binary_call : Option Call
  binary_call = option_and_then binary_as (binary_numbered numbers.op)

-- What tools/generate writes begins.
-- the call on a global or registers, if the kind is of one and the operands are ones that there are
unfoldable pub value_call : CallStruct → Option Call
value_call numbers = if nat_eq numbers.kind 23 then unary_call numbers
    else if nat_eq numbers.kind 18
    then option_map (λ ty. call.NewGlobal numbers.value (record { content = ty; mutability = mutability_of numbers }))
    (val_type_of numbers.ty)
    else if nat_eq numbers.kind 19
    then option_map (λ value. call.SetGlobal numbers.index (record { ty = value; raw = numbers.value }))
    (val_type_of numbers.ty)
    else if nat_eq numbers.kind 20 then Some (call.GetGlobal numbers.index)
    else if nat_eq numbers.kind 21 then Some (call.SetRegister numbers.dst numbers.value)
    else if nat_eq numbers.kind 22 then Some (call.GetRegister numbers.a)
    else if nat_eq numbers.kind 25
    then option_map (λ op. call.Ternary op numbers.dst numbers.a numbers.b numbers.c) (op_numbered TERNARIES numbers.op)
    else if nat_eq numbers.kind 26
    then option_map (λ op. call.Extract op numbers.a) (result_ok (extraction_of numbers.op numbers.lane))
    else if nat_eq numbers.kind 27
    then option_map (λ op. call.Replace op numbers.dst numbers.a numbers.b)
    (result_ok (replacement_of numbers.op numbers.lane))
    else if nat_eq numbers.kind 28
    then option_map (λ lanes. call.Shuffle numbers.dst numbers.a numbers.b lanes) (lanes_of numbers.lanes)
    else None

-- the call on a table or an element segment, else on a global or registers
unfoldable pub table_call : CallStruct → Option Call
table_call numbers = if nat_eq numbers.kind 9
    then option_and_then (λ ty. option_map (λ init. call.NewTable ty init) (typed_reference_of numbers))
    (table_type_in numbers)
    else if nat_eq numbers.kind 10
    then option_map (λ init. call.GrowTable numbers.index numbers.count init) (typed_reference_of numbers)
    else if nat_eq numbers.kind 11 then Some (call.DropTable numbers.index)
    else if nat_eq numbers.kind 12 then Some (call.GetElement numbers.index numbers.to)
    else if nat_eq numbers.kind 13
    then option_map (λ value. call.SetElement numbers.index numbers.to value) (typed_reference_of numbers)
    else if nat_eq numbers.kind 14
    then option_and_then (λ src. option_map (λ len. call.InitTable numbers.index numbers.source numbers.to src len)
    (u32_of numbers.count)) (u32_of numbers.from)
    else if nat_eq numbers.kind 15
    then Some (call.CopyTable numbers.index numbers.to numbers.source numbers.from numbers.count)
    else if nat_eq numbers.kind 16
    then option_map (λ value. call.FillTable numbers.index numbers.to value numbers.count) (typed_reference_of numbers)
    else if nat_eq numbers.kind 17 then Some (call.DropItems numbers.index)
    else value_call numbers

-- the call that writes over a range of a memory or drops a data segment, else one of those above
unfoldable pub range_call : CallStruct → Option Call
range_call numbers = if nat_eq numbers.kind 29
    then Some (call.FillMemory numbers.index numbers.to (byte_of numbers) numbers.count)
    else if nat_eq numbers.kind 30
    then Some (call.CopyMemory numbers.index numbers.to numbers.source numbers.from numbers.count)
    else if nat_eq numbers.kind 31
    then option_and_then (λ src. option_map (λ len. call.InitMemory numbers.index numbers.source numbers.to src len)
    (u32_of numbers.count)) (u32_of numbers.from)
    else if nat_eq numbers.kind 32 then Some (call.DropData numbers.index)
    else table_call numbers

-- the call that numbers stand for, if there is one
unfoldable pub call_of : CallStruct → Option Call
call_of numbers = if nat_eq numbers.kind 5 then load_call numbers
    else if nat_eq numbers.kind 6 then store_call numbers
    else if nat_eq numbers.kind 24 then binary_call numbers
    else if nat_eq numbers.kind 0 then Some (call.SetFuel numbers.count)
    else if nat_eq numbers.kind 1 then Some call.GetFuel
    else if nat_eq numbers.kind 2 then option_map (λ ty. call.NewMemory ty) (memory_type_in numbers)
    else if nat_eq numbers.kind 3 then Some (call.GrowMemory numbers.index numbers.count)
    else if nat_eq numbers.kind 4 then Some (call.DropMemory numbers.index)
    else if nat_eq numbers.kind 7
    then option_map (λ op. call.LoadLane op numbers.dst numbers.a numbers.index numbers.ptr numbers.offset)
    (result_ok (lane_load_of numbers.op numbers.lane))
    else if nat_eq numbers.kind 8
    then option_map (λ op. call.StoreLane op numbers.a numbers.index numbers.ptr numbers.offset)
    (result_ok (lane_store_of numbers.op numbers.lane))
    else range_call numbers

-- What tools/generate writes ends.
