-- The reply to one call as a struct of plain numbers.
use Rattle.std.specs.Prelude.{ℕ, Some, None, length}
use Rattle.wasmi_types.specs.Trap.{code_number}
use Rattle.wasmi_types.specs.declared.value.RefType.{RefType}
use Rattle.wasmi_types.specs.declared.value.RefType.TheVariants.{Func, Extern}
use Rattle.wasmi_raw.specs.RawVal.{raw_of}
use Rattle.wasmi_raw.specs.declared.raw.RawVal.{RawVal}
use Rattle.wasmi_meter.specs.declared.{error.MemoryError.MemoryError, fuel.FuelError.FuelError}
use Rattle.wasmi_meter.specs.declared.fuel.FuelError.TheVariants as fuel
use Rattle.wasmi_machine.specs.declared.calls.Reply.{Reply}
use Rattle.wasmi_machine.specs.declared.calls.Reply.TheVariants as reply
use Rattle.wasmi_c.specs.MemoryCalls.{memory_fuel_needed}
use Rattle.wasmi_c.specs.TableCalls.{table_fuel_needed}
use Rattle.wasmi_c.specs.Status.{memory_status, table_status, fuel_status, global_status, segment_status}
use Rattle.wasmi_c.specs.declared.status.TheConstants.{DONE, NO_ELEMENT, NO_REGION, NO_ROOM, NO_SUCH}
use Rattle.wasmi_c.specs.declared.machine.reply_struct.ReplyStruct.{ReplyStruct}

-- a reply with a number
abbrev pub with_number : ℕ → ℕ → ReplyStruct
with_number status number = record { value = raw_of 0; number = number; reference = 0; ty = 0; status = status }

-- a reply that has a status and nothing else
abbrev pub only : ℕ → ReplyStruct
only status = with_number status 0

-- a reply with a value
abbrev pub with_value : RawVal → ReplyStruct
with_value value = record (only DONE) { value = value }

-- the number of a reference type in a reply as a struct, which is its number among the value types
abbrev pub reference_number : RefType → ℕ
reference_number Func = 5
reference_number Extern = 6

-- the number in the reply to a refused call on the meter: the fuel that it needs, else 0
abbrev pub meter_fuel : FuelError → ℕ
meter_fuel (fuel.OutOfFuel required) = required
meter_fuel error = 0

-- why a call on a memory was refused
abbrev pub memory_refusal : MemoryError → ReplyStruct
memory_refusal error = with_number (memory_status error) (memory_fuel_needed error 0)

-- why a call on the meter was refused
abbrev pub fuel_refusal : FuelError → ReplyStruct
fuel_refusal error = with_number (fuel_status error) (meter_fuel error)

-- the status of a reply
abbrev pub status_of : Reply → ℕ
status_of reply.Done = DONE
status_of (reply.Made index) = DONE
status_of (reply.Value value) = DONE
status_of (reply.Number number) = DONE
status_of (reply.Bytes bytes) = DONE
status_of (reply.Reference (Some element)) = DONE
status_of (reply.Reference None) = NO_ELEMENT
status_of (reply.Memory error) = memory_status error
status_of (reply.Table error) = table_status error
status_of (reply.Fuel error) = fuel_status error
status_of (reply.Global error) = global_status error
status_of (reply.Segment error) = segment_status error
status_of (reply.Trap code) = code_number code
status_of reply.NoSuch = NO_SUCH
status_of reply.NoRegion = NO_REGION
status_of reply.NoRoom = NO_ROOM

-- the number of a reply: what was made, a size, fuel, how many bytes, or the fuel that a refused call needs; else 0
abbrev pub number_of : Reply → ℕ
number_of (reply.Made index) = index
number_of (reply.Number number) = number
number_of (reply.Bytes bytes) = length bytes
number_of (reply.Memory error) = memory_fuel_needed error 0
number_of (reply.Table error) = table_fuel_needed error 0
number_of (reply.Fuel error) = meter_fuel error
number_of full = 0

-- a reply as a struct
abbrev pub reply_struct : Reply → ReplyStruct
reply_struct (reply.Value value) = with_value value
reply_struct (reply.Reference (Some element)) =
    record (only DONE) { reference = element.raw; ty = reference_number element.ty }
reply_struct full = with_number (status_of full) (number_of full)
