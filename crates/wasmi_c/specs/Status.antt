-- The statuses of refused calls, which are constants of `status.rt`.
use Rattle.std.specs.Prelude.{ℕ}
use Rattle.wasmi_typed.specs.declared.global.GlobalError.{GlobalError}
use Rattle.wasmi_typed.specs.declared.global.GlobalError.TheVariants.{ImmutableWrite, TypeMismatch}
use Rattle.wasmi_meter.specs.declared.{error.MemoryError.MemoryError, error.TableError.TableError, fuel.FuelError.FuelError}
use Rattle.wasmi_meter.specs.declared.error.MemoryError.TheVariants as memory
use Rattle.wasmi_meter.specs.declared.error.TableError.TheVariants as table
use Rattle.wasmi_meter.specs.declared.fuel.FuelError.TheVariants as fuel
use Rattle.wasmi_store.specs.declared.table.element.SegmentError.{SegmentError}
use Rattle.wasmi_store.specs.declared.table.element.SegmentError.TheVariants as segment
use Rattle.wasmi_c.specs.declared.status.TheConstants as status

-- What tools/generate writes begins.
-- the status of a refused call on a memory
abbrev pub memory_status : MemoryError → ℕ
memory_status memory.OutOfSystemMemory = status.MEMORY_OUT_OF_MEMORY
memory_status memory.OutOfBoundsGrowth = status.MEMORY_GROWTH
memory_status memory.OutOfBoundsAccess = status.MEMORY_ACCESS
memory_status memory.InvalidMemoryType = status.MEMORY_TYPE
memory_status memory.InvalidStaticBufferSize = status.MEMORY_REGION_TOO_SHORT
memory_status memory.ResourceLimiterDeniedAllocation = status.MEMORY_DENIED
memory_status memory.MinimumSizeOverflow = status.MEMORY_SIZE_OVERFLOW
memory_status memory.MaximumSizeOverflow = status.MEMORY_MAXIMUM_OVERFLOW
memory_status (memory.OutOfFuel required) = status.MEMORY_OUT_OF_FUEL

-- the status of a refused call on a table
abbrev pub table_status : TableError → ℕ
table_status table.OutOfSystemMemory = status.TABLE_OUT_OF_MEMORY
table_status table.MinimumSizeOverflow = status.TABLE_MINIMUM_OVERFLOW
table_status table.MaximumSizeOverflow = status.TABLE_MAXIMUM_OVERFLOW
table_status table.ResourceLimiterDeniedAllocation = status.TABLE_DENIED
table_status table.GrowOutOfBounds = status.TABLE_GROWTH
table_status table.InitOutOfBounds = status.TABLE_INIT
table_status table.FillOutOfBounds = status.TABLE_FILL
table_status table.SetOutOfBounds = status.TABLE_SET
table_status table.CopyOutOfBounds = status.TABLE_COPY
table_status table.ElementTypeMismatch = status.TABLE_TYPE
table_status (table.OutOfFuel required) = status.TABLE_OUT_OF_FUEL

-- What tools/generate writes ends.

-- the status of a refused call on a meter
abbrev pub fuel_status : FuelError → ℕ
fuel_status fuel.FuelMeteringDisabled = status.METERING_DISABLED
fuel_status (fuel.OutOfFuel required) = status.OUT_OF_FUEL

-- the status of a refused call on a global
abbrev pub global_status : GlobalError → ℕ
global_status ImmutableWrite = status.GLOBAL_IMMUTABLE
global_status TypeMismatch = status.GLOBAL_TYPE

-- the status of an element segment that was not made
abbrev pub segment_status : SegmentError → ℕ
segment_status segment.TooManyItems = status.SEGMENT_TOO_MANY_ITEMS
segment_status segment.OutOfSystemMemory = status.SEGMENT_OUT_OF_MEMORY
