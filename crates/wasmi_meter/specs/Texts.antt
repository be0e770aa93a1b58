-- The texts of errors of fuel meters, limiters, memories and tables: words, and the number after them, if any.
use Rattle.std.specs.Prelude.{ℕ, List, ◌++◌, Option, None, Some, codes, decimal}
use Rattle.wasmi_meter.specs.declared.{error.LimiterError.LimiterError, error.MemoryError.MemoryError, error.TableError.TableError, fuel.FuelError.FuelError}
use Rattle.wasmi_meter.specs.declared.error.LimiterError.TheVariants as limiter
use Rattle.wasmi_meter.specs.declared.error.MemoryError.TheVariants as memory
use Rattle.wasmi_meter.specs.declared.error.TableError.TheVariants as table
use Rattle.wasmi_meter.specs.declared.fuel.FuelError.TheVariants as fuel

-- the text of an error: its words, and the number after them, if there is one
abbrev pub numbered : List ℕ → Option ℕ → List ℕ
numbered words None = words
numbered words (Some number) = words ++ decimal number

-- the text of a limiter's error
abbrev pub limiter_error_text : LimiterError → List ℕ
limiter_error_text limiter.ResourceLimiterDeniedAllocation = codes "resource limiter denied allocation"

-- the text of an error of the meter
abbrev pub fuel_error_text : FuelError → List ℕ
fuel_error_text fuel.FuelMeteringDisabled = codes "fuel metering is disabled"
fuel_error_text (fuel.OutOfFuel required) = codes "ouf of fuel. required=" ++ decimal required

-- What tools/generate writes begins.
-- the text of an error of a memory
abbrev pub memory_error_text : MemoryError → List ℕ
memory_error_text memory.OutOfSystemMemory = codes "tried to allocate more virtual memory than available on the system"
memory_error_text memory.OutOfBoundsGrowth = codes "out of bounds memory growth"
memory_error_text memory.OutOfBoundsAccess = codes "out of bounds memory access"
memory_error_text memory.InvalidMemoryType = codes "tried to create an invalid linear memory type"
memory_error_text memory.InvalidStaticBufferSize = codes "tried to use too small static buffer"
memory_error_text memory.ResourceLimiterDeniedAllocation =
    codes "a resource limiter denied to allocate or grow the linear memory"
memory_error_text memory.MinimumSizeOverflow =
    codes "the minimum size of the memory type overflows the system index type"
memory_error_text memory.MaximumSizeOverflow =
    codes "the maximum size of the memory type overflows the system index type"
memory_error_text (memory.OutOfFuel required) = codes "not enough fuel. required=" ++ decimal required

-- the text of an error of a table
abbrev pub table_error_text : TableError → List ℕ
table_error_text table.OutOfSystemMemory = codes "tried to allocate more virtual memory than available on the system"
table_error_text table.MinimumSizeOverflow = codes "the minimum table size overflows the system bounds"
table_error_text table.MaximumSizeOverflow = codes "the maximum table size overflows the system bounds"
table_error_text table.ResourceLimiterDeniedAllocation = codes "a resource limiter denied to allocate or grow the table"
table_error_text table.GrowOutOfBounds = codes "out of bounds table access: `table.growth`"
table_error_text table.InitOutOfBounds = codes "out of bounds table access: `table.init`"
table_error_text table.FillOutOfBounds = codes "out of bounds table access: `table.fill`"
table_error_text table.SetOutOfBounds = codes "out of bounds table access: `table.set`"
table_error_text table.CopyOutOfBounds = codes "out of bounds table access: `table.copy`"
table_error_text table.ElementTypeMismatch = codes "encountered mismatching table element type"
table_error_text (table.OutOfFuel required) = codes "not enough fuel: required=" ++ decimal required

-- What tools/generate writes ends.
