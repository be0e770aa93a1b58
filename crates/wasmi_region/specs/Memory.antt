-- Memories whose bytes are the first of a region that lies with their caller.
use Rattle.std.specs.Prelude.{ℕ, ◌-◌, List, ◌++◌, take, drop, replicate, Result, Ok, Err}
use Rattle.wasmi_meter.specs.declared.error.MemoryError.{MemoryError}
use Rattle.wasmi_store.specs.Buffer.{Lent}
use Rattle.wasmi_store.specs.Memory.{MemoryValue, MemoryTypeValue}

-- the memory of a type that has so many bytes at the front of a region, and the rest of it as room
abbrev pub memory_in : MemoryTypeValue → List ℕ → ℕ → MemoryValue
memory_in ty region size = record { ty = ty; bytes = take size region; room = Lent (drop size region) }

-- a region with zeros from one place on up to another
abbrev pub zeroed : List ℕ → ℕ → ℕ → List ℕ
zeroed region start end = take start region ++ replicate (end - start) 0 ++ drop end region

-- the memory that a call makes in a region, by the size that it returns
abbrev pub made_in : MemoryTypeValue → List ℕ → Result ℕ MemoryError → Result MemoryValue MemoryError
made_in ty region (Ok size) = Ok (memory_in ty region size)
made_in ty region (Err error) = Err error

-- the memory that a call makes in a region whose first bytes are zeros, by the size that it returns
abbrev pub made_in_zeros : MemoryTypeValue → List ℕ → Result ℕ MemoryError → Result MemoryValue MemoryError
made_in_zeros ty region (Ok size) = Ok (memory_in ty (zeroed region 0 size) size)
made_in_zeros ty region (Err error) = Err error
