-- What is owned by a value on the heap or none, such as the machine or the pool of a box for C.
use mir.Syntax.{Ty}
use base.Fml.{Fml, ftrue}
use denote.RattleType.{RattleType}
use denote.RawPtr.{Ptr}
use Rattle.std.specs.Prelude.{Option, Some, None}
use Rattle.std.specs.Box.Ownership.{box_owns}
use Rattle.std.specs.Global.{Global}
use Rattle.std_heap.specs.contracts.GlobalAllocator.TheImpl.{ghosts}
pub use Rattle.wasmi_c.specs.contracts.machine.limited_machine.LimitedMachine.{the_row as machine_row}
pub use Rattle.wasmi_c.specs.contracts.pool.TenantPool.{the_row as pool_row}

-- what is owned: the same as by a box where there is a value, else nothing
abbrev pub box_or_none_owns : (Ty → Ptr → Fml) → (row : RattleType) → Ptr → Option row.Denot → Fml
box_or_none_owns token row at (Some value) = box_owns token row at value
box_or_none_owns token row at None = ftrue

-- the right to free a block of the system's allocator
abbrev pub global_token : Global → Ty → Ptr → Fml
global_token = ghosts.dealloc_token
