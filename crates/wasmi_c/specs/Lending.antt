-- How the machine or the pool of a box is lent in its place.
use Rattle.std.specs.Prelude.{Some}
use Rattle.std.specs.Borrow.{Fml, Lends, MutBor}
use Rattle.wasmi_budget.specs.Pool.{PoolValue}
use Rattle.wasmi_c.specs.Machine.Caps.{MachineValue}
use Rattle.wasmi_c.specs.declared.{machine.machine_box.MachineBox.MachineBox, pool.pool_box.PoolBox.PoolBox}
use Rattle.wasmi_c.specs.contracts.machine.limited_machine.LimitedMachine as machine
use Rattle.wasmi_c.specs.contracts.machine.machine_box.MachineBox as machine_box
use Rattle.wasmi_c.specs.contracts.pool.TenantPool as pool
use Rattle.wasmi_c.specs.contracts.pool.pool_box.PoolBox as pool_box

-- a box whose machine is lent ends with the last value that the machine gets
abbrev pub LendsMachine : MutBor MachineBox → MutBor MachineValue → Fml
LendsMachine lender lent =
    Lends machine_box.the_row machine.the_row lender lent (λ held. record lender.now { held = Some held })

-- a box whose pool is lent ends with the last value that the pool gets
abbrev pub LendsPool : MutBor PoolBox → MutBor PoolValue → Fml
LendsPool lender lent = Lends pool_box.the_row pool.the_row lender lent (λ held. record lender.now { held = Some held })
