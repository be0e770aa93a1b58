-- `pool_mut` lends the pool, and the box follows it.
use Rattle.wasmi_c.proofs.Common.{tables_of, pool_row}
use Rattle.wasmi_c.proofs.HeldBoxLemmas.{lends_value, pool_holder}
use Rattle.wasmi_c.proofs.pool.TenantPool.TheLaws.{the_row_laws}
use Rattle.wasmi_c.specs.contracts.pool.pool_box.PoolBox.pool_mut.Key.{name as #self}
use Rattle.wasmi_c.proofs.pool.pool_box.PoolBox.pool_mut.Statement as stated
use Rattle.wasmi_c.proofs.pool.pool_box.PoolBox.pool_mut.Code as code

pub pool_mut_spec : {M : Type 1} → stated.statement M
unfolding tables_of
pool_mut_spec 𝓤 𝓛 𝓜 𝓡 wired =
    lends_value pool_row the_row_laws pool_holder _ _ 𝓛 𝓜 𝓡 #self (code.unfolded 𝓤 𝓛.H 𝓜 𝓡 wired)
