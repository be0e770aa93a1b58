-- `from_held` moves two fields, and what they own goes with them.
use Rattle.wasmi_c.proofs.Common.{tables_of, no}
use Rattle.wasmi_c.proofs.HeldBoxLemmas.{held_holder, moves, pool_holder, pool_in_box as E}
use Rattle.wasmi_c.specs.contracts.pool.pool_box.PoolBox.from_held.Key.{name as #self}
use Rattle.wasmi_c.proofs.pool.pool_box.PoolBox.from_held.Statement as stated
use Rattle.wasmi_c.proofs.pool.pool_box.PoolBox.from_held.Code as code

pub from_held_spec : {M : Type 1} → stated.statement M
unfolding tables_of
from_held_spec 𝓤 𝓛 𝓜 𝓡 wired =
    let From = held_holder E.row E.laws in
    moves From pool_holder no 𝓛 𝓜 𝓡 (λ s. tt) (λ s last. tt) #self _ _ (code.unfolded 𝓤 𝓛.H 𝓜 𝓡 wired)
