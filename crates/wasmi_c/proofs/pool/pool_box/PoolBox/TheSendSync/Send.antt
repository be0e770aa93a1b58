-- A pool on the heap may go to another thread with all that it owns.
use Rattle.wasmi_c.proofs.Common.{exits_of, shape, fields, to, IsSend, AllSend, owning_send, struct_send, sendable, quiet, pool_row}
use Rattle.std_heap.proofs.Global.TheSendSync as handle
use Rattle.wasmi_c.specs.contracts.pool.pool_box.PoolBox.{the_row, the_type}
use Rattle.wasmi_c.proofs.HeldBoxLemmas.{owned_keyless}
use Rattle.wasmi_c.proofs.pool.TenantPool.TheSendSync.{the_send as home}

pub send : IsSend the_row
send =
    let all : AllSend (fields the_type) = (search sendable, (handle.the_field_send, tt)) in
    owning_send the_type all (λ d. owned_keyless pool_row home d.alloc d.at d.held)
    (λ k. quiet (to the_type) (exits_of k (fields the_type)) ((struct_send (shape the_type) all).leaving k))
