use Rattle.std.proofs.Common.{◌≡◌, ℕ, List, Some, None, Result, Ok, Err, refl, ap}
use Rattle.std.specs.Result.{OnOk, IfErr}
use Rattle.wasmi_types.specs.Access.{overwrite}
use Rattle.wasmi_store.proofs.Common.{MemoryError, MemoryValue, WritesMemory}
use Rattle.wasmi_meter.specs.declared.error.MemoryError.TheVariants.{OutOfBoundsAccess}
use Rattle.wasmi_store.proofs.WriteLemmas.{refilled_by}
use Rattle.wasmi_store.proofs.memory.LinearMemory.write.Goals as goal

-- what is written over a memory's bytes is written over the memory
writes_memory : (x : MemoryValue) (offset : ℕ) (source : List ℕ) (result : Result (Unit {0}) MemoryError)
    (ws : List ℕ) → OnOk result (overwrite x.bytes offset source ≡ Some ws)
    → IfErr result (λ e. (e ≡ OutOfBoundsAccess) × (overwrite x.bytes offset source ≡ None) × (ws ≡ x.bytes))
    → WritesMemory x offset source result (record x { bytes = ws })
writes_memory x offset source (Ok _) ws ok err = (ok, refl, refl)
writes_memory x offset source (Err e) ws ok err = (err.0, err.1, ap (λ l. record x { bytes = l }) err.2)

pub returns : goal.returns
returns g c = rw (← c.self.view_is, refilled_by _ _ _ c.data_mut.ensures.value c.write_bytes.ensures.len)
    (writes_memory _ _ _ _ _ (rw c.data_mut.ensures.value at c.write_bytes.ensures.ok)
    (rw c.data_mut.ensures.value at c.write_bytes.ensures.err))
