use Rattle.std.proofs.Common.{refl}
use Rattle.wasmi_machine.proofs.StoreLemmas.{unasked_at, memories_reserved, changes_part, changes_kept}
use Rattle.wasmi_machine.proofs.store.MachineStore.step_vector_access.Goals as goal

pub returns-in-VectorLoad : goal.returns-in-VectorLoad
returns-in-VectorLoad g c = record {
  step = unasked_at _ _ _ c.in-VectorLoad.is c.self.view_is (λ l. changes_part _
      (rw c.load_vector-vector.ensures at c.set_loaded.ensures));
}

pub returns-in-LoadLane : goal.returns-in-LoadLane
returns-in-LoadLane g c = record {
  step = unasked_at _ _ _ c.in-LoadLane.is c.self.view_is (λ l. changes_part _
      (rw (c.load_lane-vector.ensures, c.vector-a.ensures) at c.set_loaded-in-LoadLane.ensures));
}

pub returns-in_err-vector-in-VectorStore : goal.returns-in_err-vector-in-VectorStore
returns-in_err-vector-in-VectorStore g c = record {
  step = λ l. rw (c.in-VectorStore.is, ← c.self.view_is) (changes_part _
      (rw (
        c.from_residual.ensures,
        ← c.vector.ensures,
        c.in_err-vector-in-VectorStore.was,
      ) (refl, refl)));
}

pub returns-in_ok-vector-in-VectorStore : goal.returns-in_ok-vector-in-VectorStore
returns-in_ok-vector-in-VectorStore g c = record {
  step = unasked_at _ _ _ c.in-VectorStore.is c.self.view_is (λ l.
      changes_kept memories_reserved _ c.store.ensures.reserved refl
      (rw (← c.vector.ensures, c.in_ok-vector-in-VectorStore.was) c.store.ensures.stored));
}

pub returns-in_err-vector-in-StoreLane : goal.returns-in_err-vector-in-StoreLane
returns-in_err-vector-in-StoreLane g c = record {
  step = λ l. rw (c.in-StoreLane.is, ← c.self.view_is) (changes_part _
      (rw (
        c.from_residual-in_err-vector-in-StoreLane.ensures,
        ← c.vector-in-StoreLane.ensures,
        c.in_err-vector-in-StoreLane.was,
      ) (refl, refl)));
}

pub returns-in_ok-vector-in-StoreLane : goal.returns-in_ok-vector-in-StoreLane
returns-in_ok-vector-in-StoreLane g c = record {
  step = unasked_at _ _ _ c.in-StoreLane.is c.self.view_is (λ l.
      changes_kept memories_reserved _ c.store-in-StoreLane.ensures.reserved refl
      (rw (← c.vector-in-StoreLane.ensures, c.in_ok-vector-in-StoreLane.was) c.store-in-StoreLane.ensures.stored));
}
