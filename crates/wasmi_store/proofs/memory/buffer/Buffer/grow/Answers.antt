use Rattle.std.proofs.Common.{◌≡◌, ◌≤◌, ◌-◌, refl, sym, length, true}
use Rattle.wasmi_store.specs.Buffer.{view_of, fits_room}
use Rattle.wasmi_store.proofs.BufferLemmas.{owned_grows, lent_grows}
use Rattle.wasmi_store.proofs.memory.buffer.Buffer.grow.Goals as goal
use Rattle.wasmi_store.proofs.memory.buffer.Buffer.grow.Goals.{in-Owned+in-Ok, in-Lent}

pub returns-clause-ok : goal.returns-clause-ok
returns-clause-ok g c =
    let bytes = g.R.Region.bytes in
    let len = c.self.inside.len in
    let n = c.args.new_size in
    let below : length (view_of bytes c.self.inside.storage len).bytes ≤ n = rw c.self.view_is c.requires.grows in
    let room : fits_room (view_of bytes c.self.inside.storage len).room
    (n - length (view_of bytes c.self.inside.storage len).bytes) ≡ true =
    rw c.self.view_is (sym c.if-not-has_room.ensures) in
    elim c.match-self.branch [
      | in-Owned+in-Ok w ↦
          rw (w.self-inside-is, ← c.self.view_is, w.in-Owned.is) (
          owned_grows bytes len n w.in-Owned.bytes w.resize.new.self
          (rw w.in-Owned.is at c.self.invariant) (simp w.in-Owned.is at below) w.in-Ok.ensures.items)
      | in-Lent w ↦
          rw (w.self-inside-is, ← c.self.view_is, w.in-Lent.is) (
          lent_grows bytes len n w.in-Lent.region (g.R.Region.refilled w.in-Lent.region n w.fill_range.new.elements)
          (rw w.in-Lent.is at c.self.invariant) (simp w.in-Lent.is at below) (simp w.in-Lent.is at room)
          w.fill_range.new.elements (rw (← w.front_mut.ensures.value) w.fill_range.ensures.filled)
          (g.met.R.Region.refills w.in-Lent.region n w.fill_range.new.elements))
    ]

pub returns-clause-fits : goal.returns-clause-fits
returns-clause-fits g c = sym c.if-not-has_room.ensures

pub returns-then-not-has_room-clause-cause : goal.returns-then-not-has_room-clause-cause
returns-then-not-has_room-clause-cause g c = rw (← c.if-not-has_room.ensures) refl

pub returns-in-Err-clause-cause : goal.returns-in-Err-clause-cause
returns-in-Err-clause-cause g c = rw (← c.self.view_is, c.in-Owned.is) refl
