use Rattle.std.proofs.Common.{refl, rules}
use Rattle.wasmi_machine.proofs.StoreLemmas.{acts}
use Rattle.wasmi_machine.proofs.store.MachineStore.grow_memory.Goals as goal

pub returns-in_err-memory : goal.returns-in_err-memory
returns-in_err-memory g c = rw (← c.self.view_is) (acts _ (search rules))

pub returns : goal.returns
returns g c =
    let (charge, grown) = c.grow_lending-grown.ensures in
    rw (← c.self.view_is) (acts _ (
      charge,
      rw (← c.live_mut.ensures.value, c.in_ok-memory.was)
          (_, _, grown, search rules, refl),
    ))
