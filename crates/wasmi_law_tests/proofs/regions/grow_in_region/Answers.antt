use Rattle.wasmi_meter.specs.Limiter.{lent_limiter}
use Rattle.wasmi_region.specs.Memory.{memory_in}
use Rattle.wasmi_law_tests.proofs.regions.grow_in_region.Goals as goal

pub returns : goal.returns
returns g c = record {
  alike = λ w k metered limited live. c.machines_do_alike.ensures.memories_grow w k c.args.pages
      (memory_in c.args.ty c.args.region.now c.args.size.now)
      (memory_in c.args.ty c.grow.new.region c.grow.new.size) c.grow.result c.grow.new.fuel
      (lent_limiter c.grow.new.limiter) live (rw (metered, limited) c.grow.ensures.grown);
}
