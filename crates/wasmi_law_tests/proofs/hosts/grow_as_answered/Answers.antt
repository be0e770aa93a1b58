use Rattle.wasmi_region.specs.Memory.{memory_in}
use Rattle.wasmi_c.specs.MemoryCalls.{by_pages, of_memory}
use Rattle.wasmi_c.specs.Placement.{limiter_after}
use Rattle.wasmi_c.proofs.PlacementLemmas.{under}
use Rattle.wasmi_law_tests.proofs.hosts.grow_as_answered.Goals as goal

pub returns : goal.returns
returns g c =
    let growth = rw c.reset.ensures at c.grow_under.ensures.grown in
    let answered = c.grow_under.new.limiter in
    let law = c.settlements_are_growths.ensures.memories c.args.pages
    (memory_in c.args.ty c.args.region.now c.args.memory.now.size) _ _ _ c.args.answers.now answered in
    record {
      grown = λ l allows. under of_memory (by_pages c.args.pages) c.args.ty growth l.before (limiter_after answered l)
          (law l growth.result growth.grows.0 growth.grows.1 allows);
    }
