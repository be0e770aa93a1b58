use Rattle.std.proofs.Common.{◌∙◌, sym}
use Rattle.wasmi_c.specs.MemoryCalls.{by_pages, of_memory}
use Rattle.wasmi_c.proofs.PlacementLemmas.{by_quota, keeps_quota, pages_unasked}
use Rattle.wasmi_c.proofs.memory.grow_zeroed.Goals as goal

pub returns-clause-grown : goal.returns-clause-grown
returns-clause-grown c =
    by_quota of_memory (by_pages c.args.pages) c.in-Some.ty _ _ c.in-Some.ensures c.grow_zeroed_under.ensures.grown

pub returns-clause-quota : goal.returns-clause-quota
returns-clause-quota c = keeps_quota of_memory (by_pages c.args.pages) c.in-Some.ty c.grow_zeroed_under.ensures.grown

pub returns-clause-unasked : goal.returns-clause-unasked
returns-clause-unasked c = λ ty at none. pages_unasked c.args.region.now c.grow_zeroed_under.ensures.grown.grows.1
    (sym at.type ∙ c.in-Some.ensures.type) at.within none
