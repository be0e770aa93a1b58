use Rattle.std.proofs.Common.{◌∙◌, Some, arith}
use Rattle.wasmi_store.proofs.Common.{err_from_is_err_and, optional_rules}
use Rattle.wasmi_store.proofs.GrowthLemmas.{growing, grows_denied, grows_late, grows_unpaid}
use Rattle.wasmi_store.proofs.MemoryLemmas.{growth_permitted}
use Rattle.wasmi_store.specs.Memory.{memory_growth}
use Rattle.wasmi_store.proofs.growth.decide_growth.Goals as goal

pub returns-in_err-permission-clause-refused : goal.returns-in_err-permission-clause-refused
returns-in_err-permission-clause-refused g c =
    let p = err_from_is_err_and c.from_residual.result c.from_residual.ensures.1 in
    rw p.1 (λ x pages some asked fits. rw p.2 (
    grows_denied (growing (optional_rules g.L.ResourceLimiter.rules) (memory_growth pages) x c.args.fuel.now _
    (λ none. omega (arith, some, none)))
    _ asked _ _ c.memory_growing-answer.ensures.asked _ c.in_err-permission.ensures
    ))

pub returns-then-not-has_room-clause-refused : goal.returns-then-not-has_room-clause-refused
returns-then-not-has_room-clause-refused g c = λ x pages some asked fits.
    let permits = growth_permitted (optional_rules g.L.ResourceLimiter.rules) x c.args.fuel.now pages
    {p = Some c.memory_growing-answer.new.self} (λ none. omega (arith, some, none)) asked c.in_ok-permission.ensures
    c.memory_growing-answer.ensures.asked in
    grows_late permits (fits ∙ c.if-not-has_room.true) _ _ c.tell.ensures

pub returns-in-Err-clause-refused : goal.returns-in-Err-clause-refused
returns-in-Err-clause-refused g c = λ x pages some asked fits.
    let permits = growth_permitted (optional_rules g.L.ResourceLimiter.rules) x c.args.fuel.now pages
    {p = Some c.memory_growing-answer.new.self} (λ none. omega (arith, some, none)) asked c.in_ok-permission.ensures
    c.memory_growing-answer.ensures.asked in
    grows_unpaid permits
    (fits ∙ c.if-not-has_room.false) c.charge-paid.new.fuel _ c.in-Err.ensures _ _ c.tell-in-Err.ensures
