use Rattle.std.proofs.Common.{Some, ◌≡◌, ◌-◌, ◌*◌, Ok, length, ap, arith, refl, sym, ◌∙◌}
use Rattle.wasmi_store.proofs.Common.{err_from_is_err_and, optional_rules, cond-false, MatchBool-at_true, memory_of, page_bytes, with_zeros}
use Rattle.wasmi_store.proofs.GrowthLemmas.{growing, grows_none, grows_unasked, grows_refused, grows_met}
use Rattle.wasmi_store.specs.Memory.{memory_growth}
use Rattle.wasmi_store.proofs.MemoryLemmas.{growth_asked, growth_permitted, more_with_pages, sized_grown}
use Rattle.wasmi_store.proofs.memory.LinearMemory.grow_lending.Goals as goal

pub returns-in_default : goal.returns-in_default
returns-in_default g c = rw (← c.self.view_is)
    (grows_unasked (growing (optional_rules g.L.ResourceLimiter.rules) (memory_growth c.args.additional) _
    c.args.fuel.now _ c.if-additional-eq0.false) _
    (cond-false _ _ _ (rw c.len-old_size.ensures at c.in_default.ensures.size)))

pub returns-in_err-decide_growth : goal.returns-in_err-decide_growth
returns-in_err-decide_growth g c =
    let p = err_from_is_err_and c.from_residual.result c.from_residual.ensures.1 in
    let fits = sym (rw (← c.len-old_size.ensures) at c.has_room-has_room.ensures) in
    rw (p.1, p.2, ← c.self.view_is) (
    c.in_err-decide_growth.ensures.refused _ c.args.additional (omega (arith, c.if-additional-eq0.false))
    (growth_asked _ c.args.additional (rw c.len-old_size.ensures at c.in-Some.ensures.size) c.len-old_size.ensures
    c.maximum_size-maximum.ensures) fits
    )

pub returns-in-Err : goal.returns-in-Err
returns-in-Err g c =
    let permits = growth_permitted (optional_rules g.L.ResourceLimiter.rules) _ c.args.fuel.now c.args.additional
    {p = Some c.decide_growth.new.limiter} c.if-additional-eq0.false
    (growth_asked _ _ (rw c.len-old_size.ensures at c.in-Some.ensures.size) c.len-old_size.ensures
    c.maximum_size-maximum.ensures) refl c.in_ok-decide_growth.ensures.permitted in
    let fits = sym (rw (← c.len-old_size.ensures) at c.has_room-has_room.ensures) in
    let same = ap (memory_of c.self.inside.ty) c.in-Err.ensures.err in
    let room = sym c.has_room-has_room.ensures ∙ c.in_ok-decide_growth.ensures.room in
    rw (← c.self.view_is) (grows_refused permits (fits ∙ c.in_ok-decide_growth.ensures.room) c.decide_growth.new.fuel
    c.in_ok-decide_growth.ensures.paid _ (MatchBool-at_true _ _ room c.in-Err.ensures.cause) _ same _
    (Some c.tell.new.limiter) c.tell.ensures)

pub returns : goal.returns
returns g c =
    let pages = rw (← c.self.view_is) at c.size-old_pages.ensures.value in
    let permits = growth_permitted (optional_rules g.L.ResourceLimiter.rules) _ c.args.fuel.now c.args.additional
    {p = Some c.decide_growth.new.limiter} c.if-additional-eq0.false
    (growth_asked _ _ (rw c.len-old_size.ensures at c.in-Some.ensures.size) c.len-old_size.ensures
    c.maximum_size-maximum.ensures) refl c.in_ok-decide_growth.ensures.permitted in
    let fits = sym (rw (← c.len-old_size.ensures) at c.has_room-has_room.ensures) in
    rw (← c.self.view_is) (grows_met permits (fits ∙ c.in_ok-decide_growth.ensures.room) c.decide_growth.new.fuel
    c.in_ok-decide_growth.ensures.paid _ (ap (memory_of c.self.inside.ty) (c.in_default-grow.ensures.ok
    ∙ ap (with_zeros _) (omega (arith, (rw c.len-old_size.ensures at c.in-Some.ensures.size).1)))) _ pages)

pub decide_growth-requires : goal.decide_growth-requires
decide_growth-requires g c =
    let sized = c.len-old_size.ensures in
    let found = rw sized at c.in-Some.ensures.size in
    record { grows = rw (sized, found.1) (more_with_pages c.self.inside.ty.page c.if-additional-eq0.false) }

pub grow-requires : goal.grow-requires
grow-requires g c = record { grows = omega (arith, (rw c.len-old_size.ensures at c.in-Some.ensures.size).1) }

pub invariant_of-self-2 : goal.invariant_of-self-2
invariant_of-self-2 g c =
    let found = rw c.len-old_size.ensures at c.in-Some.ensures.size in
    let added : c.in-Some.size - length c.self.inside.buffer.bytes
    ≡ c.args.additional * page_bytes c.self.inside.ty.page = omega (arith, found.1) in
    rw (c.in_default-grow.ensures.ok, added)
    (sized_grown c.self.inside.ty _ c.args.additional c.self.invariant found.0)

pub returns-then-additional-eq0 : goal.returns-then-additional-eq0
returns-then-additional-eq0 g c = grows_none (optional_rules g.L.ResourceLimiter.rules)
    (memory_growth c.args.additional c.args.self.now) _ c.if-additional-eq0.true (ap Ok c.size-old_pages.ensures.value)
