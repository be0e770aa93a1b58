use Rattle.std.proofs.Common.{rules, ◌∙◌, Some, ap, Ok, false, refl, sym, arith, length, drop}
use Rattle.wasmi_region.proofs.Common.{cond-false, err_from_is_err_and, optional_rules, lent_limiter, grows_lent, growing, grows_none, grows_unasked, grows_met, memory_growth, growth_permitted}
use Rattle.wasmi_region.specs.Memory.{memory_in}
use Rattle.wasmi_region.proofs.MemoryLemmas.{zeroed_none, zeroed_length, zeroed_rest, paged, bounds, asked_in, room_is, grown}
use Rattle.wasmi_region.proofs.memory.grow_zeroed.Goals as goal

pub returns-then-additional-eq0-clause-grown : goal.returns-then-additional-eq0-clause-grown
returns-then-additional-eq0-clause-grown g c = rw (zeroed_none c.args.region.now c.args.size.now)
    (grows_none (optional_rules g.L.ResourceLimiter.rules)
    (memory_growth c.args.additional (memory_in c.args.ty c.args.region.now c.args.size.now)) _
    c.if-additional-eq0.true (ap Ok (c.pages_in-old_pages.ensures ∙ sym (paged c.args.ty _ _ c.requires.within c.args.additional))))

pub returns-in_default-clause-grown : goal.returns-in_default-clause-grown
returns-in_default-clause-grown g c = rw (zeroed_none c.args.region.now c.args.size.now)
    (grows_unasked (growing (optional_rules g.L.ResourceLimiter.rules) (memory_growth c.args.additional) _ _ _
    c.if-additional-eq0.false) _ (cond-false _ _ _ (bounds c.args.ty _ _ c.requires.within _ false c.in_default.ensures.size)))

pub returns-in_err-decide_growth-clause-grown : goal.returns-in_err-decide_growth-clause-grown
returns-in_err-decide_growth-clause-grown g c =
    let p = err_from_is_err_and c.from_residual.result c.from_residual.ensures.1 in
    let x = memory_in c.args.ty c.args.region.now c.args.size.now in
    let grown = c.in_err-decide_growth.ensures.refused x c.args.additional (omega (arith, c.if-additional-eq0.false))
    (asked_in c.args.ty _ _ c.requires.within _ c.in-Some.ensures.size c.maximum_size-maximum.ensures)
    (room_is c.args.ty _ _ c.requires.within _ c.in-Some.ensures.size _ refl) in
    let seen = grows_lent g.L.ResourceLimiter.rules c.args.limiter.now c.decide_growth.new.limiter x x
    (Some c.args.fuel.now) (Some c.decide_growth.new.fuel) (memory_growth c.args.additional x) _ _ grown.1 in
    rw (p.1, p.2, zeroed_none c.args.region.now c.args.size.now) (grown.0, seen.1)

pub returns-in_err-decide_growth-clause-loan : goal.returns-in_err-decide_growth-clause-loan
returns-in_err-decide_growth-clause-loan g c =
    let x = memory_in c.args.ty c.args.region.now c.args.size.now in
    let grown = c.in_err-decide_growth.ensures.refused x c.args.additional (omega (arith, c.if-additional-eq0.false))
    (asked_in c.args.ty _ _ c.requires.within _ c.in-Some.ensures.size c.maximum_size-maximum.ensures)
    (room_is c.args.ty _ _ c.requires.within _ c.in-Some.ensures.size _ refl) in
    (grows_lent g.L.ResourceLimiter.rules c.args.limiter.now c.decide_growth.new.limiter x x
    (Some c.args.fuel.now) (Some c.decide_growth.new.fuel) (memory_growth c.args.additional x) _ _ grown.1).0

pub returns-clause-grown : goal.returns-clause-grown
returns-clause-grown g c =
    let x = memory_in c.args.ty c.args.region.now c.args.size.now in
    let found = c.in-Some.ensures.size in
    let asked = asked_in c.args.ty _ _ c.requires.within c.args.additional found c.maximum_size-maximum.ensures in
    let fits = room_is c.args.ty _ _ c.requires.within c.args.additional found _ refl in
    grows_met
    (growth_permitted (optional_rules g.L.ResourceLimiter.rules) x c.args.fuel.now c.args.additional
    {p = lent_limiter c.decide_growth.new.limiter} c.if-additional-eq0.false asked refl
    c.in_ok-decide_growth.ensures.permitted.1)
    (fits ∙ c.in_ok-decide_growth.ensures.room) c.decide_growth.new.fuel c.in_ok-decide_growth.ensures.paid _
    (grown c.args.ty _ _ c.requires.within _ found _ refl) _
    (c.pages_in-old_pages.ensures ∙ sym (paged c.args.ty _ _ c.requires.within c.args.additional))

pub returns-then-additional-eq0-clause-len : goal.returns-then-additional-eq0-clause-len
returns-then-additional-eq0-clause-len g c = ap length (zeroed_none c.args.region.now c.args.size.now)

pub returns-then-additional-eq0-clause-rest : goal.returns-then-additional-eq0-clause-rest
returns-then-additional-eq0-clause-rest g c = ap (drop c.args.size.now) (zeroed_none c.args.region.now c.args.size.now)

pub returns-in_default-clause-len : goal.returns-in_default-clause-len
returns-in_default-clause-len g c = ap length (zeroed_none c.args.region.now c.args.size.now)

pub returns-in_default-clause-rest : goal.returns-in_default-clause-rest
returns-in_default-clause-rest g c = ap (drop c.args.size.now) (zeroed_none c.args.region.now c.args.size.now)

pub returns-in_default-clause-refused : goal.returns-in_default-clause-refused
returns-in_default-clause-refused g c = zeroed_none c.args.region.now c.args.size.now

pub returns-in_err-decide_growth-clause-len : goal.returns-in_err-decide_growth-clause-len
returns-in_err-decide_growth-clause-len g c = ap length (zeroed_none c.args.region.now c.args.size.now)

pub returns-in_err-decide_growth-clause-rest : goal.returns-in_err-decide_growth-clause-rest
returns-in_err-decide_growth-clause-rest g c = ap (drop c.args.size.now) (zeroed_none c.args.region.now c.args.size.now)

pub returns-in_err-decide_growth-clause-refused : goal.returns-in_err-decide_growth-clause-refused
returns-in_err-decide_growth-clause-refused g c =
    rw ((err_from_is_err_and c.from_residual.result c.from_residual.ensures.1).1)
    (zeroed_none c.args.region.now c.args.size.now)

pub returns-clause-len : goal.returns-clause-len
returns-clause-len g c = zeroed_length c.args.region.now c.args.size.now c.in-Some.new_size (search rules) (search rules)

pub returns-clause-rest : goal.returns-clause-rest
returns-clause-rest g c = zeroed_rest c.args.region.now c.args.size.now c.in-Some.new_size (search rules) (search rules)
