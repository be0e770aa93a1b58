use Rattle.std.proofs.Common.{Option, arith, refl, sym}
use Rattle.wasmi_region.proofs.Common.{cond-false, err_from_is_err_and, optional_rules, lent_limiter, loan_kept, grows_unasked, grows_denied, grows_late, grows_unpaid, grows_refused, grows_met}
use Rattle.wasmi_region.proofs.MemoryLemmas.{filled_part}
use Rattle.wasmi_region.proofs.TableLemmas as table
use Rattle.wasmi_region.proofs.table.grow.Given as given
use Rattle.wasmi_region.proofs.table.grow.Goals as goal
use Rattle.wasmi_region.proofs.table.grow.Goals.{Else-delta-eq0}

-- the growth by 1 or more, with what it begins with
abbrev begun : (g : given.Over) → goal.Else-delta-eq0 g → table.RegionGrowth (Option g.row.L.Denot)
begun g c = record {
  limits = optional_rules g.L.ResourceLimiter.rules;
  ty = c.args.ty;
  region = c.args.region.now;
  size = c.args.size.now;
  within = c.requires.within;
  meter = c.args.fuel.now;
  limiter = lent_limiter c.args.limiter.now;
  delta = c.args.delta;
  reference = c.args.reference;
  some = c.if-delta-eq0.false;
}

pub returns-in_default-clause-grown : goal.returns-in_default-clause-grown
returns-in_default-clause-grown g c =
    let t = begun g (goal.at.returns-in_default-clause-grown g c).Else-delta-eq0 in
    grows_unasked (table.attempt t) _ (cond-false _ _ _ (rw (table.sized t) at c.in_default.ensures))

pub returns-in_err-permission-clause-grown : goal.returns-in_err-permission-clause-grown
returns-in_err-permission-clause-grown g c =
    let t = begun g (goal.at.returns-in_err-permission-clause-grown g c).Else-delta-eq0 in
    let p = err_from_is_err_and c.from_residual.result c.from_residual.ensures.1 in
    rw (p.1, p.2) (
    grows_denied (table.attempt t) _ (table.asked_in t c.in-Some.ensures c.maximum_size.ensures)
    _ _ c.table_growing-answer.ensures.asked _ c.in_err-permission.ensures
    )

pub returns-then-not-allows_size-clause-grown : goal.returns-then-not-allows_size-clause-grown
returns-then-not-allows_size-clause-grown g c =
    let is = table.permits (begun g (goal.at.returns-then-not-allows_size-clause-grown g c).Else-delta-eq0)
    c.in-Some.ensures c.maximum_size.ensures c.in_ok-permission.ensures c.table_growing-answer.ensures.asked in
    let told = c.tell.ensures in
    grows_late is (sym c.if-not-allows_size.ensures) _
    (lent_limiter c.tell.new.limiter) (told.0, told.1.1, told.2)

pub returns-in-Err-clause-grown : goal.returns-in-Err-clause-grown
returns-in-Err-clause-grown g c =
    let is = table.permits (begun g (goal.at.returns-in-Err-clause-grown g c).Else-delta-eq0) c.in-Some.ensures
    c.maximum_size.ensures c.in_ok-permission.ensures c.table_growing-answer.ensures.asked in
    let told = c.tell-in-Err.ensures in
    grows_unpaid is (sym c.if-not-allows_size.ensures) _ _ c.in-Err.ensures _
    (lent_limiter c.tell-in-Err.new.limiter) (told.0, told.1.1, told.2)

pub returns-then-region-desired-clause-grown : goal.returns-then-region-desired-clause-grown
returns-then-region-desired-clause-grown g c =
    let t = begun g (goal.at.returns-then-region-desired-clause-grown g c).Else-delta-eq0 in
    let is = table.permits t c.in-Some.ensures c.maximum_size.ensures c.in_ok-permission.ensures
    c.table_growing-answer.ensures.asked in
    let told = c.tell-then-region-desired.ensures in
    grows_refused is (sym c.if-not-allows_size.ensures) _ c.in_default-charge.ensures _
    (table.is_short t c.in-Some.ensures.1 c.if-region-desired.true) _ refl _
    (lent_limiter c.tell-then-region-desired.new.limiter) (told.0, told.1.1, told.2)

pub returns-clause-grown : goal.returns-clause-grown
returns-clause-grown g c =
    let t = begun g (goal.at.returns-clause-grown g c).Else-delta-eq0 in
    let is = table.permits t c.in-Some.ensures c.maximum_size.ensures c.in_ok-permission.ensures
    c.table_growing-answer.ensures.asked in
    grows_met is (sym c.if-not-allows_size.ensures) _ c.in_default-charge.ensures _
    (table.grown t _ c.in-Some.ensures.1 _ c.fill_range.ensures.filled) _ (table.sized t)

pub returns-then-not-allows_size-clause-loan : goal.returns-then-not-allows_size-clause-loan
returns-then-not-allows_size-clause-loan g c = loan_kept _ _ _ c.table_growing-answer.ensures.loan c.tell.ensures.1.0

pub returns-in-Err-clause-loan : goal.returns-in-Err-clause-loan
returns-in-Err-clause-loan g c = loan_kept _ _ _ c.table_growing-answer.ensures.loan c.tell-in-Err.ensures.1.0

pub returns-then-region-desired-clause-loan : goal.returns-then-region-desired-clause-loan
returns-then-region-desired-clause-loan g c =
    loan_kept _ _ _ c.table_growing-answer.ensures.loan c.tell-then-region-desired.ensures.1.0

pub returns-clause-within : goal.returns-clause-within
returns-clause-within g c = omega (arith, c.if-region-desired.false, c.fill_range.ensures.len)

pub returns-clause-rest : goal.returns-clause-rest
returns-clause-rest g c = (filled_part c.args.region.now _ c.args.size.now _ _ (omega (arith, c.in-Some.ensures.1))
    c.requires.within c.fill_range.ensures.filled).1
