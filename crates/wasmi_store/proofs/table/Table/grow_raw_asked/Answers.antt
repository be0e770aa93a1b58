use Rattle.std.proofs.Common.{Some, ◌≡◌, ℕ, true, Result, Ok, Err, List, ◌++◌, ◌-◌, take, replicate, sym, ap, ◌∙◌, ◌+◌, ◌<◌, length, refl, arith}
use Rattle.wasmi_store.proofs.Common.{cond-false, err_from_is_err_and, optional_rules, take_all, OnErr, is_err}
use Rattle.wasmi_store.proofs.GrowthLemmas.{growing, grows_unasked, grows_denied, grows_late, grows_unpaid, grows_refused, grows_met}
use Rattle.wasmi_store.proofs.TableLemmas.{growth_asked, growth_permitted}
use Rattle.wasmi_store.specs.Table.{table_growth}
use Rattle.wasmi_store.proofs.WriteLemmas.{table_with}
use Rattle.wasmi_store.proofs.table.Table.grow_raw_asked.Goals as goal

-- where a call failed, what holds of its failures holds
of_failure : {T E P : Type 0} (result : Result T E) → is_err result ≡ true → OnErr result P → P
of_failure (Ok value) failed fact = cc
of_failure (Err error) failed fact = fact

-- a list that is resized upwards
resized : (xs : List ℕ) (size n desired reference : ℕ) → size ≡ length xs → desired ≡ length xs + n
    → take desired xs ++ replicate (desired - size) reference ≡ xs ++ replicate n reference
resized xs size n desired reference e reaches =
    let more : desired - size ≡ n = omega arith in rw (take_all desired xs (omega arith), more) refl

pub returns-in_default : goal.returns-in_default
returns-in_default g c = record {
  grown = rw (← c.self.view_is) (grows_unasked
      (growing (optional_rules g.L.ResourceLimiter.rules) (table_growth c.args.delta c.args.init) _ c.args.fuel.now _
      c.requires.asked) _
      (cond-false _ _ _ (rw (c.len-size.ensures ∙ c.self.inside.elements.ok.0) at c.in_default.ensures)));
}

pub returns-in_err-permission : goal.returns-in_err-permission
returns-in_err-permission g c =
    let p = err_from_is_err_and c.from_residual.result c.from_residual.ensures.1 in
    record {
      grown = rw (p.1, p.2, ← c.self.view_is) (
          grows_denied (growing (optional_rules g.L.ResourceLimiter.rules) (table_growth c.args.delta c.args.init) _
          c.args.fuel.now _ c.requires.asked)
          _ (growth_asked _ c.args.delta c.args.init (c.len-size.ensures ∙ c.self.inside.elements.ok.0)
          c.in-Some.ensures c.maximum_size.ensures) _ (Some c.table_growing-answer.new.self) c.table_growing-answer.ensures.asked _
          c.in_err-permission.ensures
          );
    }

pub returns-then-not-allows_size : goal.returns-then-not-allows_size
returns-then-not-allows_size g c =
    let permits = growth_permitted (optional_rules g.L.ResourceLimiter.rules) _ c.args.fuel.now c.args.delta c.args.init
    {p = Some c.table_growing-answer.new.self} c.requires.asked
    (growth_asked _ _ _ (c.len-size.ensures ∙ c.self.inside.elements.ok.0) c.in-Some.ensures c.maximum_size.ensures)
    c.in_ok-permission.ensures c.table_growing-answer.ensures.asked in
    record {
      grown = rw (← c.self.view_is) (grows_late permits (sym c.if-not-allows_size.ensures) _ (Some c.tell.new.limiter)
          c.tell.ensures);
    }

pub returns-in-Err : goal.returns-in-Err
returns-in-Err g c =
    let permits = growth_permitted (optional_rules g.L.ResourceLimiter.rules) _ c.args.fuel.now c.args.delta c.args.init
    {p = Some c.table_growing-answer.new.self} c.requires.asked
    (growth_asked _ _ _ (c.len-size.ensures ∙ c.self.inside.elements.ok.0) c.in-Some.ensures c.maximum_size.ensures)
    c.in_ok-permission.ensures c.table_growing-answer.ensures.asked in
    record {
      grown = rw (← c.self.view_is)
          (grows_unpaid permits (sym c.if-not-allows_size.ensures) c.charge.new.fuel _ c.in-Err.ensures _
          (Some c.tell-in-Err.new.limiter) c.tell-in-Err.ensures);
    }

pub returns-then-is_err : goal.returns-then-is_err
returns-then-is_err g c =
    let permits = growth_permitted (optional_rules g.L.ResourceLimiter.rules) _ c.args.fuel.now c.args.delta c.args.init
    {p = Some c.table_growing-answer.new.self} c.requires.asked
    (growth_asked _ _ _ (c.len-size.ensures ∙ c.self.inside.elements.ok.0) c.in-Some.ensures c.maximum_size.ensures)
    c.in_ok-permission.ensures c.table_growing-answer.ensures.asked in
    let same = rw c.if-is_err.ensures.negation at c.resize.ensures.items in
    let full = of_failure c.resize.result (sym c.if-is_err.ensures.value) c.resize.ensures.full in
    let found = rw (c.len-size.ensures ∙ c.self.inside.elements.ok.0) at c.in-Some.ensures in
    let short : c.self.inside.reserved < length c.self.inside.elements.items + c.args.delta =
    omega (arith, c.self.invariant.1, full, found.1) in
    record {
      grown = rw (← c.self.view_is)
          (grows_refused permits (sym c.if-not-allows_size.ensures) c.charge.new.fuel c.in_default-charge.ensures _ (refl, short)
          _ (ap (table_with c.self.inside.ty c.self.inside.reserved) same) _ (Some c.tell-then-is_err.new.limiter)
          c.tell-then-is_err.ensures);
    }

pub returns : goal.returns
returns g c =
    let permits = growth_permitted (optional_rules g.L.ResourceLimiter.rules) _ c.args.fuel.now c.args.delta c.args.init
    {p = Some c.table_growing-answer.new.self} c.requires.asked
    (growth_asked _ _ _ (c.len-size.ensures ∙ c.self.inside.elements.ok.0) c.in-Some.ensures c.maximum_size.ensures)
    c.in_ok-permission.ensures c.table_growing-answer.ensures.asked in
    let sized = c.len-size.ensures ∙ c.self.inside.elements.ok.0 in
    let grown = (rw c.if-is_err.ensures.negation at c.resize.ensures.items)
    ∙ resized _ _ c.args.delta _ c.args.init c.self.inside.elements.ok.0 (rw sized at c.in-Some.ensures).1 in
    record {
      grown = rw (← c.self.view_is)
          (grows_met permits (sym c.if-not-allows_size.ensures) c.charge.new.fuel c.in_default-charge.ensures _
          (ap (table_with c.self.inside.ty c.self.inside.reserved) grown) _ sized);
    }
