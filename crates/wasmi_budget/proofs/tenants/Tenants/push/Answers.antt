use Rattle.std.proofs.Common.{◌≡◌, ◌+◌, ◌∙◌, ◌∷◌, ◌++◌, [], List, ℕ, ap, rules}
use Rattle.wasmi_machine.specs.State.{State}
use Rattle.wasmi_budget.proofs.TenantsLemmas.{listed_pushed, pushed_value}
use Rattle.wasmi_budget.proofs.tenants.Tenants.push.Goals as goal

pub invariant_of-self-2 : goal.invariant_of-self-2
invariant_of-self-2 c =
    let next : c.in-Some.next ≡ c.self.inside.next + 1 = search rules in
    rw (
      next,
      c.push_reserved.ensures.items,
      c.push_reserved-2.ensures.items,
      c.try_reserve.ensures.items,
      c.try_reserve-else-is_err.ensures.items,
    ) (listed_pushed _ _ _ c.self.invariant c.args.machine)

pub returns-clause-added : goal.returns-clause-added
returns-clause-added c =
    pushed_value c.self.invariant c.self.view_is _ _ _ c.args.machine (search rules)
    (c.push_reserved.ensures.items ∙ ap (λ (xs : List ℕ). xs ++ c.self.inside.next ∷ []) c.try_reserve.ensures.items)
    (c.push_reserved-2.ensures.items
    ∙ ap (λ (xs : List State). xs ++ c.args.machine ∷ []) c.try_reserve-else-is_err.ensures.items)
