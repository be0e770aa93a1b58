use Rattle.std.proofs.Common.{◌≡◌, ◌∙◌}
use Rattle.wasmi_meter.specs.Limiter.{optional_rules}
use Rattle.wasmi_meter.specs.declared.limiter.Kind.{Kind}
use Rattle.wasmi_meter.specs.declared.limiter.Kind.TheVariants.{Bytes, Elements}
use Rattle.wasmi_machine.proofs.StoreLemmas.{run_of_one}
use Rattle.wasmi_machine.specs.State.{HoldsTotals, IsRefusal, total, world}
use Rattle.wasmi_budget.proofs.TenantLemmas.{all_before, all_same, counted_alike, held_total, part_fits, part_held, part_holds, refused_total, runs_as_part, step_holds}
use Rattle.wasmi_budget.specs.Pool.{holdings, tenant_rules}
use Rattle.wasmi_budget.proofs.tenant.CountedMachine.step.Goals as goal
use Rattle.wasmi_budget.proofs.tenant.CountedMachine.step.Goals.{After-step_lending-reply}

pub new-tenant-requires : goal.new-tenant-requires
new-tenant-requires c =
    let less = part_held c.self.view_is c.self.invariant c.requires.part in
    record { bytes = less Bytes; elements = less Elements }

pub leave-requires : goal.leave-requires
leave-requires c =
    let ran = run_of_one (optional_rules tenant_rules) _ _ _ _ c.step_lending-reply.ensures in
    record {
      fits = part_fits c.self.view_is c.self.invariant c.requires.part c.new-tenant.ensures.value ran;
      before = all_before c.self.view_is c.self.invariant c.requires.part c.new-tenant.ensures.value ran;
    }

-- the tenant holds what the machine has then; that is what it had, if the reply is a refusal
stepped : (c : goal.After-step_lending-reply)
    → HoldsTotals (holdings c.step_lending-reply.new.tenant) c.step_lending-reply.new.machine
    × (IsRefusal c.step_lending-reply.result → (kind : Kind)
    → total c.step_lending-reply.new.machine kind ≡ total c.self.inside.machine kind)
stepped c =
    let first = world c.self.inside.machine c.new-tenant.result in
    let last = world c.step_lending-reply.new.machine c.step_lending-reply.new.tenant in (
      step_holds first last _ _ (part_holds c.self.view_is c.self.invariant c.requires.part c.new-tenant.ensures.value)
          c.step_lending-reply.ensures,
      λ refusal. refused_total first last _ _ refusal c.step_lending-reply.ensures,
    )

pub invariant_of-self : goal.invariant_of-self
invariant_of-self c = c.leave.ensures.held
    ∙ held_total c.step_lending-reply.new.tenant c.step_lending-reply.new.machine
    (stepped (goal.at.invariant_of-self c).After-step_lending-reply).0

pub invariant_of-self-else-not-is_refused_growth :
    goal.invariant_of-self-else-not-is_refused_growth
invariant_of-self-else-not-is_refused_growth c =
    let after = stepped (goal.at.invariant_of-self-else-not-is_refused_growth c).After-step_lending-reply in
    counted_alike c.self.inside.machine c.step_lending-reply.new.machine
    (after.1 (c.is_refused_growth.ensures c.if-not-is_refused_growth.false)) c.self.invariant

pub returns-then-not-is_refused_growth : goal.returns-then-not-is_refused_growth
returns-then-not-is_refused_growth c = record {
  run = runs_as_part c.self.view_is c.self.invariant c.requires.part c.new-tenant.ensures.value
      (run_of_one (optional_rules tenant_rules) _ _ _ _ c.step_lending-reply.ensures)
      (stepped (goal.at.returns-then-not-is_refused_growth c).After-step_lending-reply).0 _ c.leave.ensures.all;
}

pub returns-else-not-is_refused_growth : goal.returns-else-not-is_refused_growth
returns-else-not-is_refused_growth c =
    let after = stepped (goal.at.returns-else-not-is_refused_growth c).After-step_lending-reply in
    let ran = run_of_one (optional_rules tenant_rules) _ _ _ _ c.step_lending-reply.ensures in
    record {
      run = runs_as_part c.self.view_is c.self.invariant c.requires.part c.new-tenant.ensures.value ran after.0 _
          (all_same c.self.view_is c.self.invariant c.requires.part c.new-tenant.ensures.value ran after.0
          (after.1 (c.is_refused_growth.ensures c.if-not-is_refused_growth.false)));
    }
