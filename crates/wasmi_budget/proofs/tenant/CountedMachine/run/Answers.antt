use Rattle.std.proofs.Common.{◌∙◌, refl}
use Rattle.wasmi_meter.specs.declared.limiter.Kind.TheVariants.{Bytes, Elements}
use Rattle.wasmi_budget.proofs.TenantLemmas.{all_before, part_fits, part_held}
use Rattle.wasmi_budget.proofs.TenantsLemmas.{only_error}
use Rattle.wasmi_budget.specs.declared.error.PoolError.TheVariants.{OutOfMemory}
use Rattle.wasmi_budget.proofs.tenant.CountedMachine.run.Goals as goal

pub new-tenant-requires : goal.new-tenant-requires
new-tenant-requires c =
    let less = part_held c.self.view_is c.self.invariant c.requires.part in
    record { bytes = less Bytes; elements = less Elements }

pub leave-requires : goal.leave-requires
leave-requires c = record {
  fits = part_fits c.self.view_is c.self.invariant c.requires.part c.new-tenant.ensures.value
      c.in_ok-replies.ensures.run;
  before = all_before c.self.view_is c.self.invariant c.requires.part c.new-tenant.ensures.value
      c.in_ok-replies.ensures.run;
}

pub returns-in_err-replies-clause-err : goal.returns-in_err-replies-clause-err
returns-in_err-replies-clause-err c = rw (only_error OutOfMemory _ c.from_residual.ensures.1)
    (refl, c.in_err-replies.ensures.err.0 ∙ c.self.view_is, refl)
