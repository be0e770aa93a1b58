use Rattle.std.proofs.Common.{None, Some, sym, ◌∙◌, ◌≡◌, arith}
use Rattle.wasmi_law_tests.proofs.Common.{on_ok_weaker}
use Rattle.wasmi_law_tests.proofs.ReservedLemmas.{accepted_there}
use Rattle.wasmi_law_tests.proofs.reserved.run_tenant_reserved.Goals as goal

pub returns : goal.returns
returns c = record {
  made = λ s found room. accepted_there c.run_into.result
      (λ missing. let none : None ≡ Some s = sym (c.run_into.ensures.no_tenant.0 missing) ∙ found in absurd cc)
      (λ many. omega (arith, c.run_into.ensures.too_many many, room));
  has = on_ok_weaker c.run_into.result (λ r. c.reserved_suffices.ensures.run c.args.calls.now _
      c.run_into.new.replies.items _ (c.requires.reserved r.machine r.found) r.ran) c.run_into.ensures.ran;
}
