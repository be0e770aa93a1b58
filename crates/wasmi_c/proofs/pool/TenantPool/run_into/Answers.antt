use Rattle.std.proofs.Common.{◌∙◌, ◌≡◌, Some, inr, refl, rules, sym}
use Rattle.wasmi_c.proofs.Common.{length-set, machine_of, RepliesInTurn, TenantRepliesToStruct}
use Rattle.wasmi_c.proofs.MachineLemmas.{all_in_turn, next_in_turn}
use Rattle.wasmi_c.proofs.pool.TenantPool.run_into.Goals as goal

pub loop-i-preserved : goal.loop-i-preserved
loop-i-preserved c = record {
  ran = next_in_turn (λ numbers before reply after. TenantRepliesToStruct c.args.tenant numbers reply before after)
      c.args.calls.now c.loop-i.i _ c.args.self.now c.loop-i.replies
      c.reply_to_any_struct.result c.loop-i.self c.reply_to_any_struct.new.self c.loop-i.invariant.ran c.loop-i-test.true
      c.loop-i.invariant.places c.reply_to_any_struct.ensures.step;
  caps = c.reply_to_any_struct.ensures.caps ∙ c.loop-i.invariant.caps;
  places = length-set _ _ _ ∙ c.loop-i.invariant.places;
}

pub returns-clause-step : goal.returns-clause-step
unfolding RepliesInTurn
returns-clause-step c =
    let found : machine_of c.args.self.now c.args.tenant ≡ Some c.in-Some.field-0.now = search rules in
    rw found (inr (
      sym c.if-replies-calls.false,
      refl,
      all_in_turn (λ numbers before reply after. TenantRepliesToStruct c.args.tenant numbers reply before after)
          c.args.calls.now c.loop-i.i c.args.self.now c.loop-i.replies c.loop-i.self c.loop-i.invariant.ran
          c.loop-i-test.false c.loop-i.invariant.places,
    ))
