use Rattle.std.proofs.Common.{[], ◌∷◌}
use Rattle.wasmi_law_tests.proofs.HostsLemmas.{placed}
use Rattle.wasmi_law_tests.proofs.hosts.call_twice.Goals as goal

pub returns : goal.returns
returns c = record {
  run = λ machine call call' there is is'.
      let one = placed c.args.first.now _ _ _ machine call c.call-reply.ensures.step there is in
      let two = placed c.args.second.now _ _ _ one.0 call' c.call.ensures.step one.2 is' in
      let run = c.calls_are_runs.ensures.call call machine one.1.0 one.0 one.1.1 in
      let run' = c.calls_are_runs.ensures.call call' one.0 two.1.0 two.0 two.1.1 in (
        one.1.0,
        two.1.0,
        two.0,
        c.calls_are_runs.ensures.join (call ∷ []) (call' ∷ []) machine one.0 two.0 _ _ run run',
        (λ i. (one.1.2 i, two.1.2 i)),
        two.2,
      );
}
