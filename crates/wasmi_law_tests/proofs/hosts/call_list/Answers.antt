use Rattle.wasmi_law_tests.proofs.HostsLemmas.{list_runs}
use Rattle.wasmi_law_tests.proofs.hosts.call_list.Goals as goal

pub returns : goal.returns
returns c = record {
  run = λ known done are.
      list_runs c.calls_are_runs.ensures.lists c.args.calls.now known c.args.replies.now _ _ c.args.machine.now _
      c.run_into.ensures.step done are;
}
