use Rattle.wasmi_example_callers.proofs.HostLemmas.{run_capped}
use Rattle.wasmi_example_callers.proofs.host.run_plugin.Goals as goal

pub returns-clause-run : goal.returns-clause-run
returns-clause-run c = record {
  quota = c.new-quota.result;
  bytes_cap = c.new-quota.ensures.bytes;
  elements_cap = c.new-quota.ensures.elements;
  quota' = c.run_reserving.new.limiter;
  ran = rw c.new-machine.ensures at c.in_ok-replies.ensures.run;
}

pub returns-clause-bytes : goal.returns-clause-bytes
unfolding returns-clause-run
returns-clause-bytes c =
    (run_capped c.quotas_stay_within.ensures (returns-clause-run c) c.new-quota.ensures.within
    c.in_ok-replies.ensures.held).bytes

pub returns-clause-elements : goal.returns-clause-elements
unfolding returns-clause-run
returns-clause-elements c =
    (run_capped c.quotas_stay_within.ensures (returns-clause-run c) c.new-quota.ensures.within
    c.in_ok-replies.ensures.held).elements
