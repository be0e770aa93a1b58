use Rattle.wasmi_law_tests.proofs.HostsLemmas.{beside}
use Rattle.wasmi_law_tests.proofs.hosts.call_beside.Goals as goal

pub returns : goal.returns
returns c = record {
  others = λ pool other there apart.
      beside c.args.call.now c.args.tenant other _ _ _ pool c.call.ensures.step there apart;
}
