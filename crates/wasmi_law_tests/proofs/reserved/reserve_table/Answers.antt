use Rattle.wasmi_law_tests.proofs.ReservedLemmas.{reserved_table}
use Rattle.wasmi_law_tests.proofs.reserved.reserve_table.Goals as goal

pub returns : goal.returns
returns c = record {
  reserved = reserved_table c.args.table c.args.maximum c.args.machine.now.tables c.reserve_elements.result
      c.reserve_elements.new.self.tables c.requires.most c.reserve_elements.ensures.tables;
}
