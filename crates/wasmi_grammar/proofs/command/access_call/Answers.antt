use Rattle.std.proofs.Common.{rules, sym}
use Rattle.wasmi_operands.proofs.LineWordsLemmas.{refused_with}
use Rattle.wasmi_grammar.proofs.CommandsLemmas.{refused_named}
use Rattle.wasmi_grammar.proofs.command.access_call.Goals as goal

pub returns-in-vloadlane : goal.returns-in-vloadlane
returns-in-vloadlane c = record { call = rw c.in-vloadlane.is c.load_lane.ensures }

pub returns-in_err-op-in-store : goal.returns-in_err-op-in-store
returns-in_err-op-in-store c = record {
  call = refused_named _ (search rules) c.in-store.is
      (refused_with c.in_err-op-in-store.field-0.0 _ _
      (λ a w. ((a.0, a.1, a.2, a.3, w.5), (w.0, w.1, w.2, w.3, w.4, w.6))) c.in_err-op-in-store.ensures);
}

-- What tools/generate writes begins.
pub returns-in_err-op-in-load : goal.returns-in_err-op-in-load
returns-in_err-op-in-load c = record { call = refused_named _ (search rules) c.in-load.is c.in_err-op-in-load.ensures }

pub returns-in_ok-op-in-load : goal.returns-in_ok-op-in-load
returns-in_ok-op-in-load c = record { call = (sym c.in-load.is, c.in_ok-op-in-load.ensures) }

pub returns-in_err-op-in-vload : goal.returns-in_err-op-in-vload
returns-in_err-op-in-vload c = record { call = refused_named _ (search rules) c.in-vload.is c.in_err-op-in-vload.ensures }

pub returns-in_ok-op-in-vload : goal.returns-in_ok-op-in-vload
returns-in_ok-op-in-vload c = record { call = (sym c.in-vload.is, c.in_ok-op-in-vload.ensures) }

pub returns-in_err-a-in-vstore : goal.returns-in_err-a-in-vstore
returns-in_err-a-in-vstore c = record { call = refused_named _ (search rules) c.in-vstore.is c.in_err-a-in-vstore.ensures }

pub returns-in_ok-a-in-vstore : goal.returns-in_ok-a-in-vstore
returns-in_ok-a-in-vstore c = record { call = (sym c.in-vstore.is, c.in_ok-a-in-vstore.ensures) }

-- What tools/generate writes ends.
