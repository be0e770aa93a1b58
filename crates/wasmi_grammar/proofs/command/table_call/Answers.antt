use Rattle.std.proofs.Common.{codes, rules, sym}
use Rattle.wasmi_grammar.proofs.CommandsLemmas.{refused_named}
use Rattle.wasmi_grammar.proofs.command.table_call.Goals as goal

pub returns-in-table : goal.returns-in-table
returns-in-table c = record { call = rw c.in-table.is c.new_table.ensures }

pub returns-in_err-table-in-tgrow : goal.returns-in_err-table-in-tgrow
returns-in_err-table-in-tgrow c = record { call = refused_named _ (search rules) c.in-tgrow.is c.in_err-table-in-tgrow.ensures }

pub returns-in_ok-table-in-tgrow : goal.returns-in_ok-table-in-tgrow
returns-in_ok-table-in-tgrow c =
    let w = c.in_ok-table-in-tgrow.ensures in
    record { call = rw c.new.ensures (sym c.in-tgrow.is, (w.0, w.1, w.2, (w.3, w.4))) }

pub returns-in_err-table-in-tset : goal.returns-in_err-table-in-tset
returns-in_err-table-in-tset c = record { call = refused_named _ (search rules) c.in-tset.is c.in_err-table-in-tset.ensures }

pub returns-in_ok-table-in-tset : goal.returns-in_ok-table-in-tset
returns-in_ok-table-in-tset c =
    let w = c.in_ok-table-in-tset.ensures in
    record { call = rw c.new-in-tset.ensures (sym c.in-tset.is, (w.0, w.1, w.2, (w.3, w.4))) }

pub returns-in_err-table-in-fill : goal.returns-in_err-table-in-fill
returns-in_err-table-in-fill c = record { call = refused_named _ (search rules) c.in-fill.is c.in_err-table-in-fill.ensures }

pub returns-in_ok-table-in-fill : goal.returns-in_ok-table-in-fill
returns-in_ok-table-in-fill c =
    let w = c.in_ok-table-in-fill.ensures in
    record { call = rw c.new-in-fill.ensures (sym c.in-fill.is, (w.0, w.1, w.2, (w.3, w.4), w.5)) }

pub returns-in_err-one-in-dempty : goal.returns-in_err-one-in-dempty
returns-in_err-one-in-dempty c = record { call = refused_named _ (search rules) c.in-dempty.is c.in_err-one-in-dempty.ensures }

pub returns-in_ok-one-in-dempty : goal.returns-in_ok-one-in-dempty
returns-in_ok-one-in-dempty c = record { call = (sym c.in-dempty.is, c.in_ok-one-in-dempty.ensures) }

pub returns-in_err-one-in_default : goal.returns-in_err-one-in_default
returns-in_err-one-in_default c = record { call = refused_named {word = codes "empty"} _ (search rules) (search rules) c.in_err-one-in_default.ensures }

pub returns-in_ok-one-in_default : goal.returns-in_ok-one-in_default
returns-in_ok-one-in_default c = record { call = (search rules, c.in_ok-one-in_default.ensures) }

-- What tools/generate writes begins.
pub returns-in_err-table-in-get : goal.returns-in_err-table-in-get
returns-in_err-table-in-get c = record { call = refused_named _ (search rules) c.in-get.is c.in_err-table-in-get.ensures }

pub returns-in_ok-table-in-get : goal.returns-in_ok-table-in-get
returns-in_ok-table-in-get c = record { call = (sym c.in-get.is, c.in_ok-table-in-get.ensures) }

pub returns-in_err-table-in-init : goal.returns-in_err-table-in-init
returns-in_err-table-in-init c = record { call = refused_named _ (search rules) c.in-init.is c.in_err-table-in-init.ensures }

pub returns-in_ok-table-in-init : goal.returns-in_ok-table-in-init
returns-in_ok-table-in-init c = record { call = (sym c.in-init.is, c.in_ok-table-in-init.ensures) }

pub returns-in_err-dst_table-in-copy : goal.returns-in_err-dst_table-in-copy
returns-in_err-dst_table-in-copy c = record { call = refused_named _ (search rules) c.in-copy.is c.in_err-dst_table-in-copy.ensures }

pub returns-in_ok-dst_table-in-copy : goal.returns-in_ok-dst_table-in-copy
returns-in_ok-dst_table-in-copy c = record { call = (sym c.in-copy.is, c.in_ok-dst_table-in-copy.ensures) }

-- What tools/generate writes ends.
