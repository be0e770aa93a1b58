use Rattle.std.proofs.Common.{rules, sym}
use Rattle.wasmi_grammar.proofs.CommandsLemmas.{refused_named}
use Rattle.wasmi_grammar.proofs.command.memory_call.Goals as goal

-- What tools/generate writes begins.
pub returns-in_err-memory-in-grow : goal.returns-in_err-memory-in-grow
returns-in_err-memory-in-grow c = record { call = refused_named _ (search rules) c.in-grow.is c.in_err-memory-in-grow.ensures }

pub returns-in_ok-memory-in-grow : goal.returns-in_ok-memory-in-grow
returns-in_ok-memory-in-grow c = record { call = (sym c.in-grow.is, c.in_ok-memory-in-grow.ensures) }

pub returns-in_err-memory-in-read : goal.returns-in_err-memory-in-read
returns-in_err-memory-in-read c = record { call = refused_named _ (search rules) c.in-read.is c.in_err-memory-in-read.ensures }

pub returns-in_ok-memory-in-read : goal.returns-in_ok-memory-in-read
returns-in_ok-memory-in-read c = record { call = (sym c.in-read.is, c.in_ok-memory-in-read.ensures) }

pub returns-in_err-memory-in-mfill : goal.returns-in_err-memory-in-mfill
returns-in_err-memory-in-mfill c = record { call = refused_named _ (search rules) c.in-mfill.is c.in_err-memory-in-mfill.ensures }

pub returns-in_ok-memory-in-mfill : goal.returns-in_ok-memory-in-mfill
returns-in_ok-memory-in-mfill c = record { call = (sym c.in-mfill.is, c.in_ok-memory-in-mfill.ensures) }

pub returns-in_err-dst_memory-in-mcopy : goal.returns-in_err-dst_memory-in-mcopy
returns-in_err-dst_memory-in-mcopy c = record { call = refused_named _ (search rules) c.in-mcopy.is c.in_err-dst_memory-in-mcopy.ensures }

pub returns-in_ok-dst_memory-in-mcopy : goal.returns-in_ok-dst_memory-in-mcopy
returns-in_ok-dst_memory-in-mcopy c = record { call = (sym c.in-mcopy.is, c.in_ok-dst_memory-in-mcopy.ensures) }

pub returns-in_err-memory-in-minit : goal.returns-in_err-memory-in-minit
returns-in_err-memory-in-minit c = record { call = refused_named _ (search rules) c.in-minit.is c.in_err-memory-in-minit.ensures }

pub returns-in_ok-memory-in-minit : goal.returns-in_ok-memory-in-minit
returns-in_ok-memory-in-minit c = record { call = (sym c.in-minit.is, c.in_ok-memory-in-minit.ensures) }

-- What tools/generate writes ends.
