use Rattle.std.proofs.Common.{rules, sym}
use Rattle.wasmi_grammar.proofs.CommandsLemmas.{refused_named}
use Rattle.wasmi_grammar.proofs.command.vector_call.Goals as goal

-- What tools/generate writes begins.
pub returns-in_err-op-in-make : goal.returns-in_err-op-in-make
returns-in_err-op-in-make c = record { call = refused_named _ (search rules) c.in-make.is c.in_err-op-in-make.ensures }

pub returns-in_ok-op-in-make : goal.returns-in_ok-op-in-make
returns-in_ok-op-in-make c = record { call = (sym c.in-make.is, c.in_ok-op-in-make.ensures) }

pub returns-in_err-op-in-unary : goal.returns-in_err-op-in-unary
returns-in_err-op-in-unary c = record { call = refused_named _ (search rules) c.in-unary.is c.in_err-op-in-unary.ensures }

pub returns-in_ok-op-in-unary : goal.returns-in_ok-op-in-unary
returns-in_ok-op-in-unary c = record { call = (sym c.in-unary.is, c.in_ok-op-in-unary.ensures) }

pub returns-in_err-op-in-binary : goal.returns-in_err-op-in-binary
returns-in_err-op-in-binary c = record { call = refused_named _ (search rules) c.in-binary.is c.in_err-op-in-binary.ensures }

pub returns-in_ok-op-in-binary : goal.returns-in_ok-op-in-binary
returns-in_ok-op-in-binary c = record { call = (sym c.in-binary.is, c.in_ok-op-in-binary.ensures) }

pub returns-in_err-op-in-ternary : goal.returns-in_err-op-in-ternary
returns-in_err-op-in-ternary c = record { call = refused_named _ (search rules) c.in-ternary.is c.in_err-op-in-ternary.ensures }

pub returns-in_ok-op-in-ternary : goal.returns-in_ok-op-in-ternary
returns-in_ok-op-in-ternary c = record { call = (sym c.in-ternary.is, c.in_ok-op-in-ternary.ensures) }

pub returns-in_err-op-in-shift : goal.returns-in_err-op-in-shift
returns-in_err-op-in-shift c = record { call = refused_named _ (search rules) c.in-shift.is c.in_err-op-in-shift.ensures }

pub returns-in_ok-op-in-shift : goal.returns-in_ok-op-in-shift
returns-in_ok-op-in-shift c = record { call = (sym c.in-shift.is, c.in_ok-op-in-shift.ensures) }

pub returns-in_err-op-in-test : goal.returns-in_err-op-in-test
returns-in_err-op-in-test c = record { call = refused_named _ (search rules) c.in-test.is c.in_err-op-in-test.ensures }

pub returns-in_ok-op-in-test : goal.returns-in_ok-op-in-test
returns-in_ok-op-in-test c = record { call = (sym c.in-test.is, c.in_ok-op-in-test.ensures) }

-- What tools/generate writes ends.
