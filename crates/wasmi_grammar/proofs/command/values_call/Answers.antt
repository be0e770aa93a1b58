use Rattle.std.proofs.Common.{codes, refl, rules, sym, tests}
use Rattle.wasmi_operands.specs.declared.error.LineError.TheVariants.{BadCommand}
use Rattle.wasmi_grammar.proofs.CommandsLemmas.{refused_named}
use Rattle.wasmi_grammar.proofs.command.values_call.Goals as goal

pub returns-in_err-one-in-fuel : goal.returns-in_err-one-in-fuel
returns-in_err-one-in-fuel c = record { call = refused_named _ (search rules) c.in-fuel.is c.in_err-one-in-fuel.ensures }

pub returns-in_ok-one-in-fuel : goal.returns-in_ok-one-in-fuel
returns-in_ok-one-in-fuel c = record { call = (sym c.in-fuel.is, c.in_ok-one-in-fuel.ensures) }

pub returns-in-left : goal.returns-in-left
returns-in-left c = record { call = (sym c.in-left.is, search (rules, tests)) }

pub returns-in-left-2 : goal.returns-in-left-2
returns-in-left-2 c = record { call = refused_named _ {error = BadCommand} refl c.in-left.is (λ a none. search (rules, tests)) }

pub returns-in_err-content-in-global : goal.returns-in_err-content-in-global
returns-in_err-content-in-global c = record { call = refused_named _ (search rules) c.in-global.is c.in_err-content-in-global.ensures }

pub returns-in_ok-content-in-global : goal.returns-in_ok-content-in-global
returns-in_ok-content-in-global c = record { call = rw c.new.ensures (sym c.in-global.is, c.in_ok-content-in-global.ensures) }

pub returns-in_ok-global-in-gset : goal.returns-in_ok-global-in-gset
returns-in_ok-global-in-gset c = record { call = rw c.new-in-gset.ensures (sym c.in-gset.is, c.in_ok-global-in-gset.ensures) }

pub returns-in_err-global-in-gset : goal.returns-in_err-global-in-gset
returns-in_err-global-in-gset c = record { call = refused_named _ (search rules) c.in-gset.is c.in_err-global-in-gset.ensures }

pub returns-in_err-one-in-gget : goal.returns-in_err-one-in-gget
returns-in_err-one-in-gget c = record { call = refused_named _ (search rules) c.in-gget.is c.in_err-one-in-gget.ensures }

pub returns-in_ok-one-in-gget : goal.returns-in_ok-one-in-gget
returns-in_ok-one-in-gget c = record { call = (sym c.in-gget.is, c.in_ok-one-in-gget.ensures) }

pub returns-in_ok-dst-in-set : goal.returns-in_ok-dst-in-set
returns-in_ok-dst-in-set c = record { call = (sym c.in-set.is, c.in_ok-dst-in-set.ensures) }

pub returns-in_err-dst-in-set : goal.returns-in_err-dst-in-set
returns-in_err-dst-in-set c = record { call = refused_named _ (search rules) c.in-set.is c.in_err-dst-in-set.ensures }

pub returns-in_err-one-in_default : goal.returns-in_err-one-in_default
returns-in_err-one-in_default c = record { call = refused_named {word = codes "show"} _ (search rules) (search rules) c.in_err-one-in_default.ensures }

pub returns-in_ok-one-in_default : goal.returns-in_ok-one-in_default
returns-in_ok-one-in_default c = record { call = (search rules, c.in_ok-one-in_default.ensures) }
