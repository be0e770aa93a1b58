use Rattle.wasmi_grammar.proofs.OneScriptLemmas.{bad_lines_once}
use Rattle.wasmi_grammar.proofs.laws.first_bad_lines_are_one.Goals as goal

pub returns : goal.returns
returns c = bad_lines_once
