use Rattle.wasmi_grammar.proofs.OneScriptLemmas.{no_bad_line}
use Rattle.wasmi_grammar.proofs.laws.written_texts_have_no_bad_line.Goals as goal

pub returns : goal.returns
returns c = no_bad_line
