use Rattle.wasmi_grammar.proofs.OneScriptLemmas.{texts_unique}
use Rattle.wasmi_grammar.proofs.laws.texts_write_one_script.Goals as goal

pub returns : goal.returns
returns c = texts_unique
