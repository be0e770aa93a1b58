use Rattle.std.proofs.Common.{refl}
use Rattle.std.proofs.lemmas.Result.{IfErr-weaker}
use Rattle.wasmi_grammar.proofs.LinesLemmas.{at_places}
use Rattle.wasmi_grammar.proofs.OneScriptLemmas.{no_words}
use Rattle.wasmi_grammar.proofs.script.Script.take_line.Goals as goal

pub returns-clause-refused : goal.returns-clause-refused
returns-clause-refused c =
    let words = c.args.words.now in
    let line = c.in_ok-line.line in
    let names = at_places words _ line refl c.in_ok-line.ensures in
    IfErr-weaker c.take.result _ _
    (λ error refused bad. no_words c.args.self.now words line c.in-len1-up.len_at_least names (refused bad))
    c.take.ensures.refused
