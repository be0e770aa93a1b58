use Rattle.std.proofs.Common.{◌≡◌, Err, codes, rules, tests}
use Rattle.std.specs.Global.{Vec}
use Rattle.wasmi_meter.specs.declared.answer_list.LimiterAnswer.{LimiterAnswer}
use Rattle.wasmi_grammar.proofs.Common.{LimiterLine, Answers, LineWords, WritesEach, WritesAnswer, NamesLimiterAfter, refused_with_memory}
use Rattle.wasmi_grammar.proofs.header.listed.Goals as goal

-- a line of answers has the words of answers
answers_of_line : (words : LineWords) (line : LimiterLine) → NamesLimiterAfter (codes "answers") words line
    → (answers : Vec LimiterAnswer) × WritesEach WritesAnswer words answers.items
answers_of_line words (Answers answers) names = (answers, names.1)
answers_of_line words line names = absurd (search (rules, tests, names))

pub returns-in_err-list_of : goal.returns-in_err-list_of
returns-in_err-list_of c =
    let same : c.from_residual.result ≡ Err c.in_err-list_of.field-0.0 = search rules in
    rw same
    (refused_with_memory c.in_err-list_of.field-0.0 _ _ (answers_of_line c.args.operands.now) c.in_err-list_of.ensures)
