use Rattle.std.proofs.Common.{◌∙◌, filter, length, lit<, nat_lt, ap}
use Rattle.std.proofs.lemmas.Iterator.Consumers.{YieldsList-at, YieldsList-end}
use Rattle.std.proofs.lemmas.Iterator.Splits.{YieldsList-from_str_split}
use Rattle.wasmi_operands.specs.LineWords.{words_in}
use Rattle.wasmi_operands.proofs.operand.read_words.Goals as goal

pub returns : goal.returns
unfolding words_in
returns c =
    let split = c.split-word-items.ensures in
    let all = YieldsList-end (YieldsList-at c.into_iter-word-iterator.ensures.into_iter_gives
    (YieldsList-from_str_split 32 c.args.line.now (lit< tt) split.text split.has_more split.pattern))
    c.loop-word.yielded _ c.loop-word.yielded_by _ _ c.in-None.is c.next.ensures.steps in
    c.loop-word.invariant ∙ ap (filter (λ word. nat_lt 0 (length word))) all.0
