use Rattle.std.proofs.Common.{◌≡◌, ◌+◌, ◌∙◌, Err, rules, ap, add-one, arith}
use Rattle.wasmi_operands.proofs.LineWordsLemmas.{one_more, refused_list}
use Rattle.wasmi_operands.proofs.operand.list_of.Goals as goal

pub loop-word-preserved : goal.loop-word-preserved
loop-word-preserved g c = record {
  written = rw (c.push_reserved.ensures.items, add-one) (one_more g.T.Operand.writes c.args.words.now
      c.loop-word.word-index _ _ _ c.loop-word-test.true c.loop-word.invariant.written c.in_ok-from_word.ensures);
  count = c.push_reserved.ensures.len ∙ ap (λ n. n + 1) c.loop-word.invariant.count;
  room = omega (arith, c.push_reserved.ensures.capacity);
}

pub returns-in_err-from_word : goal.returns-in_err-from_word
returns-in_err-from_word g c =
    let words = c.args.words.now in
    let same : c.from_residual-in_err-from_word.result ≡ Err c.in_err-from_word.field-0.0 = search rules in
    rw same (refused_list g.T.Operand.writes (λ list. list.items) words c.loop-word.word-index _
    c.in_err-from_word.field-0.0 c.loop-word-test.true c.in_err-from_word.ensures)
