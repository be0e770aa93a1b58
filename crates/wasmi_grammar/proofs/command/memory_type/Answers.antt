use Rattle.std.proofs.Common.{rules}
use Rattle.wasmi_grammar.proofs.Common.{Limits, refused_through, page_log2}
use Rattle.wasmi_grammar.proofs.LimitWordsLemmas.{memory_read}
use Rattle.wasmi_grammar.proofs.command.memory_type.Goals as goal

pub returns-in_err-minimum : goal.returns-in_err-minimum
returns-in_err-minimum c =
    refused_through c.in_err-minimum.field-0.0 c.from_residual.result (search rules)
    (λ ty w.
    let limits = w.1.limits_words in (
      (ty.minimum, ty.maximum, page_log2 ty.page, ty.index),
      (w.0, limits.minimum_word, limits.maximum_word, w.1.log2_word, limits.width_text),
    )) c.in_err-minimum.ensures

pub returns : goal.returns
returns c =
    let read = c.in_ok-minimum in
    let (many, minimum, maximum, log2, width) = read.ensures in
    let limits : Limits = record { index = read.index; minimum = read.minimum; maximum = read.maximum } in
    memory_read {limits = limits} _ c.map_err.result many
    (record { minimum_word = minimum; maximum_word = maximum; width_text = width }) log2 (search rules)
