use Rattle.std.proofs.Common.{Err, rules}
use Rattle.wasmi_grammar.proofs.Common.{BadCommand, Limits, refused_through}
use Rattle.wasmi_grammar.proofs.LimitWordsLemmas.{table_read}
use Rattle.wasmi_grammar.proofs.command.table_type.Goals as goal

pub returns-in_err-element : goal.returns-in_err-element
returns-in_err-element c =
    refused_through c.in_err-element.field-0.0 c.from_residual.result (search rules)
    (λ ty w.
    let limits = w.1.limits_words in (
      (ty.element, ty.minimum, ty.maximum, ty.index),
      (w.0, w.1.element_text, limits.minimum_word, limits.maximum_word, limits.width_text),
    )) c.in_err-element.ensures

pub returns-then-is_some_and : goal.returns-then-is_some_and
returns-then-is_some_and c =
    let read = c.in_ok-element in
    let (many, element, minimum, maximum, width) = read.ensures in
    let limits : Limits = record { index = read.index; minimum = read.minimum; maximum = read.maximum } in
    table_read {limits = limits} read.element (Err BadCommand) many element
    (record { minimum_word = minimum; maximum_word = maximum; width_text = width }) (search rules)

pub returns-in_err-maximum-in-I32 : goal.returns-in_err-maximum-in-I32
returns-in_err-maximum-in-I32 c =
    let read = c.in_ok-element in
    let (many, element, minimum, maximum, width) = read.ensures in
    let limits : Limits = record { index = read.index; minimum = read.minimum; maximum = read.maximum } in
    table_read {limits = limits} read.element c.from_residual-in_err-maximum-in-I32.result many element
    (record { minimum_word = minimum; maximum_word = maximum; width_text = width }) (search rules)
