use Rattle.std.proofs.Common.{rules}
use Rattle.wasmi_operands.proofs.LineWordsLemmas.{refused_through}
use Rattle.wasmi_grammar.proofs.header.reserve_line.Goals as goal

pub returns-in_err-memories : goal.returns-in_err-memories
returns-in_err-memories c =
    refused_through c.in_err-memories.field-0.0 c.from_residual.result (search rules)
    (λ slots w. ((slots.memories, slots.tables, slots.segments, slots.data_segments, slots.globals), w))
    c.in_err-memories.ensures
