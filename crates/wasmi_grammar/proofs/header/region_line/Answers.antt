use Rattle.std.proofs.Common.{rules}
use Rattle.wasmi_operands.proofs.LineWordsLemmas.{refused_through}
use Rattle.wasmi_grammar.proofs.header.region_line.Goals as goal

pub returns-in_err-len : goal.returns-in_err-len
returns-in_err-len c =
    refused_through c.in_err-len.field-0.0 c.from_residual.result (search rules) (λ line w. ((line.len, line.byte), w))
    c.in_err-len.ensures
