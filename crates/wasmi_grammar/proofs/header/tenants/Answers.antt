use Rattle.std.proofs.Common.{rules}
use Rattle.wasmi_operands.proofs.LineWordsLemmas.{refused_through}
use Rattle.wasmi_grammar.proofs.HeadersLemmas.{numbers_of}
use Rattle.wasmi_grammar.proofs.header.tenants.Goals as goal

pub returns-in_err-count : goal.returns-in_err-count
returns-in_err-count c =
    refused_through c.in_err-count.field-0.0 c.from_residual.result (search rules) (numbers_of c.args.operands.now)
    c.in_err-count.ensures
