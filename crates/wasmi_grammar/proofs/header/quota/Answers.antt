use Rattle.std.proofs.Common.{rules}
use Rattle.wasmi_operands.proofs.LineWordsLemmas.{refused_through}
use Rattle.wasmi_grammar.proofs.HeadersLemmas.{caps_of}
use Rattle.wasmi_grammar.proofs.header.quota.Goals as goal

pub returns-in_err-bytes : goal.returns-in_err-bytes
returns-in_err-bytes c =
    refused_through c.in_err-bytes.field-0.0 c.from_residual.result (search rules) (caps_of c.args.operands.now)
    c.in_err-bytes.ensures
