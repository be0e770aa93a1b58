use Rattle.std.proofs.Common.{rules, lit<, w64}
use Rattle.wasmi_scalar.proofs.NumericsLemmas.{cut_amount_is, shifted}
use Rattle.wasmi_scalar.proofs.value.I64Integer.shl.Goals as goal

pub returns : goal.returns
returns c = shifted w64 c.args.lhs c.args.rhs c.wrapping_shl.result c.amount.result c.ranges.lhs (search rules)
    (cut_amount_is w64 c.args.rhs c.amount.result (lit< tt) c.ranges.rhs c.amount.ensures) c.wrapping_shl.ensures
