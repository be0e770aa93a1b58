use Rattle.std.proofs.Common.{rules, lit<, w64}
use Rattle.wasmi_scalar.proofs.NumericsLemmas.{cut_amount_is, rotated_to_right}
use Rattle.wasmi_scalar.proofs.value.I64Integer.rotr.Goals as goal

pub returns : goal.returns
returns c = rotated_to_right w64 c.args.lhs c.args.rhs c.rotate_right.result c.amount.result (lit< tt) c.ranges.lhs
    (search rules) (cut_amount_is w64 c.args.rhs c.amount.result (lit< tt) c.ranges.rhs c.amount.ensures)
    c.rotate_right.ensures
