use Rattle.std.proofs.Common.{rules, lit<, w32}
use Rattle.wasmi_scalar.proofs.NumericsLemmas.{amount_is, rotated_to_left}
use Rattle.wasmi_scalar.proofs.value.I32Integer.rotl.Goals as goal

pub returns : goal.returns
returns c = rotated_to_left w32 c.args.lhs c.args.rhs c.rotate_left.result c.cast_unsigned.result (lit< tt)
    c.ranges.lhs (search rules)
    (amount_is w32 c.args.rhs c.cast_unsigned.result c.ranges.rhs c.cast_unsigned.ensures) c.rotate_left.ensures
