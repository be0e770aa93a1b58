use Rattle.std.proofs.Common.{rules, w32}
use Rattle.wasmi_scalar.proofs.NumericsLemmas.{amount_is, shifted}
use Rattle.wasmi_scalar.proofs.value.I32Integer.shl.Goals as goal

pub returns : goal.returns
returns c = shifted w32 c.args.lhs c.args.rhs c.wrapping_shl.result c.cast_unsigned.result c.ranges.lhs (search rules)
    (amount_is w32 c.args.rhs c.cast_unsigned.result c.ranges.rhs c.cast_unsigned.ensures) c.wrapping_shl.ensures
