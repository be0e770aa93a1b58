use Rattle.std.proofs.Common.{◌∙◌, ap, rules}
use Rattle.wasmi_raw.specs.RawVal.{raw_of_vector}
use Rattle.wasmi_scalar_ops.proofs.wide.i64_sub128.Goals as goal

pub returns : goal.returns
returns c =
    rw (← c.words-lhs_lo.ensures, ← c.words-rhs_lo.ensures) (c.of_words.ensures ∙ ap raw_of_vector (search rules))
