use Rattle.wasmi_lanewise.proofs.MarkLemmas.{equal_where_zero, different_where_some}
use Rattle.wasmi_lanewise.proofs.simd.ones_if_equal.Goals as goal

pub returns-then-word_differ-eq0 : goal.returns-then-word_differ-eq0
returns-then-word_differ-eq0 c =
    equal_where_zero c.ranges.a.fits c.ranges.b.fits c.word_differ.ensures.lanes _ _ c.if-word_differ-eq0.true

pub returns-else-word_differ-eq0 : goal.returns-else-word_differ-eq0
returns-else-word_differ-eq0 c =
    different_where_some c.ranges.a.fits c.ranges.b.fits c.word_differ.ensures.lanes _ _ c.word_differ.type_inv
    c.if-word_differ-eq0.false
