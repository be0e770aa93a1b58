use Rattle.std.proofs.Common.{◌%◌, ◌∙◌, ap, refl, arith}
use Rattle.wasmi_lanewise.proofs.ShiftLemmas.{words_shifted_right}
use Rattle.wasmi_lanewise.proofs.shift.shifted_right.Goals as goal

pub returns : goal.returns
returns g c =
    words_shifted_right g.T.LaneInteger.width g.met.T.WordLane.laws.whole c.args.v c.args.amount _ (omega arith)
    (c.from-amount.ensures ∙ ap (λ n. c.args.amount % n) (c.BITS.ensures ∙ g.met.T.WordLane.laws.wide))
    (c.from_u64x2.ensures _ _ (rw c.u64x2_of.ensures (rw c.shift_masks-kept.ensures.masks refl)))
