use Rattle.std.proofs.Common.{◌∙◌, refl, w16}
use Rattle.wasmi_lanewise.proofs.ShiftLemmas.{mask_at}
use Rattle.wasmi_lanewise.proofs.shift.U16NarrowLane.shift_masks.Goals as goal

pub returns : goal.returns
returns c = record { masks = c.u64x2_of.ensures ∙ mask_at w16 _ c.requires.dropped _ _ refl c.from.ensures refl }
