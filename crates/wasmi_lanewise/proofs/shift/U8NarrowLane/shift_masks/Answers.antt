use Rattle.std.proofs.Common.{◌∙◌, refl, w8}
use Rattle.wasmi_lanewise.proofs.ShiftLemmas.{mask_at}
use Rattle.wasmi_lanewise.proofs.shift.U8NarrowLane.shift_masks.Goals as goal

pub returns : goal.returns
returns c = record { masks = c.u64x2_of.ensures ∙ mask_at w8 _ c.requires.dropped _ _ refl c.from.ensures refl }
