use Rattle.std.proofs.Common.{ltb, w16}
use Rattle.wasmi_lanes.proofs.ItemLemmas.{items, chosen_by}
use Rattle.wasmi_lanes.proofs.simd_lane.U16SimdLane.choose_if_less.Goals as goal

pub returns : goal.returns
returns c = record {
  lanes = (chosen_by w16 ltb (items 8 c.args.a c.fits-a.0) (items 8 c.args.b c.fits-b.0)
      (items 8 c.args.chosen c.fits-chosen.0) (items 8 c.args.other c.fits-other.0)).are;
}
