use Rattle.std.proofs.Common.{◌∙◌, w8}
use Rattle.wasmi_lanes.specs.Vector.{lane}
use Rattle.wasmi_lanes.proofs.VariableLaneLemmas.{indices_are, indices_may_index, picked_inside_at}
use Rattle.wasmi_lanes.proofs.simd_lane.bytes_at.Goals as goal

pub swizzle : goal.swizzle
swizzle c = indices_may_index (indices_are c.args.indices) c.requires.inside

pub returns : goal.returns
returns c = record {
  lanes = λ i inside. picked_inside_at (indices_are c.args.indices) c.requires.inside c.bytes_of.result i inside
      ∙ c.bytes_of.ensures.lanes (lane w8 c.args.indices i) (c.requires.inside i inside);
}
