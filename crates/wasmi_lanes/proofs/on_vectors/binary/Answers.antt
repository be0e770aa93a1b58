use Rattle.wasmi_lanes.specs.Vector.{binary_of_lanes}
use Rattle.wasmi_lanes.proofs.VectorLemmas.{related_lanes}
use Rattle.wasmi_lanes.proofs.on_vectors.binary.Goals as goal

pub returns : goal.returns
unfolding binary_of_lanes
returns g c =
    let related = related_lanes g.L.Item.LaneInteger (λ x y z. g.F.Fn.post c.args.f (x, (y, tt)) z)
    g.met.L.Lanes.laws.filled c.into_v128.ensures.in_range c.from_v128.ensures.lanes c.from_v128-2.ensures.lanes
    c.into_v128.ensures.lanes c.lanewise_binary.ensures.lanes in
    record { lanes = related.make_vector; each = related.each }
