use Rattle.wasmi_lanes.specs.Vector.{unary_of_lanes}
use Rattle.wasmi_lanes.proofs.VectorLemmas.{related_lanes}
use Rattle.wasmi_lanes.proofs.on_vectors.unary.Goals as goal

pub returns : goal.returns
unfolding unary_of_lanes
returns g c =
    let items = c.from_v128.ensures.lanes in
    let related = related_lanes g.L.Item.LaneInteger (λ x _ z. g.F.Fn.post c.args.f (x, tt) z) g.met.L.Lanes.laws.filled
    c.into_v128.ensures.in_range items items c.into_v128.ensures.lanes c.lanewise_unary.ensures.lanes in
    record {
      lanes = λ row rows. related.make_vector (λ x _. row x) (λ x y z fits_x fits_y fits_z. rows x z fits_x fits_z);
      each = related.each;
    }
