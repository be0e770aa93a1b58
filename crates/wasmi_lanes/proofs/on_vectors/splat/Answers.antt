use Rattle.std.proofs.Common.{ℕ, ◌≡◌, refl}
use Rattle.wasmi_lanes.specs.Vector.{splat_of}
use Rattle.wasmi_lanes.proofs.VectorLemmas.{items_make_vector}
use Rattle.wasmi_lanes.proofs.on_vectors.splat.Goals as goal

pub returns : goal.returns
unfolding splat_of
returns g c =
    let l = g.L.Lanes in
    let item = g.L.Item.LaneInteger in
    let lanes = λ (number : ℕ) (is_number : item.Fits c.args.value → item.image c.args.value ≡ number).
    items_make_vector item l.LANES (l.item c.splat.result) c.into_v128.result (λ _. number)
    g.met.L.Lanes.laws.filled c.into_v128.ensures.lanes c.into_v128.ensures.in_range
    (λ i h fits. rw (c.splat.ensures.lanes i h) (is_number (rw (c.splat.ensures.lanes i h) at fits))) in
    record { lanes = lanes; image = lanes (item.image c.args.value) (λ _. refl) }
