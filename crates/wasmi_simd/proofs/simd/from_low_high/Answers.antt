use Rattle.std.proofs.Common.{◌≡◌, ℕ, ◌+◌, ◌-◌, ◌*◌, ◌<◌, ◌∙◌, ap, sym, arith, nat_lt, if◌then◌else◌}
use Rattle.wasmi_simd.proofs.Common.{lane, items_make_vector, item_fits, lanes_of_width, from_low_high}
use Rattle.wasmi_simd.proofs.WideningLemmas.{by_halves}
use Rattle.wasmi_simd.proofs.simd.from_low_high.Goals as goal

pub returns : goal.returns
unfolding from_low_high
returns g c =
    let s = g.W.Lanes in
    let l = g.L.Lanes in
    let wide = g.W.Item.LaneInteger in
    let narrow = g.L.Item.LaneInteger in
    let twice : l.LANES ≡ 2 * s.LANES = g.met.L.FromWide.twice in
    let z = l.item c.from_low_high.result in
    let made = λ (i : ℕ) (h : i < l.LANES). item_fits narrow c.into_v128.result i (z i)
    (c.into_v128.ensures.lanes i h) in
    record {
      lanes = λ row rows.
          let low = λ (k : ℕ). row (wide.read (lane wide.width c.args.low k)) in
          let high = λ (k : ℕ). row (wide.read (lane wide.width c.args.high k)) in
          items_make_vector narrow l.LANES z c.into_v128.result _ g.met.L.Lanes.laws.filled c.into_v128.ensures.lanes
          c.into_v128.ensures.in_range (λ i h fits. by_halves s.LANES i (λ k. narrow.image (z k)) low high
          (λ k below. let is = c.from_v128.ensures.lanes k below in
          rows _ (z k) (item_fits wide c.args.low k _ is) (made k (omega arith))
          (c.from_low_high.ensures.low k below) ∙ ap row is)
          (λ k below. let is = c.from_v128-2.ensures.lanes k below in
          rows _ (z (s.LANES + k)) (item_fits wide c.args.high k _ is) (made (s.LANES + k) (omega arith))
          (c.from_low_high.ensures.high k below) ∙ ap row is) (omega arith)
          ∙ ap (λ n. if nat_lt i n then low i else high (i - n))
          (sym (lanes_of_width wide.width s.LANES g.met.W.Lanes.laws.filled)));
    }
