use Rattle.std.proofs.Common.{◌≡◌, ◌-◌, ◌∙◌, ap, refl}
use Rattle.wasmi_lanewise.proofs.Common.{bits}
use Rattle.wasmi_lanewise.proofs.MarkLemmas.{filled, filled_below, marks_filled}
use Rattle.wasmi_lanewise.proofs.simd.words.filled.Goals as goal

pub returns : goal.returns
returns g c =
    let w = g.T.LaneInteger.width in
    let law = g.met.T.WordLane.laws in
    let top : c.from.result ≡ bits w - 1 = c.from.ensures ∙ ap (λ n. n - 1) (c.BITS.ensures ∙ law.wide) in
    record {
      words = (
        filled c.args.low c.from.result,
        filled c.args.high c.from.result,
        c.from_u64x2.ensures _ _ refl,
        filled_below c.args.low c.from.result,
        filled_below c.args.high c.from.result,
        marks_filled _ _ _ _ top c.ranges.low.fits law.whole c.requires.low,
        marks_filled _ _ _ _ top c.ranges.high.fits law.whole c.requires.high,
      );
    }
