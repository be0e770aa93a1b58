use Rattle.std.proofs.Common.{get_or, arith}
use Rattle.wasmi_lanes.proofs.Common.{common_steps, get_or_default}
use Rattle.wasmi_lanes.proofs.LanesLemmas.{set_both_more}
use Rattle.wasmi_lanes.proofs.lanes.LaneArrayFromWide.from_low_high.Goals as goal

pub loop-i-preserved : goal.loop-i-preserved
loop-i-preserved g c =
    let made = goal.F-post g c.args.f in
    set_both_more (λ k. made (get_or c.args.low.items k g.U.LaneInteger.ALL_ZEROS))
    (λ k. made (get_or c.args.high.items k g.U.LaneInteger.ALL_ZEROS))
    c.loop-i.items g.row.M c.loop-i.i c.f.result c.f-in-loop-i.result _ c.loop-i-test.true
    (grind (arith, g.T.Narrower.twice)) c.loop-i.invariant
    (grind (arith, get_or_default)) (grind (arith, get_or_default))

pub offset_bounds-items-i : goal.offset_bounds-items-i
offset_bounds-items-i g c = grind (arith, common_steps, g.T.Narrower.twice)

pub offset_bounds-items-i-in-loop-i : goal.offset_bounds-items-i-in-loop-i
offset_bounds-items-i-in-loop-i g c = grind (arith, common_steps, g.T.Narrower.twice)

pub returns : goal.returns
returns g c = record {
  low = λ i below. c.loop-i.invariant.0 i (omega (arith, c.loop-i-test.false));
  high = λ i below. c.loop-i.invariant.1 i (omega (arith, c.loop-i-test.false));
}
