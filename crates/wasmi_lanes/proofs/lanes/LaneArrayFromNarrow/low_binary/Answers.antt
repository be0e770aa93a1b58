use Rattle.std.proofs.Common.{get_or, arith, rules}
use Rattle.wasmi_lanes.proofs.Common.{common_steps, get_or_default, set_more}
use Rattle.wasmi_lanes.proofs.lanes.LaneArrayFromNarrow.low_binary.Goals as goal

pub loop-i-preserved : goal.loop-i-preserved
loop-i-preserved g c =
    let default = g.T.LaneInteger.ALL_ZEROS in
    set_more (λ k. goal.F-post g c.args.f (get_or c.args.a.items k default) (get_or c.args.b.items k default))
    c.loop-i.items c.loop-i.i c.f.result _ (search rules) c.loop-i.invariant
    (grind (arith, get_or_default, g.T.Narrower.twice))

pub offset_bounds-items-i : goal.offset_bounds-items-i
offset_bounds-items-i g c = grind (arith, common_steps)
