use Rattle.std.proofs.Common.{Bool, ◌≡◌, if◌then◌else◌, get_or, arith, rules}
use Rattle.wasmi_lanes.proofs.Common.{common_steps, get_or_default, set_more}
use Rattle.wasmi_lanes.proofs.lanes.LaneArrayLanes.lanewise_comparison.Goals as goal

pub loop-i-preserved : goal.loop-i-preserved
loop-i-preserved g c =
    let item = g.T.LaneInteger in
    let default = item.ALL_ZEROS in
    set_more (λ k chosen. (holds : Bool)
    × goal.F-post g c.args.f (get_or c.args.self.items k default) (get_or c.args.other.items k default) holds
    × (chosen ≡ (if holds then item.ALL_ONES else default)))
    c.loop-i.items c.loop-i.i c.ones_if.result _ (search rules) c.loop-i.invariant
    (c.f.result, grind (arith, get_or_default), c.ones_if.ensures)

pub returns : goal.returns
returns g c = record { lanes = λ i h. c.loop-i.invariant i (omega arith) }

pub offset_bounds-items-i : goal.offset_bounds-items-i
offset_bounds-items-i g c = grind (arith, common_steps)
