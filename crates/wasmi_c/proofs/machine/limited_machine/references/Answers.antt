use Rattle.std.proofs.Common.{arith, ap, sym, take, ◌++◌, ◌∷◌, [], ◌∙◌}
use Rattle.wasmi_c.proofs.Common.{take_more}
use Rattle.wasmi_c.proofs.machine.limited_machine.references.Goals as goal

pub loop-item-preserved : goal.loop-item-preserved
loop-item-preserved c = record {
  copied = c.push_reserved.ensures.items ∙ ap (λ items. items ++ c.from.result ∷ []) c.loop-item.invariant.copied
      ∙ ap (λ item. take c.loop-item.item-index c.args.items.now ++ item ∷ []) c.from.ensures
      ∙ sym (take_more c.args.items.now c.loop-item.item-index 0 (omega arith));
  count = omega (arith, c.push_reserved.ensures.len, c.loop-item.invariant.count);
  room = omega (arith, c.push_reserved.ensures.capacity, c.loop-item.invariant.room);
}
