use Rattle.std.proofs.Common.{◌≡◌, ◌+◌, ◌≤◌, arith}
use Rattle.wasmi_store.proofs.RangeLemmas.{copied_down, copied_up, overwritten}
use Rattle.wasmi_store.proofs.range.copy_overlapping.Goals as goal

pub loop-done-preserved : goal.loop-done-preserved
loop-done-preserved g c =
    let part = c.min-count.ensures in
    let within : c.loop-done.done + c.min-count.result ≤ c.args.len = omega (arith, c.loop-done-test.true) in
    record {
      within = within;
      copied = rw c.copy_chunk-in-loop-done.ensures.copied
          (copied_down c.args.elements.now c.loop-done.elements c.args.dst c.args.src c.loop-done.done
          c.min-count.result c.if-dst-src.true (omega (arith, within, c.requires.src)) c.loop-done.invariant.copied);
    }

pub loop-left-preserved : goal.loop-left-preserved
loop-left-preserved g c =
    let part = c.min-count-in-loop-left.ensures in
    let some : c.min-count-in-loop-left.result ≤ c.loop-left.left = omega arith in
    record {
      within = omega (arith, c.loop-left.invariant.within);
      copied = rw c.copy_chunk-in-loop-left.ensures.copied
          (copied_up c.args.elements.now c.loop-left.elements c.args.dst c.args.src c.args.len c.loop-left.left
          c.min-count-in-loop-left.result (omega (arith, c.if-dst-src.false)) some c.loop-left.invariant.within
          c.requires.dst c.loop-left.invariant.copied);
    }

pub returns-then-len-le-CHUNK : goal.returns-then-len-le-CHUNK
returns-then-len-le-CHUNK g c = record {
  copied = rw c.copy_chunk.ensures.copied
      (overwritten c.args.elements.now c.args.elements.now _ _ _ c.requires.src c.requires.dst);
}

pub returns-after-loop-done : goal.returns-after-loop-done
returns-after-loop-done g c =
    let all : c.loop-done.done ≡ c.args.len = omega (arith, c.loop-done-test.false, c.loop-done.invariant.within) in
    record {
      copied = rw (c.loop-done.invariant.copied, all)
          (overwritten c.args.elements.now c.args.elements.now _ _ _ c.requires.src c.requires.dst);
    }
