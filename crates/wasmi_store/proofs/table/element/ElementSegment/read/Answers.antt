use Rattle.std.proofs.Common.{◌∷◌, [], ap, arith, length, length-append}
use Rattle.wasmi_store.proofs.SegmentLemmas.{read_next, read_refused}
use Rattle.wasmi_store.proofs.table.element.ElementSegment.read.Goals as goal

pub returns-then-is_err : goal.returns-then-is_err
returns-then-is_err g c = record {
  reading = read_refused c.items.read.items c.items.invariant.read c.in-Some.item c.in-Some.ensures.steps
      (omega (arith, c.items-test.true, c.len.ensures, c.items.read.ok.0));
}

pub items-preserved : goal.items-preserved
items-preserved g c =
    let appended = rw c.if-is_err.ensures.negation at c.push.ensures.items in
    record {
      read = read_next c.items.read.items c.items.invariant.read c.in-Some.item c.in-Some.ensures.steps
          c.push.new.self.items appended c.in-Some.ensures.goes.keeps;
      short = omega (
        arith,
        c.items-test.true,
        c.len.ensures,
        c.items.read.ok.0,
        ap length appended,
        length-append c.items.read.items (c.in-Some.item ∷ []),
      );
      free = λ none. absurd
          (omega (arith, none, ap length appended, length-append c.items.read.items (c.in-Some.item ∷ [])));
    }
