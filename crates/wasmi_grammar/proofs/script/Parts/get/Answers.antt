use Rattle.std.proofs.Common.{◌≡◌, ◌<◌, length, arith, refl, ap}
use Rattle.wasmi_grammar.proofs.Common.{take_rest}
use Rattle.std.proofs.lemmas.Option.{slice_get_read}
use Rattle.wasmi_grammar.proofs.PartsLemmas.{span_within, at_earlier, at_last, at_none}
use Rattle.wasmi_grammar.proofs.script.Parts.get.Goals as goal

pub calls_at-requires : goal.calls_at-requires
calls_at-requires c =
    let inside = c.self.inside in
    let index : c.args.index < length inside.earlier.items =
    omega (arith, c.if-index-len.true, c.len.ensures, inside.earlier.ok.0) in
    let places = span_within 0 inside.earlier.items inside.start c.args.index c.index-span.result.now
    c.self.invariant.follow (slice_get_read inside.earlier.items _ c.args.index _ refl index c.index-span.ensures) in
    record {
      order = places.0;
      within = omega (arith, places.1, c.self.invariant.within, ap length c.deref.ensures.value);
    }

pub returns-then-index-len : goal.returns-then-index-len
returns-then-index-len c =
    let inside = c.self.inside in
    let span = c.index-span.result.now in
    let index : c.args.index < length inside.earlier.items =
    omega (arith, c.if-index-len.true, c.len.ensures, inside.earlier.ok.0) in
    let here = at_earlier inside.calls.items inside.earlier.items inside.start inside.tenant c.args.index span
    (slice_get_read inside.earlier.items _ c.args.index _ refl index c.index-span.ensures) in
    rw (← c.self.view_is, here, c.calls_at.ensures.calls, c.deref.ensures.value)

pub returns-then-index-len-2 : goal.returns-then-index-len-2
returns-then-index-len-2 c =
    let inside = c.self.inside in
    let calls = inside.calls.items in
    let index : c.args.index ≡ length inside.earlier.items =
    omega (arith, c.if-index-len-2.true, c.len-else-index-len.ensures, inside.earlier.ok.0) in
    let count : c.len-then-index-len-2.result ≡ length calls =
    omega (arith, c.len-then-index-len-2.ensures, inside.calls.ok.0) in
    let here = at_last calls inside.earlier.items inside.start inside.tenant c.args.index index in
    rw (
      ← c.self.view_is,
      here,
      c.calls_at-then-index-len-2.ensures.calls,
      c.deref-then-index-len-2.ensures.value,
      count,
      take_rest calls inside.start,
    )

pub returns-else-index-len-2 : goal.returns-else-index-len-2
returns-else-index-len-2 c =
    let inside = c.self.inside in
    let past : length inside.earlier.items < c.args.index =
    omega (
      arith,
      c.if-index-len.false,
      c.if-index-len-2.false,
      c.len.ensures,
      c.len-else-index-len.ensures,
      inside.earlier.ok.0,
    ) in
    rw (← c.self.view_is, at_none inside.calls.items inside.earlier.items inside.start inside.tenant c.args.index past)
