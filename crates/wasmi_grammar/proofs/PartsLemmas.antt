-- The calls of parts: the places of parts that follow one another in a list of calls, and the part of an index.
use Rattle.std.proofs.Common.{ℕ, ◌≡◌, ◌∙◌, List, [], ◌∷◌, length, drop, ◌-◌, refl, sym, ◌≤◌, ◌<◌, ◌+◌, ◌++◌, zero, suc, Some, None, map, arith, ap, append_assoc, take-append-drop, length-append, length-drop}
use Rattle.wasmi_grammar.proofs.Common.{flat_map_more, drop-drop, drop-append-le, take-append-le, length-map, TenantRun, PartsValue, parts_in, calls_in, part_at, Follow, AreCut, slice_get, option_map, Call}
use Rattle.std.proofs.lemmas.Option.{slice_get-map, slice_get_past}
use Rattle.wasmi_grammar.specs.declared.script.Span.{Span}

-- the calls of parts with a last one
pub with_last : (parts : List TenantRun) (last : TenantRun)
    → calls_in (parts ++ last ∷ []) ≡ calls_in parts ++ last.calls
with_last parts last = sym (flat_map_more (λ part. part.calls) [] parts last)

-- places that follow one another go forward
forward : (from : ℕ) (spans : List Span) (to : ℕ) → Follow from spans to → from ≤ to
forward from [] to same = omega (arith, same)
forward from (span ∷ later) to (start, onward, rest) = omega (arith, onward, forward span.end later to rest)

-- the place of one part more follows those of others
pub follow_more : (from : ℕ) (spans : List Span) (to : ℕ) (last : Span) → Follow from spans to → last.start ≡ to
    → to ≤ last.end → Follow from (spans ++ last ∷ []) last.end
follow_more from [] to last same starts onward = (starts ∙ sym same, omega (arith, same, onward), refl)
follow_more from (span ∷ later) to last (start, on, rest) starts onward =
    (start, on, follow_more span.end later to last rest starts onward)

-- parts have the same calls in a longer list
pub kept : (calls more : List Call) (from : ℕ) (spans : List Span) (to : ℕ) → Follow from spans to → to ≤ length calls
    → map (part_at (calls ++ more)) spans ≡ map (part_at calls) spans
kept calls more from [] to same within = refl
kept calls more from (span ∷ later) to (start, onward, rest) within =
    let last = forward span.end later to rest in
    let inside = length-drop span.start calls in
    rw (
      drop-append-le span.start calls more (omega (arith, start, onward, last, within)),
      take-append-le (span.end - span.start) (drop span.start calls) more (omega (arith, inside, last, within)),
      kept calls more span.end later to rest within,
    )

-- parts have the calls of a list from one place on and up to another one
pub joined : (calls : List Call) (from : ℕ) (spans : List Span) (to : ℕ) → Follow from spans to
    → calls_in (map (part_at calls) spans) ++ drop to calls ≡ drop from calls
joined calls from [] to same = ap (λ n. drop n calls) (sym same)
joined calls from (span ∷ later) to (start, onward, rest) =
    let count = span.end - span.start in
    let end : span.start + count ≡ span.end = omega (arith, start, onward) in
    let past : drop count (drop span.start calls) ≡ drop span.end calls = rw (drop-drop count span.start calls, end) in
    rw (append_assoc, joined calls span.end later to rest, ← past, ← start)
    (take-append-drop count (drop span.start calls))

-- what is seen of parts that stand in one list
abbrev seen : List Call → List Span → ℕ → ℕ → PartsValue
seen calls spans start tenant =
    record { earlier = map (part_at calls) spans; tenant = tenant; calls = drop start calls }

-- all parts have all calls
pub all_calls : (calls : List Call) (spans : List Span) (start tenant : ℕ) → Follow 0 spans start
    → calls ≡ calls_in (parts_in (seen calls spans start tenant))
all_calls calls spans start tenant follow = rw (with_last, joined calls 0 spans start follow)

-- one call more is the last part's
pub one_call : (calls calls' : List Call) (call : Call) (spans : List Span) (start tenant : ℕ)
    → AreCut spans start calls → calls' ≡ calls ++ call ∷ [] → seen calls' spans start tenant
    ≡ record (seen calls spans start tenant) { calls = drop start calls ++ call ∷ [] }
one_call calls calls' call spans start tenant cut is =
    rw (is, kept calls (call ∷ []) 0 spans start cut.follow cut.within, drop-append-le start calls _ cut.within)

-- the places of one of some parts that follow one another
pub span_within : (from : ℕ) (spans : List Span) (to index : ℕ) (span : Span) → Follow from spans to
    → slice_get spans index ≡ Some span → (span.start ≤ span.end) × (span.end ≤ to)
span_within from [] to index span same is = absurd cc
span_within from (here ∷ later) to zero span (start, onward, rest) is =
    let same : here ≡ span = cc in
    let last = forward here.end later to rest in (
      omega (arith, start, onward, ap (λ s. s.start) same, ap (λ s. s.end) same),
      omega (arith, last, ap (λ s. s.end) same),
    )
span_within from (here ∷ later) to (suc index) span (start, onward, rest) is =
    span_within here.end later to index span rest is

-- an item of a list, as the part of an index, with one behind it
found_before : {A : Type 0} (items : List A) (last : A) (index : ℕ) (item : A) → slice_get items index ≡ Some item
    → slice_get (items ++ last ∷ []) index ≡ Some item
found_before [] last index item is = absurd cc
found_before (x ∷ items) last zero item is = is
found_before (x ∷ items) last (suc index) item is = found_before items last index item is

-- the last item of a list, as the part of an index
found_last : {A : Type 0} (items : List A) (last : A) → slice_get (items ++ last ∷ []) (length items) ≡ Some last
found_last [] last = refl
found_last (x ∷ items) last = found_last items last

module _ (calls : List Call) (spans : List Span) (start tenant index : ℕ) where
  -- the part of an index before the last one
  pub at_earlier : (span : Span) → slice_get spans index ≡ Some span
      → slice_get (parts_in (seen calls spans start tenant)) index ≡ Some (part_at calls span)
  at_earlier span is =
      found_before (map (part_at calls) spans) (record { tenant = tenant; calls = drop start calls }) index
      (part_at calls span) (slice_get-map (part_at calls) spans index ∙ ap (option_map (part_at calls)) is)

  -- the part of the last index
  pub at_last : index ≡ length spans → slice_get (parts_in (seen calls spans start tenant)) index
      ≡ Some (record { tenant = tenant; calls = drop start calls })
  at_last is =
      rw (is, ← length-map spans (part_at calls)) (found_last (map (part_at calls) spans) _)

  -- there is no part of an index past the last one
  pub at_none : length spans < index → slice_get (parts_in (seen calls spans start tenant)) index ≡ None
  at_none past = slice_get_past _ index (simp (length-append, length-map) (omega arith))
