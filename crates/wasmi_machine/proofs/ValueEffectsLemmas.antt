-- What holds of each effect on element segments and globals; the segment that is read of an iterator over a list.
use Rattle.std.proofs.Common.{Err, List, Ok, Result, ap, arith, length, refl, sym, ℕ, ◌∙◌, ◌≡◌, [], ◌∷◌, ◌++◌, Some, None, Iter}
use Rattle.wasmi_machine.proofs.Common.{All, reply_of, IsValidSegment, SegmentValue, IsReading, RefType, unwrap_or, append-nil, length-append, nil_from_length}
use Rattle.wasmi_machine.proofs.EffectLemmas.{EffectFacts, appended_valid, appends_back, appends_same, found_facts, room_facts}
use Rattle.wasmi_machine.proofs.SlotsLemmas.{set_read}
use Rattle.wasmi_machine.specs.Laws.{IsRefusal}
use Rattle.wasmi_machine.specs.ValueEffects.{CreatesSegment, IsSegmentOf, SetsGlobalAt}
use Rattle.wasmi_store.specs.declared.table.element.SegmentError.{SegmentError}
use Rattle.wasmi_store.specs.declared.table.element.SegmentError.TheVariants.{OutOfSystemMemory, TooManyItems}
use Rattle.wasmi_typed.specs.Global.{GlobalInstance, SetsGlobal}
use Rattle.wasmi_typed.specs.declared.{global.GlobalError.GlobalError, global.Mutability.Mutability, typed.TypedRawVal.TypedRawVal}
use Rattle.wasmi_typed.specs.declared.global.GlobalError.TheVariants.{ImmutableWrite, TypeMismatch}
use Rattle.wasmi_typed.specs.declared.global.Mutability.TheVariants.{Const, Var}
use Rattle.std.specs.Iterator.{Yields}
use Rattle.std.specs.Iterator.Adapters.{copied_steps, copied_source}
use Rattle.std.specs.Slice.Iter.{iter_steps, iter_rest}
use Rattle.std.specs.declared.iter.Copied.{Copied}
use Rattle.wasmi_machine.specs.declared.calls.Reply.TheVariants as replied

-- a global that is refused stays
global_back : (x x' : GlobalInstance) (value : TypedRawVal) (result : Result (Unit {0}) GlobalError)
    → IsRefusal (reply_of (λ _. replied.Done) replied.Global result) → SetsGlobal x value result x' → x' ≡ x
global_back x x' value (Ok _) refused sets = absurd refused
global_back x x' value (Err ImmutableWrite) refused sets = sets.1
global_back x x' value (Err TypeMismatch) refused sets = sets.2

-- two element segments of the same items are one, where memory for them was not refused
segment_made : (ty : RefType) (items : List ℕ) (result result' : Result SegmentValue SegmentError)
    → (result ≡ Err OutOfSystemMemory → ⊥) → (result' ≡ Err OutOfSystemMemory → ⊥) → IsSegmentOf ty items result
    → IsSegmentOf ty items result' → result ≡ result'
segment_made ty items (Ok x) (Ok y) h h' is is' = ap Ok (is.1 ∙ sym is'.1)
segment_made ty items result (Err OutOfSystemMemory) h h' is is' = absurd (h' refl)
segment_made ty items (Ok x) (Err TooManyItems) h h' is is' = absurd (omega (arith, is.0, is'))
segment_made ty items (Err TooManyItems) (Ok y) h h' is is' = absurd (omega (arith, is'.0, is))
segment_made ty items (Err TooManyItems) (Err TooManyItems) h h' is is' = refl
segment_made ty items (Err OutOfSystemMemory) result' h h' is is' = absurd (h refl)

-- no global is variable and constant
pub var_const : (m : Mutability) → m ≡ Var → m ≡ Const → ⊥
var_const m var const = cc

-- two calls that set a global
global_same : (x x' x'' : GlobalInstance) (value : TypedRawVal) (result result' : Result (Unit {0}) GlobalError)
    → SetsGlobal x value result x' → SetsGlobal x value result' x'' → (result ≡ result') × (x' ≡ x'')
global_same x x' x'' value (Ok u) (Ok u') a b = (refl, a.2 ∙ sym b.2)
global_same x x' x'' value (Ok u) (Err TypeMismatch) a b = absurd (b.1 a.1)
global_same x x' x'' value (Err TypeMismatch) (Ok u) a b = absurd (a.1 b.1)
global_same x x' x'' value (Err ImmutableWrite) (Err ImmutableWrite) a b = (refl, a.1 ∙ sym b.1)
global_same x x' x'' value (Err TypeMismatch) (Err TypeMismatch) a b = (refl, a.2 ∙ sym b.2)
global_same x x' x'' value result result' a b = absurd cc

-- the facts of a call that sets a global
pub global_facts : (k : ℕ) (value : TypedRawVal) (globals : List GlobalInstance)
    → EffectFacts (SetsGlobalAt k value globals) globals (λ globals'. Unit {0})
global_facts k value globals = found_facts (set_read globals k)
    (λ reply refused x x' c. global_back x x' value c.0 (rw c.2 at refused) c.1) (λ x reply reply' x' x'' c c'.
    let both = global_same x x' x'' value c.0 c'.0 c.1 c'.1 in
    (c.2 ∙ ap (reply_of (λ _. replied.Done) replied.Global) both.0 ∙ sym c'.2, both.1)) tt (λ x found reply x' c. tt)

-- an element segment that is made is valid
segment_valid : (ty : _) (items : List ℕ) (result : Result SegmentValue _) (segment : SegmentValue)
    → result ≡ Ok segment → IsSegmentOf ty items result → IsValidSegment segment
segment_valid ty items (Ok made) segment is fits =
    let same : segment ≡ made = cc in rw (same, fits.1) fits.0
segment_valid ty items (Err error) segment is fits = cc

-- the facts of a creation of an element segment
pub segment_facts : (Lacks : Type 0) (ty : RefType) (items : List ℕ) (segments : List SegmentValue)
    → EffectFacts (CreatesSegment Lacks ty items segments) segments
    (λ segments'. All IsValidSegment segments → All IsValidSegment segments')
segment_facts Lacks ty items segments = room_facts (λ valid. valid) (record {
  back = λ reply segments' refused made.
      appends_back replied.Segment (λ x. x) made.0 segments reply segments' refused made.2;
  same = λ reply reply' segments' segments'' room room' (result, is, appends) (result', is', appends').
      let made = segment_made ty items result result' (λ none. rw (rw none at appends).0 at room)
      (λ none. rw (rw none at appends').0 at room') is is' in
      appends_same (λ x. x) replied.Segment result segments reply reply' segments' segments'' appends
      (rw made appends');
  keeps = λ reply segments' made. appended_valid IsValidSegment replied.Segment made.0 segments reply segments'
      (λ segment is. segment_valid ty items made.0 segment is made.1) made.2;
})

-- what is left of an iterator of copies
abbrev rest : Copied (Iter ℕ) → List ℕ
rest s = iter_rest (copied_source s)

-- an iterator of copies gives the first of what is left, or ends where nothing is
first_copied : (s t : Copied (Iter ℕ)) (x : ℕ) → copied_steps iter_steps s (Some x) t → rest s ≡ x ∷ rest t
first_copied s t x (Some b, step, same) = step ∙ ap (λ y. y ∷ rest t) (sym (ap (λ o. unwrap_or o x) same))
first_copied s t x (None, step, same) = absurd cc

-- an iterator of copies ends where nothing is left
last_copied : (s t : Copied (Iter ℕ)) → copied_steps iter_steps s None t → rest s ≡ []
last_copied s t (Some b, step, same) = absurd cc
last_copied s t (None, step, same) = nil_from_length (rest s) step.0

-- what was left of an iterator of copies is what came and what is left
rest_so_far : (xs : List ℕ) (s t : Copied (Iter ℕ)) → Yields (copied_steps iter_steps) s xs t → rest s ≡ xs ++ rest t
rest_so_far [] s t same = ap rest same
rest_so_far (x ∷ xs) s t (u, step, more) = first_copied s u x step ∙ ap (λ ys. x ∷ ys) (rest_so_far xs u t more)

-- the segment that is read of an iterator of copies has what was left of it
pub segment_read : (ty : RefType) (s t : Copied (Iter ℕ)) (answer : Result SegmentValue SegmentError)
    → IsReading (copied_steps iter_steps) s ty answer t → IsSegmentOf ty (iter_rest (copied_source s)) answer
segment_read ty s t (Ok segment) (same_type, read) =
    let all : rest s ≡ segment.items = rest_so_far segment.items s read.run.0 read.run.1
    ∙ ap (λ ys. segment.items ++ ys) (last_copied _ _ read.run.2) ∙ append-nil segment.items in
    (rw all read.short, λ k. record { ty = same_type k; items = sym all k })
segment_read ty s t (Err TooManyItems) many =
    let found =
    rest_so_far many.items s many.run.0 many.run.1 ∙ ap (λ ys. many.items ++ ys) (first_copied _ _ _ many.run.2) in
    let counted = ap length found ∙ length-append many.items (many.last ∷ rest t) in
    omega (arith, counted, many.full)
segment_read ty s t (Err OutOfSystemMemory) out =
    let counted = ap length (rest_so_far out.items s t out.run) ∙ length-append out.items (rest t) in
    omega (arith, counted, out.some)
