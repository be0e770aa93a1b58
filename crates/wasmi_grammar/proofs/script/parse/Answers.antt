use Rattle.std.proofs.Common.{ℕ, rules, tests, arith, refl, sym, ap, ◌∙◌, ◌≡◌, ◌+◌, ◌∷◌, [], map, List, ◌==◌, Bor, Bool, false, Option, Some, length}
use denote.Param.Members.{Mut}
use Rattle.std.proofs.lemmas.Iterator.{YieldsList}
use Rattle.wasmi_grammar.proofs.Common.{map-append, length-map, enumerate_from, words_in, Script, AcceptsLine, AreTaken, lines_in, IsBadLine, IsFirstBadLine, parts_in, calls_in}
use Rattle.std.proofs.lemmas.List.{length-append}
use Rattle.std.proofs.lemmas.Simd.{map-map}
use Rattle.std.proofs.lemmas.Iterator.Consumers.{YieldsList-at, YieldsList-so_far, YieldsList-turn, YieldsList-end, YieldsList-from_enumerate}
use Rattle.std.proofs.lemmas.Iterator.Splits.{YieldsList-from_slice_split}
use Rattle.std.specs.Fn.{CalledAt}
use Rattle.std.specs.Iterator.{Yields}
use Rattle.std.specs.Iterator.Adapters.{enumerate_source, enumerate_count, enumerate_steps}
use Rattle.std.specs.Slice.Iter.{split_rest, split_done, split_callee, split_steps}
use Rattle.wasmi_grammar.proofs.TextsLemmas.{retell}
use Rattle.wasmi_grammar.proofs.LinesLemmas.{one_more, without_numbers, stops_at, added_count}
use Rattle.wasmi_grammar.proofs.script.parse.Goals as goal

-- the text of a line that is yielded with its number
abbrev line_of : ℕ × Bor (List ℕ) → List ℕ
line_of item = item.1.now

-- the text of a line that is yielded, with its number
abbrev numbered : ℕ × Bor (List ℕ) → ℕ × List ℕ
numbered item = (item.0, item.1.now)

-- a text that is split at line feeds yields its lines, with their numbers
lines_yielded : {F : Type 0} {g : Mut F (Bor ℕ × Unit {0}) Bool} {f : F} {split items iterator : _} (text : List ℕ)
    → iterator ≡ items → enumerate_source items ≡ split → enumerate_count items ≡ 0
    → split_rest split ≡ text → split_done split ≡ false → split_callee split ≡ f
    → ((x : ℕ) (b : Bool) (q : F) → CalledAt g f x b q → (q ≡ f) × (b ≡ (x == 10)))
    → YieldsList (enumerate_steps (split_steps g)) numbered iterator (enumerate_from 0 (lines_in text))
unfolding lines_in
lines_yielded {g = g} text gives source count rest done closure tests =
    YieldsList-at gives (YieldsList-from_enumerate
    (YieldsList-at source (YieldsList-from_slice_split g (λ byte. byte == 10) text rest done closure tests)) count)

-- the line that is yielded next is the first bad one, where those before it are taken and it adds nothing to them
next_is_bad : {S : Type 0} {steps : S → Option (ℕ × Bor (List ℕ)) → S → Type 0} {start here after : S}
    (text : List ℕ) (yielded : List (ℕ × Bor (List ℕ))) (next : Option (ℕ × Bor (List ℕ))) (item : ℕ × Bor (List ℕ))
    (script : Script)
    → YieldsList steps numbered start (enumerate_from 0 (lines_in text)) → Yields steps start yielded here
    → next ≡ Some item → steps here next after → AreTaken (map line_of yielded) script
    → IsBadLine script (line_of item) → IsFirstBadLine text (item.0 + 1)
next_is_bad text yielded next item script lines yields is step taken bad =
    stops_at text (length yielded) (map numbered yielded) (numbered item) script
    (rw (map-map (λ p. p.1) numbered yielded) taken) (length-map yielded numbered)
    (YieldsList-so_far lines yielded _ yields) (YieldsList-turn lines yielded _ yields next _ item is step) bad

pub loop-index-init : goal.loop-index-init
loop-index-init c = (
  omega (arith, ap (λ parts. length (calls_in (parts_in parts))) c.new-script.ensures.no_commands),
  record { empty = c.new-script.result; is_new = c.new-script.ensures; lines = refl },
)

pub loop-index-preserved : goal.loop-index-preserved
loop-index-preserved c =
    let (count, taken) = c.loop-index.invariant in
    let yielded = c.loop-index.yielded in
    let new = c.take_line.new.self in
    let same : map (λ word. word.now) c.as_slice.result.now ≡ words_in c.in-Some.bytes.now =
    rw (c.as_slice.ensures.value, c.in_ok-read_words.ensures, c.in-Ok.ensures.cases.0) in
    let words = c.as_slice.result.now in
    let line_taken : AcceptsLine c.loop-index.script c.in-Some.bytes.now new =
    (c.in-Ok.ensures.cases.1, words, same, c.in-Ok-take_line.ensures.ok) in (
      omega (
        arith,
        count,
        added_count c.loop-index.script words new c.in-Ok-take_line.ensures.ok,
        length-append yielded ((c.in-Some.index, c.in-Some.bytes) ∷ []),
      ),
      record {
        empty = taken.empty;
        is_new = taken.is_new;
        lines = rw (map-append line_of yielded) (one_more (map line_of yielded) c.in-Some.bytes.now taken.empty
            c.loop-index.script new taken.lines line_taken);
      },
    )

pub returns-clause-script : goal.returns-clause-script
returns-clause-script c =
    let (count, taken) = c.loop-index.invariant in
    let split = c.split.ensures in
    let all = YieldsList-end (lines_yielded c.args.bytes.now c.into_iter-index-iterator.ensures.into_iter_gives
    c.enumerate-index-items.ensures.source c.enumerate-index-items.ensures.count split.rest split.done split.closure
    (λ x b q k. search (rules, tests)))
    c.loop-index.yielded _ c.loop-index.yielded_by _ _ c.in-None.is c.next.ensures.steps in
    let line : ℕ × List ℕ → List ℕ = λ p. p.1 in
    let whole = sym (map-map line numbered c.loop-index.yielded) ∙ ap (map line) all.0
    ∙ without_numbers 0 (lines_in c.args.bytes.now) in
    rw whole at taken

pub returns-in_default-clause-refused : goal.returns-in_default-clause-refused
returns-in_default-clause-refused c =
    let split = c.split.ensures in
    next_is_bad c.args.bytes.now c.loop-index.yielded _ (c.in-Some.index, c.in-Some.bytes) c.loop-index.script
    (lines_yielded c.args.bytes.now c.into_iter-index-iterator.ensures.into_iter_gives
    c.enumerate-index-items.ensures.source c.enumerate-index-items.ensures.count split.rest split.done split.closure
    (λ x b q k. search (rules, tests))) c.loop-index.yielded_by c.in-Some.is c.next.ensures.steps
    c.loop-index.invariant.1 (λ new takes. c.in_default.ensures.cases.0 takes.0)

pub returns-in-Err-BadCommand-clause-refused : goal.returns-in-Err-BadCommand-clause-refused
returns-in-Err-BadCommand-clause-refused c =
    let split = c.split.ensures in
    let words = c.as_slice.result.now in
    let same : map (λ word. word.now) words ≡ words_in c.in-Some.bytes.now =
    rw (c.as_slice.ensures.value, c.in_ok-read_words.ensures, c.in-Ok.ensures.cases.0) in
    next_is_bad c.args.bytes.now c.loop-index.yielded _ (c.in-Some.index, c.in-Some.bytes) c.loop-index.script
    (lines_yielded c.args.bytes.now c.into_iter-index-iterator.ensures.into_iter_gives
    c.enumerate-index-items.ensures.source c.enumerate-index-items.ensures.count split.rest split.done split.closure
    (λ x b q k. search (rules, tests))) c.loop-index.yielded_by c.in-Some.is c.next.ensures.steps
    c.loop-index.invariant.1 (λ new takes. c.in-Err-BadCommand.ensures.refused c.in-Err-BadCommand.field-0-is new
    (retell takes.1 words (takes.2 ∙ sym same) c.loop-index.script new takes.3))
