-- A text writes one script, and has one first bad line at most: of scripts that say the same, one takes the lines that
-- the other takes, and both say the same afterwards.
use Rattle.std.proofs.Common.{ℕ, ◌≡◌, ◌∙◌, ◌++◌, List, [], ◌∷◌, Option, Some, None, length, map, ◌≤◌, ◌-◌, take, drop, inl, inr, arith, refl, suc, sym, ap}
use Rattle.std.proofs.lemmas.Bool.{cases_lt}
use Rattle.wasmi_grammar.proofs.Common.{option_map, map-append, take_at, Line, Meter, Limiter, Region, Reserve, As, Script, LimiterLine, Tenants, RegionLine, LineWords, word_at, AreApart, tenants_of, HasNoCommands, NamesLine, AddsLine, AddsWords, AcceptsLine, AcceptsLines, IsNewScript, AreTaken, lines_in, IsBadLine, IsFirstBadLine, parts_in}
use Rattle.std.proofs.Math.Seq.{take-append-add}
use Rattle.wasmi_grammar.specs.Lines.{AddsHeader}
use Rattle.wasmi_grammar.specs.declared.header.Header.{Header}
use Rattle.wasmi_grammar.specs.declared.script.Line.TheVariants.{Call as Command}
use Rattle.wasmi_grammar.specs.Meanings.{call_meaning, limiter_meaning, part_meaning, TextsWriteOneScript, FirstBadLinesAreOne, WrittenTextsHaveNoBadLine}
use Rattle.wasmi_grammar.proofs.MeaningLemmas.{line_meaning, line_is, meaning_of, lines_meaning, LinesHaveSameMeaning, meaning_after, added}
use Rattle.wasmi_grammar.proofs.TextsLemmas.{none_mapped, retell}

-- a line leads from scripts that say the same to scripts that say the same
line_unique : (line : List ℕ) (old old' new new' : Script) → LinesHaveSameMeaning old old' → AcceptsLine old line new
    → AcceptsLine old' line new' → LinesHaveSameMeaning new new'
line_unique line old old' new new' same taken taken' =
    let words = taken.1 in
    let retold : AddsWords old' words new' = retell taken'.1 words (taken'.2 ∙ sym taken.2) old' new' taken'.3 in
    added old words new taken.3 ∙ ap (meaning_after words) same ∙ sym (added old' words new' retold)

-- lines lead from scripts that say the same to scripts that say the same
lines_unique : (lines : List (List ℕ)) (old old' new new' : Script) → LinesHaveSameMeaning old old'
    → AcceptsLines lines old new → AcceptsLines lines old' new' → LinesHaveSameMeaning new new'
lines_unique [] old old' new new' same is is' = ap lines_meaning is ∙ same ∙ sym (ap lines_meaning is')
lines_unique (line ∷ lines) old old' new new' same (middle, taken, later) (middle', taken', later') =
    lines_unique lines middle middle' new new' (line_unique line old old' middle middle' same taken taken') later later'

-- any two scripts without lines say the same
empties_same : (script script' : Script) → IsNewScript script → IsNewScript script' → LinesHaveSameMeaning script script'
empties_same script script' new new' =
    λ i. meaning_of ((new.no_header ∙ sym new'.no_header) i) ((new.no_commands ∙ sym new'.no_commands) i)

-- two scripts that one text writes say the same
pub texts_unique : TextsWriteOneScript
texts_unique text script script' writes writes' =
    let empties = empties_same writes.empty writes'.empty writes.is_new writes'.is_new in
    let lines = lines_unique
    (lines_in text) writes.empty writes'.empty script script' empties writes.lines writes'.lines in
    simp map-append (λ i. record {
      meter = (lines i).meter;
      limiter = (lines i).limiter;
      region = (lines i).region;
      reserve = (lines i).reserve;
      parts = (lines i).earlier ++ record { tenant = (lines i).tenant; calls = (lines i).calls } ∷ [];
    })

-- an option whose image is nothing is nothing: of scripts that say the same, if one has no limiter line, neither has
-- the other
none_of : {A B : Type 0} (f : A → B) (x : Option A) → option_map f x ≡ None → x ≡ None
none_of f None e = refl
none_of f (Some x) e = absurd cc

-- of scripts whose limiter lines say the same, one may have a region where the other may have one
apart_too : (limiter limiter' : Option LimiterLine) (region : Option RegionLine)
    → option_map limiter_meaning limiter ≡ option_map limiter_meaning limiter'
    → AreApart limiter region → AreApart limiter' region
apart_too (Some (Tenants other)) (Some (Tenants line)) (Some region) same apart = apart
apart_too None (Some (Tenants line)) (Some region) same apart = absurd cc
apart_too (Some other) (Some (Tenants line)) (Some region) same apart = absurd cc
apart_too limiter limiter' region same apart = tt

-- scripts whose limiter lines say the same ask for as many tenants
tenants_too : (limiter limiter' : Option LimiterLine)
    → option_map limiter_meaning limiter ≡ option_map limiter_meaning limiter'
    → tenants_of limiter ≡ tenants_of limiter'
tenants_too (Some (Tenants line)) (Some (Tenants line')) same = let told : line ≡ line' = cc in rw told
tenants_too (Some (Tenants line)) limiter' same = absurd cc
tenants_too limiter (Some (Tenants line)) same = absurd cc
tenants_too limiter limiter' same = refl

-- of scripts whose lines say the same one takes what the other takes
module _ (old old' : Script) (same : LinesHaveSameMeaning old old') where
  -- if one of two scripts whose lines say the same has no commands, the other has none
  none_too : HasNoCommands old → HasNoCommands old'
  none_too none = record {
    no_calls = none_mapped call_meaning old'.parts.calls (ap (λ s. s.calls) (sym same) ∙ ap (map call_meaning) none.no_calls);
    no_parts = none_mapped part_meaning old'.parts.earlier
        (ap (λ s. s.earlier) (sym same) ∙ ap (map part_meaning) none.no_parts);
  }

  -- a header line that the one takes is one that the other takes, where what allows the first allows the second
  header_too : {Allowed Allowed' : Type 0} {header header' : Header} {new : Script} → (Allowed → Allowed')
      → AddsHeader old Allowed header new → (new' : Script) × AddsHeader old' Allowed' header' new'
  header_too {header' = header'} allows a = (
    record old' { header = header' },
    record { before_commands = none_too a.before_commands; allowed = allows a.allowed; header = refl; parts = refl },
  )

  -- a line that the one takes the other takes, and each line that says the same
  takes_too : (line line' : Line) → line_meaning line ≡ line_meaning line' → (new : Script) → AddsLine old line new
      → (new' : Script) × AddsLine old' line' new'
  takes_too (Meter line) (Meter line') says new a = header_too (λ first. ap (λ s. s.meter) (sym same) ∙ first) a
  takes_too (Limiter line) (Limiter line') says new a =
      header_too (λ allowed. (
        none_of limiter_meaning old'.header.limiter_line
            (ap (λ s. s.limiter) (sym same) ∙ ap (option_map limiter_meaning) allowed.0),
        apart_too (Some line) (Some line') old'.header.region (cc) (rw (ap (λ s. s.region) same) at allowed.1),
      )) a
  takes_too (Region line) (Region line') says new a =
      let told : line ≡ line' = cc in
      header_too (λ allowed. (
        ap (λ s. s.region) (sym same) ∙ allowed.0,
        apart_too old.header.limiter_line old'.header.limiter_line (Some line') (ap (λ s. s.limiter) same)
            (rw told at allowed.1),
      )) a
  takes_too (Reserve slots) (Reserve slots') says new a =
      header_too (λ first. ap (λ s. s.reserve) (sym same) ∙ first) a
  takes_too (As tenant) (As tenant') says new a =
      let told : tenant ≡ tenant' = cc in
      let many = tenants_too old.header.limiter_line old'.header.limiter_line (ap (λ s. s.limiter) same) in (
        record old' { parts = record { earlier = parts_in old'.parts; tenant = tenant'; calls = [] } },
        record { there = omega (arith, a.there, told, many); parts = refl; header = refl },
      )
  takes_too (Command call) (Command call') says new a = (
    record old' { parts = record old'.parts { calls = old'.parts.calls ++ call' ∷ [] } },
    record { parts = refl; header = refl },
  )
  takes_too line line' says new a = absurd cc

  -- a line that the one takes the other takes
  line_too : (line : List ℕ) (new : Script) → AcceptsLine old line new → (new' : Script) × AcceptsLine old' line new'
  line_too line new (utf8, words, same, inl a) = (old', (utf8, words, same, inl (a.0, refl)))
  line_too line new (utf8, words, same, inr (told, names, adds)) =
      let after = takes_too told told refl new adds in (after.0, (utf8, words, same, inr (told, names, after.1)))

-- a script takes no words of which one line can't be added: all lines that words say have one meaning
pub no_words : (old : Script) (words : LineWords) (line : Line) → 1 ≤ length words
    → NamesLine (word_at words 0) (drop 1 words) line → ((new : Script) → ¬ (AddsLine old line new))
    → (new : Script) → ¬ (AddsWords old words new)
no_words old words line some names refused new (inl a) = absurd (omega (arith, some, ap length a.0))
no_words old words line some names refused new (inr (other, names', adds)) =
    let same : line_meaning other ≡ line_meaning line =
    cc (line_is (drop 1 words) (word_at words 0) other names', line_is (drop 1 words) (word_at words 0) line names) in
    let after = takes_too old old refl other line same new adds in refused after.0 after.1

-- lines with one that is bad for a script aren't taken from a script that says the same
not_taken : (before after : List (List ℕ)) (bad : List ℕ) (old old' script new : Script) → LinesHaveSameMeaning old old'
    → AcceptsLines before old script → IsBadLine script bad → ¬ (AcceptsLines (before ++ bad ∷ after) old' new)
not_taken [] after bad old old' script new same is wrong (middle, taken, later) =
    let t = line_too old' script (sym (ap lines_meaning is ∙ same)) bad middle taken in wrong t.0 t.1
not_taken (line ∷ before) after bad old old' script new same (m, t, l) wrong (m', t', l') =
    not_taken before after bad m m' script new (line_unique line old old' m m' same t t') l wrong l'

-- lines that are taken aren't those before a first bad line, that line and more
none_bad : (texts after : List (List ℕ)) (script : Script) (text : List ℕ) (number : ℕ) → AreTaken texts script
    → (bad : IsFirstBadLine text number) → ¬ (texts ≡ bad.before ++ bad.bad ∷ after)
none_bad texts after script text number taken bad split =
    not_taken bad.before after bad.bad bad.taken.empty taken.empty bad.script script
    (empties_same bad.taken.empty taken.empty bad.taken.is_new taken.is_new) bad.taken.lines bad.is_bad
    (rw split at taken.lines)

-- a text that writes a script has no bad line
pub no_bad_line : WrittenTextsHaveNoBadLine
no_bad_line text script number made bad = none_bad (lines_in text) bad.after script text number made bad bad.lines

-- as many lines at most are before one first bad line as before another
at_most : (text : List ℕ) (number number' : ℕ) (bad : IsFirstBadLine text number) (bad' : IsFirstBadLine text number')
    → length bad'.before ≤ length bad.before
at_most text number number' bad bad' = elim (cases_lt (length bad.before) (length bad'.before)) as
    (λ _. length bad'.before ≤ length bad.before) [
      | inl less ↦
          let more = length bad'.before - length bad.before - 1 in
          let split : bad'.before ≡ bad.before ++ bad.bad ∷ take more bad.after =
          sym (take_at bad'.before _ _ refl) ∙ ap (take (length bad'.before)) (sym bad'.lines ∙ bad.lines)
          ∙ ap (λ n. take n (bad.before ++ bad.bad ∷ bad.after)) (omega (arith, less))
          ∙ take-append-add bad.before (bad.bad ∷ bad.after) (suc more) in
          absurd (none_bad bad'.before (take more bad.after) bad'.script text number bad'.taken bad split)
      | inr fewer ↦ fewer
    ]

-- the first bad line of a text is one number
pub bad_lines_once : FirstBadLinesAreOne
bad_lines_once text number number' bad bad' =
    omega (
      arith,
      at_most text number number' bad bad',
      at_most text number' number bad' bad,
      bad.counted,
      bad'.counted,
    )
