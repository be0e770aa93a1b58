-- What the words of a line say by its first word, when a line is refused, and what lines add to a script one after the
-- other, up to the first bad line.
use Rattle.std.proofs.Common.{ℕ, ◌≡◌, ◌∙◌, Result, Err, bytes_eq, cond, IfErr, OnErr, List, [], ◌∷◌, Bor, get_or, length, take, drop, ◌-◌, codes, refl, sym, ◌≤◌, ◌<◌, ◌+◌, ◌++◌, map, arith, ap, rules, tests, take-append-drop, length-append, add-one, drop-cons, inl, inr}
use Rattle.wasmi_grammar.proofs.Common.{take_rest, length-map, take-map, Line, Meter, Limiter, Region, Reserve, As, RegionLine, Script, LineError, BadCommand, Accepts, AcceptsWithMemory, LineWords, word_at, LimiterLine, Quota, Answers, Tenants, command_word, WritesOperands, NamesAfter, WritesMeter, WritesRegion, WritesReserve, WritesTenant, NamesLimiterAfter, NamesLine, AddsLine, AddsWords, AcceptsLine, AcceptsLines, AreTaken, calls_of, lines_in, IsBadLine, IsFirstBadLine, on_refusal, refused_with_memory, with_memory, written_at, enumerate_from, Call}
use Rattle.wasmi_grammar.specs.declared.script.Line.TheVariants.{Call as Command}
use Rattle.wasmi_grammar.specs.declared.header.MeterLine.{MeterLine}
use Rattle.wasmi_grammar.proofs.CommandsLemmas.{Form}
use Rattle.wasmi_grammar.proofs.PartsLemmas.{with_last}
use Rattle.wasmi_machine.specs.declared.slots.SlotCounts.{SlotCounts}
use Rattle.wasmi_machine.specs.declared.calls.Call.TheVariants.{GetFuel}
use Rattle.std.proofs.lemmas.List.FromFn.{length-enumerate_from, get_or-enumerate_from}

-- what a line's first word and the words after it say, as the code takes them from the line
pub at_places : (words : LineWords) (none : Bor (List ℕ)) (line : Line) → none.now ≡ []
    → NamesLine (get_or words 0 none).now (take (length words - 1) (drop 1 words)) line
    → NamesLine (word_at words 0) (drop 1 words) line
at_places words none line empty names =
    written_at (λ name. NamesLine name (drop 1 words) line → NamesLine (word_at words 0) (drop 1 words) line) words 0 none
    empty (λ here. here) (rw (take_rest words 1) at names)

-- what the words after a first word write, by that word
abbrev after_word : List ℕ → Form
after_word word =
    cond (bytes_eq word (codes "meter")) (MeterLine, λ words line. WritesMeter words line)
    (cond (bytes_eq word (codes "quota")) (LimiterLine, λ words line. NamesLimiterAfter (codes "quota") words line)
    (cond (bytes_eq word (codes "answers")) (LimiterLine, λ words line. NamesLimiterAfter (codes "answers") words line)
    (cond (bytes_eq word (codes "tenants")) (LimiterLine, λ words line. NamesLimiterAfter (codes "tenants") words line)
    (cond (bytes_eq word (codes "region")) (RegionLine, λ words line. WritesRegion words line)
    (cond (bytes_eq word (codes "reserve")) (SlotCounts, λ words slots. WritesReserve words slots)
    (cond (bytes_eq word (codes "as")) (ℕ, λ words tenant. WritesTenant words tenant)
    (Call, λ words call. WritesOperands words call)))))))

-- what the words after a first word write is something
abbrev IsWritten : LineWords → List ℕ → Type 0
IsWritten words word = (a : (after_word word).0) × (after_word word).1 words a

-- the words of a line after its first word, where that is a command's, write what it says: the operands of its call
command_written : (words : LineWords) (call : Call) → WritesOperands words call → IsWritten words (command_word call)
command_written words GetFuel w = (GetFuel, w)
command_written words call w = (call, w)

-- where the words after a first word say something, they write what that word says
line_written : (name : List ℕ) (words : LineWords) (line : Line) → NamesLine name words line → IsWritten words name
line_written name words (Meter line) w = rw w.0 (line, w.1)
line_written name words (Limiter (Quota caps)) w = rw (← w.0) (Quota caps, (refl, w.1))
line_written name words (Limiter (Answers list)) w = rw (← w.0) (Answers list, (refl, w.1))
line_written name words (Limiter (Tenants line)) w = rw (← w.0) (Tenants line, (refl, w.1))
line_written name words (Region line) w = rw w.0 (line, w.1)
line_written name words (Reserve slots) w = rw w.0 (slots, w.1)
line_written name words (As tenant) w = rw w.0 (tenant, w.1)
line_written name words (Command call) w = rw (← w.0) (command_written words call w.1)

-- a line is refused where what its first word says is refused
pub refused_line : {name word : List ℕ} (words : LineWords) {error : LineError} {result : Result Line LineError}
    → result ≡ Err error → name ≡ word
    → AcceptsWithMemory {A = (after_word word).0} (Err error) ((after_word word).1 words)
    → AcceptsWithMemory result (NamesLine name words)
refused_line {name} {word} words {error} is same refused =
    rw is (refused_with_memory error ((after_word word).1 words) (NamesLine name words)
    (λ line names. rw same at (line_written name words line names)) refused)

-- the same, where what is refused takes no memory
pub refused_header : {name word : List ℕ} (words : LineWords) {error : LineError} {result : Result Line LineError}
    → result ≡ Err error → name ≡ word
    → Accepts {A = (after_word word).0} (Err error) ((after_word word).1 words)
    → AcceptsWithMemory result (NamesLine name words)
refused_header {name} {word} words {error} is same refused =
    refused_line words is same (with_memory (Err error) ((after_word word).1 words) refused)

-- words after a word of no header line say a call, if they say anything
pub command_only : (name : List ℕ) (words : LineWords) → ¬ (name ≡ codes "meter") → ¬ (name ≡ codes "quota")
    → ¬ (name ≡ codes "answers") → ¬ (name ≡ codes "tenants") → ¬ (name ≡ codes "region") → ¬ (name ≡ codes "reserve")
    → ¬ (name ≡ codes "as") → (line : Line) → NamesLine name words line → (call : Call) × NamesAfter name words call
command_only name words meter quota answers tenants region reserve as_line (Command call) w = (call, w)
command_only name words meter quota answers tenants region reserve as_line (Limiter (Quota caps)) w =
    absurd (quota (sym w.0))
command_only name words meter quota answers tenants region reserve as_line line w =
    absurd (search (rules, tests, w))

-- a refused line of one kind adds nothing
pub refused_as : {A : Type 0} (old : Script) (line kind : Line) (result : Result A LineError) → line ≡ kind
    → OnErr result ((new : Script) → ¬ (AddsLine old kind new))
    → IfErr result (λ error. error ≡ BadCommand → (new : Script) → ¬ (AddsLine old line new))
refused_as old line kind result is =
    on_refusal result (λ error refused bad new adds. refused new (rw is at adds))

-- one line more is taken after others
pub one_more : (lines : List (List ℕ)) (line : List ℕ) (first middle last : Script)
    → AcceptsLines lines first middle → AcceptsLine middle line last → AcceptsLines (lines ++ line ∷ []) first last
one_more [] line first middle last same taken = (last, rw same at taken, refl)
one_more (l ∷ lines) line first middle last before taken =
    (before.0, before.1, one_more lines line before.0 middle last before.2 taken)

-- numbered items, as lines with their numbers, are the items without their numbers
pub without_numbers : {X : Type 0} (n : ℕ) (xs : List X) → map (λ p. p.1) (enumerate_from n xs) ≡ xs
without_numbers n [] = refl
without_numbers n (x ∷ xs) = ap (λ ys. x ∷ ys) (without_numbers (n + 1) xs)

-- the lines of a script before a numbered one, this one and the later ones
pub lines_at : (lines : List (List ℕ)) (n : ℕ) (before : List (ℕ × List ℕ)) (here : ℕ × List ℕ)
    → before ≡ take n (enumerate_from 0 lines)
    → (n < length (enumerate_from 0 lines)) × (here ≡ get_or (enumerate_from 0 lines) n here)
    → (lines ≡ map (λ p. p.1) before ++ here.1 ∷ drop (n + 1) lines) × (here.0 ≡ n)
lines_at lines n before here so_far (below, is) =
    let within : n < length lines = omega (arith, below, length-enumerate_from 0 lines) in
    let there : here ≡ (0 + n, get_or lines n here.1) = is ∙ get_or-enumerate_from 0 lines n here within in
    let text : here.1 ≡ get_or lines n here.1 = ap (λ p. p.1) there in
    let later : drop n lines ≡ here.1 ∷ drop (n + 1) lines = cc (drop-cons lines n here.1 within, add-one n) in (
      rw (so_far, ← take-map, without_numbers 0 lines, ← later) (sym (take-append-drop n lines)),
      ap (λ p. p.0) there ∙ omega arith,
    )

-- a line that isn't taken after those before it is the first bad one
pub stops_at : (text : List ℕ) (n : ℕ) (before : List (ℕ × List ℕ)) (here : ℕ × List ℕ) (script : Script)
    → AreTaken (map (λ p. p.1) before) script → length before ≡ n → before ≡ take n (enumerate_from 0 (lines_in text))
    → (n < length (enumerate_from 0 (lines_in text))) × (here ≡ get_or (enumerate_from 0 (lines_in text)) n here)
    → IsBadLine script here.1 → IsFirstBadLine text (here.0 + 1)
stops_at text n before here script taken count so_far there bad =
    let place = lines_at (lines_in text) n before here so_far there in record {
      before = map (λ p. p.1) before;
      bad = here.1;
      after = drop (n + 1) (lines_in text);
      lines = place.0;
      counted = omega (arith, place.1, count, length-map before (λ p. p.1));
      script = script;
      taken = taken;
      is_bad = bad;
    }

-- a line adds one call at most
line_count : (old : Script) (line : Line) (new : Script) → AddsLine old line new
    → length (calls_of new) ≤ length (calls_of old) + 1
line_count old (As tenant) new a = rw a.parts (simp (with_last, length-append) (omega arith))
line_count old (Command call) new a = rw a.parts (simp (with_last, length-append) (omega arith))
line_count old line new a = rw a.parts (omega arith)

-- the words of a line add one call at most
pub added_count : (old : Script) (words : LineWords) (new : Script) → AddsWords old words new
    → length (calls_of new) ≤ length (calls_of old) + 1
added_count old words new (inl a) = rw a.1 (omega arith)
added_count old words new (inr (line, names, adds)) = line_count old line new adds
