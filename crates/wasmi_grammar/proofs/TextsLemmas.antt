-- Words with the same texts write the same and add the same to a script.
use Rattle.std.proofs.Common.{ℕ, ◌≡◌, ◌∙◌, List, [], ◌∷◌, length, map, drop, slice_index_or, inl, inr, refl, sym, ap, subst}
use Rattle.wasmi_grammar.proofs.Common.{length-map, drop-map, AllZip, Call, Line, Meter, Limiter, Region, Reserve, As, Script, Quota, Answers, Tenants, LineWords, WritesEach, word_at, IsDecimal, WritesNumber, decimal_value, WritesLanes, WritesAnswer, OperandsWrite, WritesOperands, NamesLine, AddsWords}
use Rattle.wasmi_machine.specs.declared.calls.Call.TheVariants.{Write, NewData, NewSegment, Shuffle}
use Rattle.wasmi_grammar.specs.declared.script.Line.TheVariants.{Call as Command}
use Rattle.wasmi_grammar.specs.declared.header.MeterLine.TheVariants.{Off, On}

-- the texts of words
abbrev texts : LineWords → List (List ℕ)
texts words = map (λ word. word.now) words

-- words with the same texts write the same list
retell_each : {A : Type 0} (Writes : List ℕ → A → Type 0) (words words' : LineWords) (items : List A)
    → texts words ≡ texts words' → WritesEach Writes words items → WritesEach Writes words' items
retell_each Writes words words' items same = subst (λ ts. AllZip Writes ts items) same

-- words with the same texts write the same lanes of a shuffle
retell_lanes : (words words' : LineWords) (lanes : List ℕ) → texts words ≡ texts words' → WritesLanes words lanes
    → WritesLanes words' lanes
retell_lanes words words' lanes same writes = record {
  sixteen = sym (simp length-map at (ap length same)) ∙ writes.sixteen;
  written = retell_each (WritesNumber 5) words words' lanes same writes.written;
}

-- the operands of a line, as words with the same texts
module _ (words words' : LineWords) (same : texts words ≡ texts words') where
  -- words with the same texts are as many
  as_many : length words' ≡ length words
  as_many = sym (simp length-map at (ap length same))

  -- words with the same texts have the same text at each place
  at : (k : ℕ) → word_at words k ≡ word_at words' k
  at k = ap (λ ts. slice_index_or ts k []) same

  -- a number that one of such words writes is written by the other at its place
  number : {n : ℕ} {Fits : Type 0} (k : ℕ) → IsDecimal (word_at words k) × (n ≡ decimal_value (word_at words k)) × Fits
      → IsDecimal (word_at words' k) × (n ≡ decimal_value (word_at words' k)) × Fits
  number k w = rw (at k) at w

  -- words with the same texts, without as many of their first, have the same texts
  later : (k : ℕ) → texts (drop k words) ≡ texts (drop k words')
  later k = sym (drop-map (λ word. word.now) k words) ∙ ap (drop k) same ∙ drop-map (λ word. word.now) k words'

  -- operands with the same texts write the same but for a list at their end
  retell_first : (call : Call) → OperandsWrite (length words) (word_at words) call
      → OperandsWrite (length words') (word_at words') call
  retell_first call w =
      subst {A = ℕ → List ℕ} (λ word. OperandsWrite (length words') word call) (λ i k. at k i)
      (subst (λ count. OperandsWrite count (word_at words) call) (sym as_many) w)

  -- operands with the same texts write the same call
  retell_operands : (call : Call) → WritesOperands words call → WritesOperands words' call
  retell_operands (Write memory offset bytes) w = (
    retell_first (Write memory offset bytes) w.0,
    retell_each (WritesNumber 8) (drop 2 words) (drop 2 words') bytes.items (later 2) w.1,
  )
  retell_operands (NewSegment ty items) w = (
    retell_first (NewSegment ty items) w.0,
    retell_each (WritesNumber 32) (drop 1 words) (drop 1 words') items.items (later 1) w.1,
  )
  retell_operands (NewData bytes) w = retell_each (WritesNumber 8) words words' bytes.items same w
  retell_operands (Shuffle dst a b lanes) w = (
    retell_first (Shuffle dst a b lanes) w.0,
    retell_lanes (drop 3 words) (drop 3 words') lanes (later 3) w.1,
  )
  retell_operands call w = retell_first call w

  -- operands with the same texts say the same after a first word
  retell_line : (name : List ℕ) (line : Line) → NamesLine name words line → NamesLine name words' line
  retell_line name (Meter Off) (is, (many, off)) = (is, (as_many ∙ many, sym (at 0) ∙ off))
  retell_line name (Meter (On bytes)) (is, (many, on, fuel)) = (is, (as_many ∙ many, sym (at 0) ∙ on, number 1 fuel))
  retell_line name (Limiter (Quota line)) (is, (many, bytes, elements)) =
      (is, (as_many ∙ many, number 0 bytes, number 1 elements))
  retell_line name (Limiter (Answers list)) w = (w.0, retell_each WritesAnswer words words' list.items same w.1)
  retell_line name (Limiter (Tenants line)) (is, (many, count, some, most, bytes, elements)) =
      (is, (as_many ∙ many, number 0 count, some, most, number 1 bytes, number 2 elements))
  retell_line name (Region line) (is, (many, len, byte)) = (is, (as_many ∙ many, number 0 len, number 1 byte))
  retell_line name (Reserve slots) (is, (many, a, b, c, d, e)) =
      (is, (as_many ∙ many, number 0 a, number 1 b, number 2 c, number 3 d, number 4 e))
  retell_line name (As tenant) (is, (many, index)) = (is, (as_many ∙ many, number 0 index))
  retell_line name (Command call) w = (w.0, retell_operands call w.1)

-- a list is empty if that of its images is, as a list of words is if that of their texts is
pub none_mapped : {A B : Type 0} (f : A → B) (xs : List A) → map f xs ≡ [] → xs ≡ []
none_mapped f [] e = refl
none_mapped f (x ∷ xs) e = absurd cc

-- words add what all words with the same texts add
pub retell : (words words' : LineWords) → texts words ≡ texts words' → (old new : Script) → AddsWords old words new
    → AddsWords old words' new
retell words words' same old new (inl a) = inl (none_mapped (λ word. word.now) words' (sym same ∙ ap texts a.0), a.1)
retell words words' same old new (inr (line, names, adds)) =
    let here = rw (at words words' same 0) at names in
    inr (line, retell_line (drop 1 words) (drop 1 words') (later words words' same 1) _ line here, adds)
