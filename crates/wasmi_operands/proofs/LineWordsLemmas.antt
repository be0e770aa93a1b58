-- Words that write an item each, the limit that a word writes, the digits of a word, the word at a place, and what
-- follows where a line or a part of it is accepted or refused.
use Rattle.std.proofs.Common.{ℕ, zero, suc, ◌≡◌, ◌<◌, ◌∷◌, ◌++◌, Err, List, [], false, get_or, length, map, take, refl, sym, ap, subst, arith, rules, tests, Option, Some, None, true, bytes_eq, codes, cond, Result, Ok, OnErr, IfErr, Bor}
use Rattle.std.specs.List.{AllZip}
use Rattle.wasmi_operands.specs.declared.error.LineError.{LineError}
use Rattle.wasmi_operands.specs.declared.error.LineError.TheVariants.{BadCommand, OutOfMemory}
use Rattle.wasmi_operands.specs.LineWords.{Accepts, AcceptsWithMemory, LineWords, WritesEach, IsDecimal, decimal_value, WritesLimit, word_at}
use Rattle.std.specs.Char.{digit_value}
use Rattle.std.specs.Str.Parse.{AllDigits}

module _ {A : Type 0} (Writes : List ℕ → A → Type 0) where
  -- one word more, and what it writes
  pub one_more : (words : LineWords) (i : ℕ) (none : Bor (List ℕ)) (items : List A) (item : A) → i < length words
      → WritesEach Writes (take i words) items → Writes (get_or words i none).now item
      → WritesEach Writes (take (suc i) words) (items ++ item ∷ [])
  one_more [] i none items item below before last = absurd (omega (arith, below))
  one_more (word ∷ words) zero none [] item below before last = (last, tt)
  one_more (word ∷ words) zero none (first ∷ items) item below before last = absurd before
  one_more (word ∷ words) (suc i) none [] item below before last = absurd before
  one_more (word ∷ words) (suc i) none (first ∷ items) item below before last =
      (before.0, one_more words i none items item (omega (arith, below)) before.1 last)

  -- words of which one writes nothing write no list
  pub not_each : (words : LineWords) (i : ℕ) (none : Bor (List ℕ)) → i < length words
      → ((item : A) → ¬ (Writes (get_or words i none).now item)) → (items : List A) → ¬ (WritesEach Writes words items)
  not_each [] i none below unfit items each = omega (arith, below)
  not_each (word ∷ words) i none below unfit [] each = each
  not_each (word ∷ words) zero none below unfit (item ∷ items) each = unfit item each.0
  not_each (word ∷ words) (suc i) none below unfit (item ∷ items) each =
      not_each words i none (omega (arith, below)) unfit items each.1

  -- what takes memory refuses words of which one is refused
  pub refused_list : {V : Type 0} (items : V → List A) (words : LineWords) (i : ℕ) (none : Bor (List ℕ))
      (error : LineError) → i < length words → Accepts {A = A} (Err error) (Writes (get_or words i none).now)
      → AcceptsWithMemory {A = V} (Err error) (λ list. WritesEach Writes words (items list))
  refused_list items words i none BadCommand below unfit = λ list. not_each words i none below unfit (items list)
  refused_list items words i none OutOfMemory below unfit = tt

  -- where a word names what it writes, words write one list at most
  pub each_named : (name : List ℕ → A) → ((word : List ℕ) (item : A) → Writes word item → name word ≡ item)
      → (words : LineWords) (items : List A) → WritesEach Writes words items
      → map name (map (λ word. word.now) words) ≡ items
  each_named name is [] [] each = refl
  each_named name is [] (item ∷ items) each = absurd each
  each_named name is (word ∷ words) [] each = absurd each
  each_named name is (word ∷ words) (item ∷ items) each =
      λ i. is word.now item each.0 i ∷ each_named name is words items each.1 i

  -- words write what something says of each of them
  pub each_said : (Says : Bor (List ℕ) → A → Type 0)
      → ((word : Bor (List ℕ)) (item : A) → Says word item → Writes word.now item)
      → (words : LineWords) (items : List A) → AllZip Says words items → WritesEach Writes words items
  each_said Says writes [] [] said = tt
  each_said Says writes [] (item ∷ items) said = absurd said
  each_said Says writes (word ∷ words) [] said = absurd said
  each_said Says writes (word ∷ words) (item ∷ items) said =
      (writes word item said.0, each_said Says writes words items said.1)

-- the limit that a word writes
pub limit_named : List ℕ → Option ℕ
limit_named word = cond (bytes_eq word (codes "none")) None (Some (decimal_value word))

-- a word that writes a limit gives that limit
pub limit_is : (word : List ℕ) (limit : Option ℕ) → WritesLimit word limit → limit_named word ≡ limit
unfolding limit_named IsDecimal
limit_is word None w = ap limit_named w
limit_is word (Some n) w = elim (bytes_eq word (codes "none")) as
    (λ b. bytes_eq word (codes "none") ≡ b → cond b None (Some (decimal_value word)) ≡ Some n) [
      | true ↦ λ e. absurd (search (rules, tests, e, w))
      | false ↦ λ e. ap (λ k. Some k) (sym w.1)
    ] refl

-- digits and the one behind them are digits
pub digits_to : (word : List ℕ) (i : ℕ) → i < length word → AllDigits 10 (take i word)
    → digit_value (get_or word i 0) < 10 → AllDigits 10 (take (suc i) word)
digits_to [] i inside digits digit = absurd (omega arith)
digits_to (c ∷ cs) zero inside digits digit = (digit, tt)
digits_to (c ∷ cs) (suc i) inside digits digit = (digits.0, digits_to cs i (omega arith) digits.1 digit)

-- what is accepted as one fact of a value is accepted as another that holds of the same values
pub accepts_same : {A : Type 0} (r : Result A LineError) (P Q : A → Type 0) → ((a : A) → P a → Q a)
    → ((a : A) → Q a → P a) → Accepts r P → Accepts r Q
accepts_same (Ok a) P Q there back p = there a p
accepts_same (Err BadCommand) P Q there back p = λ a q. p a (back a q)
accepts_same (Err OutOfMemory) P Q there back p = p

-- what is refused since a part of it is
pub refused_with : {A B : Type 0} (error : LineError) (P : A → Type 0) (Q : B → Type 0)
    → ((b : B) → Q b → (a : A) × P a) → Accepts {A = A} (Err error) P → Accepts {A = B} (Err error) Q
refused_with BadCommand P Q part refused = λ b q. refused (part b q).0 (part b q).1
refused_with OutOfMemory P Q part refused = refused

-- what is refused by the error of a part of it
pub refused_through : {A B : Type 0} {P : A → Type 0} {Q : B → Type 0} (error : LineError) (result : Result B LineError)
    → result ≡ Err error → ((b : B) → Q b → (a : A) × P a) → Accepts {A = A} (Err error) P → Accepts result Q
refused_through {P = P} {Q = Q} error result is part refused = rw is (refused_with error P Q part refused)

-- what is accepted is accepted where memory is taken
pub with_memory : {A : Type 0} (r : Result A LineError) (P : A → Type 0) → Accepts r P → AcceptsWithMemory r P
with_memory (Ok a) P p = p
with_memory (Err BadCommand) P p = p
with_memory (Err OutOfMemory) P p = tt

-- what is refused where memory is taken, since a part of it is
pub refused_with_memory : {A B : Type 0} (error : LineError) (P : A → Type 0) (Q : B → Type 0)
    → ((b : B) → Q b → (a : A) × P a)
    → AcceptsWithMemory {A = A} (Err error) P → AcceptsWithMemory {A = B} (Err error) Q
refused_with_memory BadCommand P Q part refused = λ b q. refused (part b q).0 (part b q).1
refused_with_memory OutOfMemory P Q part refused = tt

-- what is refused without memory is a bad command
pub is_bad : {A : Type 0} (error : LineError) (P : A → Type 0) → Accepts {A = A} (Err error) P → error ≡ BadCommand
is_bad BadCommand P refused = refl
is_bad OutOfMemory P refused = absurd refused

-- what holds of a refusal, whatever its error
pub on_refusal : {A E : Type 0} {P : Type 0} {Q : E → Type 0} (r : Result A E) → ((error : E) → P → Q error) → OnErr r P
    → IfErr r Q
on_refusal (Ok a) says p = tt
on_refusal (Err error) says p = says error p

-- the text of the word at a place, as the code takes the word
text_at : (words : LineWords) (k : ℕ) (none : Bor (List ℕ)) → none.now ≡ [] → word_at words k ≡ (get_or words k none).now
text_at [] k none empty = sym empty
text_at (word ∷ words) zero none empty = refl
text_at (word ∷ words) (suc k) none empty = text_at words k none empty

-- what the word at a place writes, as the code takes the word
pub written_at : (Writes : List ℕ → Type 0) (words : LineWords) (k : ℕ) (none : Bor (List ℕ)) → none.now ≡ []
    → Writes (word_at words k) → Writes (get_or words k none).now
written_at Writes words k none empty = subst Writes (text_at words k none empty)
