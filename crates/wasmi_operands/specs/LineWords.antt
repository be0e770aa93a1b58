-- The words of a line, the numbers and limits that they write, and what is accepted of a line or a bad command.
use Rattle.std.specs.Prelude.{ℕ, List, [], filter, length, map, nat_lt, slice_index_or, ◌==◌, ◌≡◌, ◌<◌, ◌^◌, Option, None, Some, codes, Result, Ok, Err, ⊤}
use Rattle.std.specs.List.{AllZip, slice_split}
use Rattle.std.specs.Borrow.{Bor}
use Rattle.std.specs.Str.Parse.{IsNumeral, digits_value}
use Rattle.wasmi_operands.specs.declared.error.LineError.{LineError}
use Rattle.wasmi_operands.specs.declared.error.LineError.TheVariants.{BadCommand, OutOfMemory}

-- words, each with its text
abbrev pub LineWords : Type 0
LineWords = List (Bor (List ℕ))

-- the text of the word at this place
abbrev pub word_at : LineWords → ℕ → List ℕ
word_at words k = slice_index_or (map (λ word. word.now) words) k []

-- the words of a line: what stands between its spaces
unfoldable pub words_in : List ℕ → List (List ℕ)
words_in line = filter (λ word. nat_lt 0 (length word)) (slice_split (λ byte. byte == 32) line)

-- the words write these, one each, in order
abbrev pub WritesEach : {A : Type 0} → (List ℕ → A → Type 0) → LineWords → List A → Type 0
WritesEach Writes words items = AllZip Writes (map (λ word. word.now) words) items

-- a word of one decimal digit or more, and nothing else
unfoldable pub IsDecimal : List ℕ → Type 0
IsDecimal word = IsNumeral 10 word

-- the number that the digits of a word write
unfoldable pub decimal_value : List ℕ → ℕ
decimal_value word = digits_value 10 word

-- the word writes this number, which fits so many bits
abbrev pub WritesNumber : ℕ → List ℕ → ℕ → Type 0
WritesNumber bits word number = IsDecimal word × (number ≡ decimal_value word) × (number < 2 ^ bits)

-- the word `none`, or a word that writes the number
abbrev pub WritesLimit : List ℕ → Option ℕ → Type 0
WritesLimit word None = word ≡ codes "none"
WritesLimit word (Some number) = WritesNumber 64 word number

-- what is accepted is meant, and what is refused is a bad command: nothing is meant
abbrev pub Accepts : {A : Type 0} → Result A LineError → (A → Type 0) → Type 0
Accepts (Ok a) Means = Means a
Accepts (Err BadCommand) Means = (a : _) → ¬ (Means a)
Accepts (Err OutOfMemory) Means = ⊥

-- the words are read as a value that means this, or they mean nothing of the kind, or memory was refused
abbrev pub AcceptsWithMemory : {A : Type 0} → Result A LineError → (A → Type 0) → Type 0
AcceptsWithMemory (Ok a) Means = Means a
AcceptsWithMemory (Err BadCommand) Means = (a : _) → ¬ (Means a)
AcceptsWithMemory (Err OutOfMemory) Means = ⊤
