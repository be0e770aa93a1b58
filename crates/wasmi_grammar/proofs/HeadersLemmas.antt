-- The answers that the words of an `answers` line stand for, and the numbers of a `quota` or a `tenants` line.
use Rattle.std.proofs.Common.{◌≡◌, List, ℕ, ◌∙◌, codes, length, map, refl, ap, rules, tests}
use Rattle.wasmi_grammar.proofs.Common.{unwrap_or, LineWords, WritesEach, WritesNumber, word_at, LimiterLine, Quota, Tenants, NamesLimiterAfter, WritesAnswer, answer_text, named, named_is, each_named}
use Rattle.wasmi_meter.specs.declared.answer_list.LimiterAnswer.{LimiterAnswer}
use Rattle.wasmi_meter.specs.declared.answer_list.LimiterAnswer.TheVariants.{Permit}
use Rattle.wasmi_meter.specs.contracts.answer_list.LimiterAnswer.{enum}

-- the answer that a word stands for
answer_named : List ℕ → LimiterAnswer
answer_named word = unwrap_or (named enum tt answer_text word) Permit

-- the word that stands for an answer gives that answer
answer_is : (answer : LimiterAnswer) → answer_named (answer_text answer) ≡ answer
unfolding answer_named
answer_is answer = ap (λ found. unwrap_or found Permit) (named_is enum tt answer_text refl (answer_text answer) answer refl)

-- the answers that words stand for
pub answers_named : LineWords → List LimiterAnswer
answers_named words = map answer_named (map (λ word. word.now) words)

-- words that stand for answers give those answers
pub answers_is : (words : LineWords) (answers : List LimiterAnswer) → WritesEach WritesAnswer words answers
    → answers_named words ≡ answers
unfolding answers_named
answers_is = each_named WritesAnswer answer_named (λ word answer is. ap answer_named is ∙ answer_is answer)

-- the caps of a `quota` line
pub caps_of : (words : LineWords) (line : LimiterLine) → NamesLimiterAfter (codes "quota") words line
    → (a : ℕ × ℕ)
    × ((length words ≡ 2) × WritesNumber 64 (word_at words 0) a.0 × WritesNumber 64 (word_at words 1) a.1)
caps_of words (Quota caps) names = ((caps.bytes, caps.elements), names.1)
caps_of words line names = absurd (search (rules, tests, names))

-- the numbers of a `tenants` line
pub numbers_of : (words : LineWords) (line : LimiterLine) → NamesLimiterAfter (codes "tenants") words line
    → (a : ℕ × ℕ × ℕ) × ((length words ≡ 3) × WritesNumber 64 (word_at words 0) a.0
    × WritesNumber 64 (word_at words 1) a.1 × WritesNumber 64 (word_at words 2) a.2)
numbers_of words (Tenants line) (is, (many, count, some, most, bytes, elements)) =
    ((line.count, line.caps.bytes, line.caps.elements), (many, count, bytes, elements))
numbers_of words line names = absurd (search (rules, tests, names))
