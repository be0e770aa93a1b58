use Rattle.std.proofs.Common.{◌≡◌, filter, length, map, nat_lt}
use Rattle.wasmi_operands.proofs.operand.read_words.Given as goal

abbrev pub invariant-loop-word : goal.invariant-loop-word
invariant-loop-word l = map (λ word. word.now) l.words.items
    ≡ filter (λ word. nat_lt 0 (length word)) (map (λ word. word.now) l.yielded)
