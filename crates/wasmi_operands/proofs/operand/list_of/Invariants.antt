use Rattle.std.proofs.Common.{◌≡◌, ◌≤◌, length, take, vec_len, vec_capacity}
use Rattle.wasmi_operands.specs.LineWords.{WritesEach}
use Rattle.wasmi_operands.proofs.operand.list_of.Given as goal

-- the words so far write the list, which has room for what the others write
abbrev pub invariant-loop-word : goal.invariant-loop-word
invariant-loop-word g l = record {
  written : WritesEach g.T.Operand.writes (take l.word-index l.words) l.list.items;
  count : vec_len l.list ≡ l.word-index;
  room : length l.words ≤ vec_capacity l.list;
}
