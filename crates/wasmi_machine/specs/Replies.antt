-- Replies in memory that is kept from run to run, and the text of the error of a run for which it is too small.
use Rattle.std.specs.Prelude.{ℕ, List, codes}
use Rattle.wasmi_machine.specs.declared.calls.Reply.{Reply}

-- the replies, and for how many there is memory
pub record RepliesValue : Type 0 where
  pub items : List Reply
  pub capacity : ℕ

-- the text of why a list isn't executed
abbrev pub too_many_calls_text : List ℕ
too_many_calls_text = codes "more calls than there is memory for replies"
