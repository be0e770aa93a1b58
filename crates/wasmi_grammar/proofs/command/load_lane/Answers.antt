use Rattle.std.proofs.Common.{codes, refl, rules}
use Rattle.wasmi_grammar.proofs.Common.{WritesNumber, refused_with, written_at}
use Rattle.wasmi_grammar.proofs.CommandsLemmas.{refused_named}
use Rattle.wasmi_grammar.proofs.command.load_lane.Goals as goal

pub returns-in_err-dst : goal.returns-in_err-dst
returns-in_err-dst c =
    let words = c.args.operands.now in
    refused_named {word = codes "vloadlane"} words (search rules) refl
    (refused_with c.in_err-dst.field-0.0 _ _ (λ a w. ((a.1, a.2, a.3, a.4, a.5), (refl, written_at (λ word. WritesNumber 8 word a.1) words 1 _ refl w.2, written_at (λ word. WritesNumber 8 word a.2) words 2 _ refl w.3, written_at (λ word. WritesNumber 64 word a.3) words 4 _ refl w.4, written_at (λ word. WritesNumber 64 word a.4) words 5 _ refl w.5, written_at (λ word. WritesNumber 64 word a.5) words 6 _ refl w.6))) c.in_err-dst.ensures)
