use Rattle.std.proofs.Common.{◌≡◌, codes, refl, rules}
use Rattle.wasmi_grammar.proofs.Common.{WritesNumber, reference_word, refused_with, written_at}
use Rattle.wasmi_grammar.proofs.CommandsLemmas.{refused_named}
use Rattle.wasmi_grammar.proofs.command.new_table.Goals as goal

pub returns-in_err-init_ty : goal.returns-in_err-init_ty
returns-in_err-init_ty c =
    let words = c.args.operands.now in
    refused_named {word = codes "table"} words (search rules) refl
    (refused_with c.in_err-init_ty.field-0.0 _ _ (λ a w. ((a.1.ty, a.1.raw), (refl, written_at (λ word. word ≡ reference_word a.1.ty) words 4 _ refl w.2.0, written_at (λ word. WritesNumber 32 word a.1.raw) words 5 _ refl w.2.1))) c.in_err-init_ty.ensures)
