use Rattle.std.proofs.Common.{ℕ, ◌≡◌, ◌++◌, ◌∙◌, List, [], codes, Option, append_assoc, append-nil, refl, sym}
use Rattle.std.proofs.lemmas.Grind.{put_two}
use Rattle.wasmi_script.specs.Texts.{number_text, wording_text}
use Rattle.wasmi_script.specs.declared.printing.Wording.{Wording}
use Rattle.wasmi_script.proofs.printing.ReplyHeadDisplay.fmt.Goals as goal

-- a text is that of the words of a wording and then of its numbers
in_two : (wording : Wording) (first second : Option ℕ) (numbers text : List ℕ) → wording.first ≡ first
    → wording.second ≡ second → number_text [] first ++ number_text (codes " ") second ≡ numbers
    → wording_text wording ≡ text → (wording.start.now ++ wording.words.now) ++ numbers ≡ text
in_two wording first second numbers text one two is whole =
    append_assoc wording.start.now wording.words.now numbers
    ∙ (λ i. wording.start.now ++ (wording.words.now
    ++ sym ((λ j. number_text [] (one j) ++ number_text (codes " ") (two j)) ∙ is) i)) ∙ whole

pub returns-in-None-Some-clause-writes : goal.returns-in-None-Some-clause-writes
returns-in-None-Some-clause-writes g c plain ok =
    let one = c.in_ok-write.ensures.writes plain refl in
    put_two g.W.Write.write_str_gives _ _ _ _ _ _ one (c.write-in-None-Some.ensures.writes one.plain ok)
    (in_two c.of-wording.result _ _ _ _ c.in-None-Some.is-0 c.in-None-Some.is-1 refl c.of-wording.ensures)

pub returns-in-Some-None-clause-writes : goal.returns-in-Some-None-clause-writes
returns-in-Some-None-clause-writes g c plain ok =
    let one = c.in_ok-write.ensures.writes plain refl in
    put_two g.W.Write.write_str_gives _ _ _ _ _ _ one (c.write-in-Some-None.ensures.writes one.plain ok)
    (in_two c.of-wording.result _ _ _ _ c.in-Some-None.is-0 c.in-Some-None.is-1 (append-nil _) c.of-wording.ensures)

pub returns-in-Some-Some-clause-writes : goal.returns-in-Some-Some-clause-writes
returns-in-Some-Some-clause-writes g c plain ok =
    let one = c.in_ok-write.ensures.writes plain refl in
    put_two g.W.Write.write_str_gives _ _ _ _ _ _ one (c.write-in-Some-Some.ensures.writes one.plain ok)
    (in_two c.of-wording.result _ _ _ _ c.in-Some-Some.is-0 c.in-Some-Some.is-1 refl c.of-wording.ensures)
