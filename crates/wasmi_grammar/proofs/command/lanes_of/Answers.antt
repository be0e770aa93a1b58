use Rattle.std.proofs.Common.{◌≡◌, Bor, ℕ, List, Result, Ok, Err, IfErr, IfOk, length, refl, rules}
use Rattle.wasmi_grammar.proofs.Common.{IfErr-weaker, IfOk-weaker, IsAmong, LineError, BadCommand, OutOfMemory, Accepts, WritesNumber, LineWords, WritesEach, WritesLanes, each_said, not_each}
use Rattle.wasmi_grammar.proofs.command.lanes_of.Goals as goal

-- no lanes are written
abbrev WriteNoLanes : LineWords → Type 0
WriteNoLanes words = (lanes : List ℕ) → ¬ (WritesEach (WritesNumber 5) words lanes)

-- sixteen words are accepted where each of them writes a lane
accepted : (words : LineWords) (result : Result (List ℕ) LineError) → length words ≡ 16
    → IfOk result (WritesEach (WritesNumber 5) words)
    → IfErr result (λ error. (error ≡ BadCommand) × WriteNoLanes words) → Accepts result (WritesLanes words)
accepted words (Ok lanes) count taken refused = record { sixteen = count; written = taken }
accepted words (Err BadCommand) count taken refused = λ lanes writes. refused.1 lanes writes.written
accepted words (Err OutOfMemory) count taken refused = let same = refused.0 in absurd cc

-- one word that writes no lane is a bad command
refused_at : (words : LineWords) (word : Bor (List ℕ)) (error : LineError) → IsAmong words word
    → Accepts {A = ℕ} (Err error) (WritesNumber 5 word.now) → (error ≡ BadCommand) × WriteNoLanes words
refused_at words word BadCommand among unfit = (
  refl,
  not_each (WritesNumber 5) words among.0 word among.1.0
      (λ lane writes. unfit lane (rw among.1.1 writes)),
)
refused_at words word OutOfMemory among refused = absurd refused

pub returns : goal.returns
returns c =
    let result = c.try_map.result in
    let words = c.in-Some.words.now in
    let same = c.in-Some.ensures.cases.same in
    let taken : IfOk result (WritesEach (WritesNumber 5) words) =
    IfOk-weaker _ _ _ (λ lanes all. each_said (WritesNumber 5) _
    (λ word number says. let is : WritesNumber 5 word.now number = search rules in is) words lanes all.whole)
    c.try_map.ensures.ok in
    let refused : IfErr result (λ error. (error ≡ BadCommand) × WriteNoLanes words) =
    IfErr-weaker _ _ _ (λ error bad. refused_at words bad.0 error bad.1 (search rules))
    c.try_map.ensures.err in
    rw same at (accepted words result (search rules) taken refused)
