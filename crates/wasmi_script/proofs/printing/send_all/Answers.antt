use Rattle.std.proofs.Common.{Option, ◌≡◌, ℕ, List, [], ◌++◌, rules, take, drop, sym, ap, ◌∙◌, append_assoc, append-nil, take-append-drop, drop_of_length-le}
use Rattle.wasmi_script.proofs.Common.{take_rest, Appends, Appends-nil, Appends-trans, Appends-kept}
use Rattle.wasmi_script.proofs.printing.send_all.Goals as goal

-- what is gone from a text and so many bytes of what is left are its front, once these are appended too
takes_front : (known before after : Option (List ℕ)) (all front rest : List ℕ) (n : ℕ) → all ≡ front ++ rest
    → Appends known before front → Appends before after (take n rest)
    → (all ≡ (front ++ take n rest) ++ drop n rest) × Appends known after (front ++ take n rest)
takes_front known before after all front rest n split appended more = (
  rw (append_assoc front (take n rest) (drop n rest), take-append-drop n rest) split,
  Appends-trans known before after front (take n rest) appended more,
)

pub loop-rest-init : goal.loop-rest-init
loop-rest-init g c = ([], search rules, Appends-nil _)

pub loop-rest-preserved : goal.loop-rest-preserved
loop-rest-preserved g c =
    let (front, split, appended) = c.loop-rest.invariant in
    let rest = c.loop-rest.rest.now in
    let n = c.in-Ok.count in
    let (split', appended') = takes_front _ _ _ _ front rest n split appended c.in-Ok.ensures.bytes in
    (front ++ take n rest, split' ∙ ap (λ l. (front ++ take n rest) ++ l) (sym (take_rest rest n)), appended')

pub returns-in-Ok-eq0-clause-front : goal.returns-in-Ok-eq0-clause-front
returns-in-Ok-eq0-clause-front g c =
    let (front, split, appended) = c.loop-rest.invariant in
    let gone = takes_front _ _ _ _ front _ c.in-Ok-eq0.field-0 split appended c.in-Ok-eq0.ensures.bytes in
    (_, _, gone.0, gone.1)

pub returns-in-Err-clause-front : goal.returns-in-Err-clause-front
returns-in-Err-clause-front g c =
    let (front, split, appended) = c.loop-rest.invariant in
    (front, c.loop-rest.rest.now, split, Appends-kept _ _ _ _ appended c.in-Err.ensures.bytes)

pub returns-clause-ok : goal.returns-clause-ok
returns-clause-ok g c _ =
    let (front, split, appended) = c.loop-rest.invariant in
    rw (split, drop_of_length-le c.loop-rest.rest.now {i = 0} (search rules), append-nil front) appended

pub returns-clause-front : goal.returns-clause-front
returns-clause-front g c =
    let (front, split, appended) = c.loop-rest.invariant in
    (front, c.loop-rest.rest.now, split, appended)
