use Rattle.std.proofs.Common.{◌≡◌, ◌∙◌, Some, inl, inr, refl, rules, arith, sym, ap, length, drop}
use Rattle.std.proofs.lemmas.List.{take_at, drop_at, take-append-drop}
use Rattle.wasmi_c.proofs.memory.write.Goals as goal

pub returns-in-Ok : goal.returns-in-Ok
returns-in-Ok c =
    let size = c.args.memory.now.size in
    let rest = drop size c.args.region.now in
    let after = c.write_bytes.new.bytes in
    let long : length after ≡ size = search rules in
    let written = c.in-Ok.ensures.ok ∙ ap Some (sym (take_at after rest size long)) in
    inr (c.in-Some._ty, c.in-Some.ensures, inl (written, drop_at after rest size long, refl))

pub returns-in-Err : goal.returns-in-Err
returns-in-Err c = inr (c.in-Some._ty, c.in-Some.ensures, inr (grind (arith, take-append-drop)))
