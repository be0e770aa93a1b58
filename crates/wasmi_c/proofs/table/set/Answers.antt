use Rattle.std.proofs.Common.{◌≡◌, Ok, Err, inr, refl, rules, length}
use Rattle.std.proofs.lemmas.List.{take_at, drop_at}
use Rattle.wasmi_c.proofs.table.set.Goals as goal

pub returns-in-Ok : goal.returns-in-Ok
returns-in-Ok c =
    let long : length c.set.new.elements ≡ c.args.table.now.size = search rules in
    inr (c.in-Some.ty, c.in-Some.ensures, (drop_at _ _ _ long, (Ok tt, rw take_at c.in-Ok.ensures, refl)))

pub returns-in-Err : goal.returns-in-Err
returns-in-Err c =
    let long : length c.set.new.elements ≡ c.args.table.now.size = search rules in
    let is = c.table_status.ensures in
    inr (c.in-Some.ty, c.in-Some.ensures, (drop_at _ _ _ long, (Err c.in-Err.error, rw take_at c.in-Err.ensures, is)))
