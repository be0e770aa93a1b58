use Rattle.std.proofs.Common.{◌≡◌, inr, refl, arith, take, Some, None}
use Rattle.std.specs.List.{slice_get}
use Rattle.std.proofs.lemmas.Option.{gets}
use Rattle.wasmi_c.proofs.table.get.Goals as goal

pub returns-in_default-get : goal.returns-in_default-get
returns-in_default-get c =
    let none : slice_get (take c.args.table.now.size c.args.region.now) c.args.index ≡ None = grind (arith, gets) in
    inr (c.in-Some._ty, c.in-Some.ensures, rw none (refl, refl))

pub returns : goal.returns
returns c =
    let found = c.in-Some-get.found.now in
    let some : slice_get (take c.args.table.now.size c.args.region.now) c.args.index ≡ Some found = grind (arith, gets) in
    inr (c.in-Some._ty, c.in-Some.ensures, rw some (refl, refl))
