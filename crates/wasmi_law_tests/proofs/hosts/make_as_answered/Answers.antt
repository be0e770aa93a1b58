use Rattle.wasmi_store.specs.Buffer.{Lent}
use Rattle.wasmi_law_tests.proofs.hosts.make_as_answered.Goals as goal

pub returns : goal.returns
returns g c =
    let creation = rw c.reset.ensures at c.make_under.ensures.made in
    let law = c.settlements_are_creations.ensures.memories (Lent c.args.region.now) c.args.ty c.args.answers.now
    c.make_under.new.limiter in
    record { made = λ l allows. law l _ creation allows }
