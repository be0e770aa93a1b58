use Rattle.std.proofs.Common.{◌≡◌, Some, None, ap, inl, refl, rules, sym}
use Rattle.wasmi_c.proofs.Common.{live_at, pages_of}
use Rattle.std.specs.Prelude.{Ok}
use Rattle.wasmi_machine.proofs.SlotsLemmas.{put_back}
use Rattle.wasmi_machine.specs.declared.calls.Reply.TheVariants.{Number}
use Rattle.wasmi_c.proofs.pool.size_reply.Goals as goal

pub returns-in-Some : goal.returns-in-Some
returns-in-Some c =
    let found : live_at c.args.machine.now.memories c.args.memory ≡ Some c.in-Some.memory.now = search rules in
    λ tenant. (
      0,
      _,
      record {
        part = c.args.machine.now.memories;
        meter = c.args.machine.now.meter;
        limiter = Some tenant;
        effect = rw found (
          Ok (pages_of c.in-Some.memory.now),
          c.in-Some.memory.now,
          inl (record { none = refl; answered = refl; uncharged = refl; same = refl }),
          ap Number c.size.ensures.value,
          sym (put_back c.args.machine.now.memories c.args.memory c.in-Some.memory.now c.in-Some.memory.now found refl),
        );
        wrote = refl;
        after = refl;
      },
    )

pub returns-in-None : goal.returns-in-None
returns-in-None c =
    let found : live_at c.args.machine.now.memories c.args.memory ≡ None = search rules in
    λ tenant. (
      0,
      _,
      record {
        part = c.args.machine.now.memories;
        meter = c.args.machine.now.meter;
        limiter = Some tenant;
        effect = rw found (refl, refl, refl);
        wrote = refl;
        after = refl;
      },
    )
