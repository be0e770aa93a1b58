use Rattle.std.proofs.Common.{[], ◌∷◌, inl, refl}
use Rattle.wasmi_law_tests.proofs.Common.{All-head, HoldsSums, UnderQuota}
use Rattle.wasmi_c.specs.Numbers.{placed}
use Rattle.wasmi_law_tests.proofs.HostsLemmas.{nothing_left, nothing_made, not_short}
use Rattle.wasmi_law_tests.proofs.hosts.make_and_end.Goals as goal

pub returns : goal.returns
returns c =
    let made = placed c.make.new.memory c.make.new.region in
    let begun : UnderQuota = record { quota = c.args.quota.now; bytes = []; elements = [] } in
    let one : UnderQuota = record {
      quota = c.make.new.quota;
      bytes = c.make.new.memory.size ∷ [];
      elements = [];
    } in
    let held = c.one_quota_holds_all.ensures begun (one ∷ [])
    (nothing_made c.args.quota.now c.requires.on c.requires.empty) (
      (
        c.make.ensures.quota,
        inl (record {
          before = placed c.args.memory.now c.args.bytes.now;
          status = c.make.result;
          after = made;
          makes = c.make.ensures.made;
          sizes = rw c.if-make-ne-DONE.false refl;
          others = refl;
        }),
      ),
      tt,
    ) in
    let holds = All-head HoldsSums one [] held in
    record {
      held = nothing_left c.make.new.quota c.release.new.quota made c.release.result c.release.new.memory holds
          c.release.ensures.quota c.release.ensures.ended;
      ends = not_short c.make.new.quota c.release.new.quota made c.release.result c.release.new.memory holds
          c.release.ensures.quota c.release.ensures.ended c.one_quota_holds_each.ensures;
    }
