use Rattle.std.proofs.Common.{◌≡◌, [], ◌∷◌, inl, inr, refl, arith}
use Rattle.std.proofs.lemmas.Bool.Decides.{nat_tests}
use Rattle.wasmi_law_tests.proofs.Common.{All-head, All-tail, HoldsSums, UnderQuota, sizes_made}
use Rattle.wasmi_law_tests.proofs.HostsLemmas.{nothing_made, both_made}
use Rattle.wasmi_law_tests.proofs.hosts.make_both.Goals as goal

pub returns-then-of_memory-eq-DONE : goal.returns-then-of_memory-eq-DONE
returns-then-of_memory-eq-DONE c =
    let memory = c.make-of_memory in
    let table = c.make-of_table in
    let begun : UnderQuota = record { quota = c.args.quota.now; bytes = []; elements = [] } in
    let one : UnderQuota = record {
      quota = memory.new.quota;
      bytes = sizes_made [] memory.result memory.new.memory.size;
      elements = [];
    } in
    let both : UnderQuota = record {
      quota = table.new.quota;
      bytes = sizes_made [] memory.result memory.new.memory.size;
      elements = sizes_made [] table.result table.new.table.size;
    } in
    let held = c.one_quota_holds_all.ensures begun (one ∷ both ∷ [])
    (nothing_made c.args.quota.now c.requires.on c.requires.empty) (
      (
        memory.ensures.quota,
        inl (record {
          before = record { numbers = c.args.memory.now; region = c.args.bytes.now };
          status = memory.result;
          after = record { numbers = memory.new.memory; region = memory.new.region };
          makes = memory.ensures.made;
          sizes = refl;
          others = refl;
        }),
      ),
      (
        (
          table.ensures.quota,
          inr (inr (inl (
            0,
            record {
              before = record { numbers = c.args.table.now; region = c.args.elements.now };
              status = table.result;
              after = record { numbers = table.new.table; region = table.new.region };
              makes = table.ensures.made;
              sizes = refl;
              others = refl;
            },
          ))),
        ),
        tt,
      ),
    ) in
    record {
      held = λ made.
          let is_made : table.result ≡ 0 = grind (arith, nat_tests) in
          both_made table.new.quota memory.result memory.new.memory.size table.result table.new.table.size
          (All-head HoldsSums both [] (All-tail HoldsSums one (both ∷ []) held)) c.if-of_memory-eq-DONE.true is_made;
    }
