use Rattle.std.proofs.Common.{◌≡◌, ◌<◌, ◌∙◌, sym, arith, get_or, replicate}
use Rattle.wasmi_machine.proofs.Common.{same_lists, get_or-replicate}
use Rattle.wasmi_machine.proofs.machine.Machine.empty.Goals as goal
use Rattle.wasmi_raw.specs.RawVal.{raw_of}

pub returns : goal.returns
returns c =
    let registers = c.default.result.values in
    let all = c.default.ensures in
    let zeros : registers ≡ replicate 16 (raw_of 0) = same_lists _ _ all.long (λ k d h.
    let within : k < 16 = omega (arith, all.long) in
    let zero : get_or registers k d ≡ raw_of 0 =
    λ i. record { lo = (all.at k d within).0 i; hi = (all.at k d within).1 i } in
    zero ∙ sym (get_or-replicate 16 k (raw_of 0) d within)) in
    rw (c.new.ensures, c.new-2.ensures, c.new-3.ensures, c.new-4.ensures, c.new-5.ensures, zeros)
