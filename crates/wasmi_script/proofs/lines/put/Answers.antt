use Rattle.std.proofs.Common.{◌≡◌, ◌+◌, ◌-◌, ◌<◌, ◌^◌, arith, length, rules, take}
use Rattle.wasmi_script.proofs.PrintingLemmas.{added}
use Rattle.wasmi_script.proofs.lines.put.Goals as goal

pub returns : goal.returns
returns c =
    let copied : c.copy_from_slice.new.self ≡ take c.min-count.result c.args.text.now = search rules in
    let count : c.min-start.result + c.min-count.result - c.min-start.result ≡ c.min-count.result = omega arith in
    let small : length c.args.bytes.now < 2 ^ 64 = search rules in
    rw (count, copied)
    (added c.args.text.now c.args.bytes.now c.args.written c.min-start.result c.min-count.result
    c.saturating_add.result small c.min-start.ensures c.min-count.ensures c.saturating_add.ensures)
