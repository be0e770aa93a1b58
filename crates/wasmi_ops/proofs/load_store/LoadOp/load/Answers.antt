use Rattle.std.proofs.Common.{◌≡◌, ◌-◌, ◌∙◌, length, take, drop, ap, sym, arith, length-drop, take_all}
use Rattle.wasmi_ops.specs.LoadStoreOps.{loaded_raw}
use Rattle.wasmi_ops.proofs.LoadStoreOpsLemmas.{raw_front, raw_past}
use Rattle.wasmi_ops.proofs.load_store.LoadOp.load.Goals as goal

pub returns-then-address-memory : goal.returns-then-address-memory
returns-then-address-memory c =
    sym (raw_past c.args.self c.args.memory.now _ (omega (arith, c.in_ok-address.ensures, c.if-address-memory.true)))

pub returns : goal.returns
returns c =
    let op = c.args.self in
    let memory = c.args.memory.now in
    let address = c.in_ok-address.address in
    let rest = drop address memory in
    let whole : take (length memory - address) rest ≡ rest =
    take_all (length memory - address) rest (omega (arith, length-drop address memory)) in
    c.load_front.ensures ∙ ap (λ bytes. loaded_raw op bytes 0) whole
    ∙ raw_front op memory address c.if-address-memory.false (omega arith)
    ∙ ap (loaded_raw op memory) c.in_ok-address.ensures
