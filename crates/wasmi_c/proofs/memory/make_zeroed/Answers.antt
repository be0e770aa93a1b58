use Rattle.std.proofs.Common.{refl, arith, Ok, Err}
use Rattle.wasmi_c.proofs.Common.{IsState}
use Rattle.wasmi_region.specs.Memory.{zeroed}
use Rattle.wasmi_region.proofs.MemoryLemmas.{zeroed_length, zeroed_rest}
use Rattle.wasmi_c.specs.MemoryCalls.{made_over}
use Rattle.wasmi_c.specs.Numbers.{placed}
use Rattle.wasmi_c.proofs.PlacementLemmas.{makes_memory}
use Rattle.wasmi_c.proofs.SharedQuotaLemmas.{refused_status}
use Rattle.wasmi_c.proofs.memory.make_zeroed.Goals as goal

pub returns-in-Ok-clause-made : goal.returns-in-Ok-clause-made
returns-in-Ok-clause-made c =
    let region = c.args.region.now in
    let size = c.in-Ok.size in
    let named = c.in-Some.ensures in
    let sized = c.in-Ok.ensures.sized in
    let long = zeroed_length region 0 size (omega arith) sized.1 in
    let h' = record c.args.memory.now { size = size } in
    let state : IsState h' (zeroed region 0 size) c.in-Some.ty =
    record { type = named.0; valid = named.1; sized = sized.0; within = rw long sized.1 } in
    makes_memory (placed c.args.memory.now region) (placed h' (zeroed region 0 size)) c.in-Some.ty _ _ named (Ok size)
    c.in-Ok.ensures.made refl (refl, state, zeroed_rest region 0 size (omega arith) sized.1)

pub returns-in-Err-clause-made : goal.returns-in-Err-clause-made
returns-in-Err-clause-made c =
    let h = c.args.memory.now in
    let region = c.args.region.now in
    makes_memory (placed h region) (placed h (made_over region h.size c.memory_status.result)) c.in-Some.ty _ _
    c.in-Some.ensures (Err c.in-Err.error) c.in-Err.ensures.made c.memory_status.ensures
    (rw (c.memory_status.ensures, refused_status c.in-Err.error) refl)
