use Rattle.std.proofs.Common.{◌≡◌, ◌∙◌, ℕ, List, refl, arith, ap, sym, drop, length, Ok, Err}
use Rattle.wasmi_c.proofs.Common.{length-take, length-replicate, Lent, MemoryValue, creation_of, minimum_bytes, new_memory, IsState}
use Rattle.wasmi_c.specs.Numbers.{placed}
use Rattle.wasmi_c.proofs.PlacementLemmas.{made_is, makes_memory}
use Rattle.wasmi_c.proofs.memory.make.Goals as goal

-- regions that are the same room are the same
same_list : (a b : List ℕ) → Lent a ≡ Lent b → a ≡ b
same_list a b is = cc

pub returns-in-Ok-clause-made : goal.returns-in-Ok-clause-made
returns-in-Ok-clause-made c =
    let ty = c.in-Some.ty in
    let room = Lent c.args.region.now in
    let made = c.in-Ok.ensures.made in
    let sized = c.in-Ok.ensures.sized in
    let is = made_is (creation_of room ty) (new_memory room ty) _ made.0 made.2 in
    let long = simp (length-take, length-replicate) at (ap (λ (x : MemoryValue). length x.bytes) is) in
    let size : c.in-Ok.size ≡ minimum_bytes ty = omega (arith, long, sized.1) in
    let rest : drop c.in-Ok.size c.make_under.new.region ≡ drop c.in-Ok.size c.args.region.now =
    same_list _ _ (ap (λ (x : MemoryValue). x.room) is) ∙ ap (λ n. drop n c.args.region.now) (sym size) in
    let h' = record c.args.memory.now { size = c.in-Ok.size } in
    let named = c.in-Some.ensures in
    let state : IsState h' c.make_under.new.region ty =
    record { type = named.0; valid = named.1; sized = sized.0; within = sized.1 } in
    makes_memory (placed c.args.memory.now c.args.region.now) (placed h' c.make_under.new.region) ty _ _ named
    (Ok c.in-Ok.size) made refl (refl, state, rest)

pub returns-in-Err-clause-made : goal.returns-in-Err-clause-made
returns-in-Err-clause-made c =
    let h = c.args.memory.now in
    makes_memory (placed h c.args.region.now) (placed h c.make_under.new.region) c.in-Some.ty _ _ c.in-Some.ensures
    (Err c.in-Err.error) c.in-Err.ensures.made c.memory_status.ensures (rw c.in-Err.ensures.refused refl)
