use Rattle.std.proofs.Common.{[], refl, ◌∷◌, ◌≢◌}
use Rattle.wasmi_law_tests.proofs.Common.{All-nil, same_Some, IsIndependent, LeavesAlone, MemoryAt, NumberStore, store_call}
use Rattle.wasmi_law_tests.proofs.RunsLemmas.{turn_with}
use Rattle.wasmi_law_tests.proofs.places.call_in_either_order.Goals as goal

pub returns-clause-independent : goal.returns-clause-independent
returns-clause-independent g c =
    λ local other_local apart.
    let first = c.step_lending-reply.ensures.step in
    let second = c.step_lending-other_reply.ensures.step in
    let turn = turn_with c.args.first.now c.step_lending-reply.result first.0 first.1 in
    let other = turn_with c.args.second.now c.step_lending-other_reply.result second.0 second.1 in (
      other ∷ turn ∷ [],
      refl,
      refl,
      c.independent_calls_commute.ensures _ turn other _ local other_local apart (_, first.2, (_, second.2, refl)),
    )

-- stores to different memories are independent
stores_apart : (it other : NumberStore) → it.memory ≢ other.memory
    → IsIndependent (store_call it) (store_call other)
stores_apart it other differ = record {
  changes = λ location here there.
      let one = same_Some (MemoryAt it.memory) location here in
      let two = same_Some (MemoryAt other.memory) location there in
      differ cc;
  first_leaves = All-nil (λ location. LeavesAlone location (store_call it));
  second_leaves = All-nil (λ location. LeavesAlone location (store_call other));
}

pub returns-clause-stores : goal.returns-clause-stores
returns-clause-stores g c =
    λ it that is is_that differ. rw (is, is_that) at
    (returns-clause-independent g c (rw is tt) (rw is_that tt) (rw (is, is_that) (stores_apart it that differ)))
