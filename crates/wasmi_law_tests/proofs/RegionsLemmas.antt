-- Memories that grow, also in lent regions: the size that was answered, and the growth or the denial in each turn.
use Rattle.std.proofs.Common.{◌≡◌, ◌∙◌, ℕ, ◌+◌, ◌*◌, Some, Result, length, replicate, IfOk, ap, inl, inr, arith, length-append, ◌⊎◌, Ok, Err, List, ⊎_elim}
use Rattle.wasmi_law_tests.proofs.Common.{length-replicate, Rules, MemoryValue, GrowsMemoryCharging, pages_of, growth_of, page_bytes, Number, Memory, IsRefusal, LentGrowthsSucceed, Run, Sequence, MemoryGrown, HasEffect, Step, live_at, World, Turn, outcome_of, CanGrowInRegion, IsGrownOrDenied, GrowsInRegion}
use Rattle.wasmi_meter.specs.declared.error.MemoryError.{MemoryError}
use Rattle.wasmi_meter.specs.Attempt.{MeteredValue, AttemptOutcome, Met, answer_of, value_after}
use Rattle.wasmi_store.specs.Growth.{IsDenied}
use Rattle.wasmi_machine.specs.Effects.{reply_of}
use Rattle.wasmi_machine.proofs.StoreLemmas.{each_turn}

module _ {S : Type 0} (pages : ℕ) (s s' : MeteredValue MemoryValue S) (result : Result ℕ MemoryError) where
  -- a memory that a growth was answered for has so many bytes more
  abbrev HasMore : Type 0
  HasMore = IfOk result (λ _. length s'.value.bytes ≡ length s.value.bytes + pages * page_bytes s.value.ty.page)

  -- a memory has so many bytes more where an attempt to let it grow is answered by a number
  attempt_sized : (outcome : AttemptOutcome MemoryError)
      → s'.value ≡ value_after (growth_of s.value pages) s.value outcome
      → result ≡ answer_of (growth_of s.value pages) (pages_of s.value) outcome → HasMore
  attempt_sized Met value answered =
      let more = pages * page_bytes s.value.ty.page in
      rw answered (
      ap (λ (x : MemoryValue). length x.bytes) value ∙ length-append s.value.bytes (replicate more 0)
      ∙ ap (λ n. length s.value.bytes + n) (length-replicate {A = ℕ} more 0))
  attempt_sized outcome value answered = rw answered tt

  -- a memory that grows has so many bytes more
  pub grown_sized : (rules : Rules S) (charge : ℕ) → GrowsMemoryCharging rules pages s result charge s' → HasMore
  grown_sized rules charge (inl none) =
      let same = ap (λ (t : MeteredValue MemoryValue S). length t.value.bytes) none.same in
      rw (none.answered, none.none, same) (omega arith)
  grown_sized rules charge (inr some) = attempt_sized some.outcome some.attempt.value some.answered

module _ {S : Type 0} (rules : Rules S) (pages : ℕ) (s s' : MeteredValue MemoryValue S) (charge : ℕ) where
  -- a number that an attempt answers is the size that there was
  answered_size : (outcome : AttemptOutcome MemoryError) (n : ℕ)
      → Ok n ≡ answer_of (growth_of s.value pages) (pages_of s.value) outcome → n ≡ pages_of s.value
  answered_size Met n is = cc
  answered_size outcome n is = cc

  -- a number that a growth answers is the size that there was
  grown_size : (n : ℕ) → GrowsMemoryCharging rules pages s (Ok n) charge s' → n ≡ pages_of s.value
  grown_size n (inl none) = let is = none.answered in cc
  grown_size n (inr some) = answered_size some.outcome n some.answered

  -- a memory in a region that has place has grown, or the limiter has denied it
  told : LentGrowthsSucceed rules → CanGrowInRegion s.meter pages s.value → (result : Result ℕ MemoryError)
      → GrowsMemoryCharging rules pages s result charge s'
      → ((reply_of Number Memory result ≡ Number (pages_of s.value))
      × (length s'.value.bytes ≡ length s.value.bytes + pages * page_bytes s.value.ty.page))
      ⊎ (IsRefusal (reply_of Number Memory result)
      × IsDenied rules (growth_of s.value pages).question s.limiter s'.limiter)
  told succeed can (Ok n) grows = inl (ap Number (grown_size n grows), grown_sized pages s s' (Ok n) rules charge grows)
  told succeed can (Err error) grows =
      ⊎_elim (λ (is : Err error ≡ Ok (pages_of s.value)). absurd cc) (λ denied. inr (tt, denied))
      (succeed pages s can.lent.0 can.lent.1 can.inside can.place can.paid (Err error) s' (charge, grows))

module _ {S : Type 0} (rules : Rules S) (succeed : LentGrowthsSucceed rules) where
  module _ (w : World S) (k pages : ℕ) (x : MemoryValue) (found : live_at w.state.memories k ≡ Some x)
      (can : CanGrowInRegion (Some w.state.meter) pages x) where
    -- the memory of an index has grown, or the limiter has denied it, in a turn that grows it
    grown : (turn : Turn) (w' : World S) → HasEffect rules (MemoryGrown k pages) w (outcome_of turn) w'
        → IsGrownOrDenied rules k pages x w turn.reply w'
    grown turn w' grows =
        let live = rw found at grows.effect in
        rw (grows.after, live.3) (
        ⊎_elim (λ longer. inl (longer.0, (live.1, live.4, longer.1))) (λ denied. inr denied)
        (told rules pages _ _ turn.charge succeed can live.0 live.2))

  -- a memory has grown, or the limiter has denied it, in each turn of a run by a call that grows it
  pub grows_in_regions : (w : World S) (turns : List Turn) (w' : World S) → Run rules w turns w'
      → Sequence (λ v turn v'. Step rules v turn v' × GrowsInRegion rules v turn v') w turns w'
  grows_in_regions = each_turn rules (GrowsInRegion rules)
      (λ w turn w' step k pages x is found can. grown w k pages x found can turn w' (rw is at step))
