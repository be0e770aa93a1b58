-- What holds of all turns and runs of a machine, and of its memories in lent regions: the statements of its laws, and
-- what a refused turn keeps.
use Rattle.std.specs.Prelude.{◌≡◌, ◌⊎◌, ◌<◌, ◌≤◌, ◌+◌, ◌*◌, ◌++◌, ℕ, true, Option, Some, Result, Ok, List, length, map, All}
use Rattle.wasmi_meter.specs.declared.{quota.Holdings.Holdings, error.MemoryError.MemoryError, quota.Quota.Quota}
use Rattle.wasmi_meter.specs.Meter.{PaysCharge}
use Rattle.wasmi_meter.specs.Limiter.{Question, Rules, Failure, NoticeAnswer, optional_rules}
use Rattle.wasmi_meter.specs.Attempt.{MeteredValue, optional_due, covers}
use Rattle.wasmi_meter.specs.Capped.{SameCaps, IsWithinCaps, quota_rules}
use Rattle.wasmi_store.specs.Buffer.{Lent, fits_room}
use Rattle.wasmi_store.specs.Growth.{IsDenied}
use Rattle.wasmi_store.specs.Memory.{MemoryTypeValue, page_bytes, minimum_bytes, in_bounds, MemoryValue, pages_of, growth_of, GrowsMemory}
use Rattle.wasmi_machine.specs.declared.{calls.Call.Call, calls.Reply.Reply}
use Rattle.wasmi_machine.specs.declared.calls.Call.TheVariants.{NewMemory, NewLentMemory}
use Rattle.wasmi_machine.specs.State.{State, World, Turn, world, IsValid, IsValidCall, HoldsTotals}
pub use Rattle.wasmi_machine.specs.State.{IsRefusal}
use Rattle.wasmi_machine.specs.Steps.{Step, Sequence, Run, IsRunOf}
use Rattle.wasmi_machine.specs.Account.{opened, account_after, Balances, SetsNoFuel, IsBounded, IsSpent}
use Rattle.wasmi_machine.specs.Exchange.{Notice, Passes, At, place_of, question_of, failed_reply, growth_due, Exchanges}
use Rattle.wasmi_machine.specs.MemoryEffects.{spare_after}
use Rattle.wasmi_machine.specs.Determinism.{IsDeterministic, AcceptsNotices, IsOtherFailure, never_out_of_memory, IsNotOutOfMemory, AreNotOutOfMemory, permitting, TellsNoDenial}
use Rattle.wasmi_machine.specs.LentMemory.{owned_world, unlent_world, RunInRegions}

-- all but the meter and the spare region is the same
abbrev pub SameContents : State → State → Type 0
SameContents s s' = s' ≡ record s { meter = s'.meter; spare = s'.spare }

-- the spare region stays, unless a memory was to be made in it: then it is used up if there was room for a slot
abbrev pub KeepsSpare : Call → Reply → State → State → Type 0
KeepsSpare (NewLentMemory ty) reply s s' = s'.spare ≡ spare_after reply s.spare
KeepsSpare call reply s s' = s'.spare ≡ s.spare

-- a growth fails after its charge: it was permitted and charged, and then memory was refused, of which the limiter was
-- notified; the meter has its price less
pub record FailsAfterCharge {S : Type 0} (rules : Rules S) (w : World S) (turn : Turn) (w' : World S) : Type 0 where
  pub index : ℕ
  pub grows : place_of turn.call ≡ At index
  pub question : Question
  pub asks : question_of w.state turn.call ≡ Some question
  pub failure : Failure
  pub notice_answer : NoticeAnswer
  pub wants : IsOtherFailure failure → ⊥
  pub tells : Passes rules w.limiter (Notice question failure notice_answer) w'.limiter
  pub replies : turn.reply ≡ failed_reply failure notice_answer
  pub meter : PaysCharge w.state.meter (growth_due w.state.meter question) w'.state.meter

-- the meter stays, unless a growth fails after its charge
abbrev pub KeepsMeter : {S : Type 0} → Rules S → World S → Turn → World S → Type 0
KeepsMeter rules w turn w' = (w'.state.meter ≡ w.state.meter) ⊎ FailsAfterCharge rules w turn w'

-- what a refused turn keeps
pub record Keeps {S : Type 0} (rules : Rules S) (w : World S) (turn : Turn) (w' : World S) : Type 0 where
  pub contents : SameContents w.state w'.state
  pub spare : KeepsSpare turn.call turn.reply w.state w'.state
  pub meter : KeepsMeter rules w turn w'

module _ {S : Type 0} (rules : Rules S) where
  -- in each turn that is refused the contents stay; the meter, unless it is a growth that fails after its charge; and
  -- the spare region, unless a memory was to be made in it
  abbrev pub RefusalsKeepContents : Type 0
  RefusalsKeepContents =
      (w : World S) (turn : Turn) (w' : World S) → Step rules w turn w' → IsRefusal turn.reply → Keeps rules w turn w'

  -- in a run each turn that is refused keeps what a refused turn keeps (`Keeps`)
  abbrev pub RefusalsInRunsKeepContents : Type 0
  RefusalsInRunsKeepContents = (w : World S) (turns : List Turn) (w' : World S) → Run rules w turns w'
      → Sequence (λ v turn v'. Step rules v turn v' × (IsRefusal turn.reply → Keeps rules v turn v')) w turns w'

  -- a run in which each turn is refused keeps the contents
  abbrev pub RefusedRunsKeepContents : Type 0
  RefusedRunsKeepContents =
      (w : World S) (turns : List Turn) (w' : World S) → Run rules w turns w' → All IsRefusal (map Turn.reply turns)
      → SameContents w.state w'.state

  -- in each turn the limiter is asked what the call asks, or nothing if it asks nothing; a permission is followed by
  -- exactly the growth that was asked for, or by just one notice, and a denial by neither; a growth is charged only
  -- after a permission, and then its price; what is charged is taken from the meter
  abbrev pub GrowsAsPermitted : Type 0
  GrowsAsPermitted = (w : World S) (turn : Turn) (w' : World S) → Step rules w turn w' → Exchanges rules w turn w'

  -- in a run each turn asks, grows and is charged as a step does (`Exchanges`)
  abbrev pub RunsGrowAsPermitted : Type 0
  RunsGrowAsPermitted = (w : World S) (turns : List Turn) (w' : World S) → Run rules w turns w'
      → Sequence (λ v turn v'. Step rules v turn v' × Exchanges rules v turn v') w turns w'

  -- a run in which no reply reports a denial is one in which each question was permitted
  abbrev pub RepliesPermit : Type 0
  RepliesPermit = (w : World S) (turns : List Turn) (w' : World S) → All TellsNoDenial (map Turn.reply turns)
      → Run rules w turns w' → Run (permitting rules) w turns w'

  -- a run of calls whose types are valid leads from a valid state to a valid one
  abbrev pub RunsKeepValidity : Type 0
  RunsKeepValidity =
      (w : World S) (turns : List Turn) (w' : World S) → IsValid w.state → All IsValidCall (map Turn.call turns)
      → Run rules w turns w' → IsValid w'.state

  -- while metering is on, what is left and the charges since the fuel was set last, or since the start, are what was
  -- set then, or left at the start
  abbrev pub FuelBalances : Type 0
  FuelBalances = (w : World S) (left : ℕ) → w.state.meter.left ≡ Some left → (turns : List Turn) (w' : World S)
      → Run rules w turns w' → Balances (account_after (opened left) turns) w'.state.meter

  -- while metering is on at a rate above 0, the bytes that a run writes by growing and copying are bounded by the fuel
  -- that is charged for them, and so by all the fuel that there was
  abbrev pub FuelBoundsWriting : Type 0
  FuelBoundsWriting = (w : World S) (left : ℕ) → w.state.meter.left ≡ Some left
      → 0 < w.state.meter.costs.bytes_copied_per_fuel → (turns : List Turn) (w' : World S) → Run rules w turns w'
      → IsBounded w.state.meter.costs.bytes_copied_per_fuel left turns

  -- while metering is on, what calls that don't set the fuel were charged is what was left before and isn't left after,
  -- and it bounds what they have written
  abbrev pub ChargesAreSpent : Type 0
  ChargesAreSpent = (w : World S) (left : ℕ) → w.state.meter.left ≡ Some left → (turns : List Turn) (w' : World S)
      → Run rules w turns w' → All SetsNoFuel (map Turn.call turns) → (left' : ℕ) × (w'.state.meter.left ≡ Some left')
      × IsSpent w.state.meter.costs.bytes_copied_per_fuel left left' turns

  -- turns of a run, and those of a run from where it ends, are one run
  abbrev pub RunsJoin : Type 0
  RunsJoin = (u : World S) (turns : List Turn) (v : World S) (turns' : List Turn) (w : World S) → Run rules u turns v
      → Run rules v turns' w → Run rules u (turns ++ turns') w

  -- a run of calls, and a run of calls from where it ends, are a run of all these calls, with the replies in turn
  abbrev pub RunsOfCallsJoin : Type 0
  RunsOfCallsJoin =
      (calls calls' : List Call) (u v w : World S) (replies replies' : List Reply) → IsRunOf rules calls u replies v
      → IsRunOf rules calls' v replies' w → IsRunOf rules (calls ++ calls') u (replies ++ replies') w

  -- a run that makes no memory in a region and grows none past its own is one of the machine with owned memories
  abbrev pub LentRunsAreOwned : Type 0
  LentRunsAreOwned = (w : World S) (turns : List Turn) (w' : World S) → RunInRegions rules w turns w'
      → Run rules (owned_world w) turns (owned_world w')

  -- a creation in a spare region of at least the minimum is a creation of a memory of its own
  abbrev pub LentCreationsAreOwned : Type 0
  LentCreationsAreOwned = (w : World S) (turn : Turn) (w' : World S) (ty : MemoryTypeValue) (region : List ℕ)
      → turn.call ≡ NewLentMemory ty → w.state.spare ≡ Some region → minimum_bytes ty ≤ length region
      → Step rules w turn w' → Step rules (unlent_world w) (record turn { call = NewMemory ty }) (unlent_world w')

  -- a growth of a lent memory that its type and region have place for, and that can be paid, the limiter alone refuses
  abbrev pub LentGrowthsSucceed : Type 0
  LentGrowthsSucceed = (pages : ℕ) (s : MeteredValue MemoryValue S) (rest : List ℕ) → s.value.room ≡ Lent rest
      → in_bounds s.value.ty (pages_of s.value + pages) ≡ true
      → fits_room s.value.room (pages * page_bytes s.value.ty.page) ≡ true
      → covers s.meter (optional_due s.meter (growth_of s.value pages).price) ≡ true
      → (result : Result ℕ MemoryError) (s' : MeteredValue MemoryValue S) → GrowsMemory rules pages s result s'
      → (result ≡ Ok (pages_of s.value)) ⊎ IsDenied rules (growth_of s.value pages).question s.limiter s'.limiter

-- if the limiter is deterministic, two runs of one list of calls from one world, in which neither a reply nor a notice
-- says out of memory, are one
abbrev pub RunsAreOne : {L : Type 0} → Rules L → Type 0
RunsAreOne {L} rules =
    IsDeterministic rules → (w : World (Option L)) (turns turns' : List Turn) (v v' : World (Option L))
    → map Turn.call turns ≡ map Turn.call turns'
    → AreNotOutOfMemory turns → AreNotOutOfMemory turns' → Run (never_out_of_memory (optional_rules rules)) w turns v
    → Run (never_out_of_memory (optional_rules rules)) w turns' v' → (turns ≡ turns') × (v ≡ v')

-- if the limiter accepts each notice, a run in which no reply says out of memory is one in which no notice does
abbrev pub RepliesTell : {L : Type 0} → Rules L → Type 0
RepliesTell {L} rules =
    AcceptsNotices rules → (w : World (Option L)) (turns : List Turn) (w' : World (Option L)) → AreNotOutOfMemory turns
    → Run (optional_rules rules) w turns w' → Run (never_out_of_memory (optional_rules rules)) w turns w'

-- if the limiter is deterministic and accepts each notice, two runs of one list of calls from one world, in which no
-- reply says out of memory, have the same replies and end in one world
abbrev pub RepliesAreOne : {L : Type 0} → Rules L → Type 0
RepliesAreOne {L} rules = IsDeterministic rules → AcceptsNotices rules
    → (calls : List Call) (w : World (Option L)) (replies replies' : List Reply) (v v' : World (Option L))
    → All IsNotOutOfMemory replies → All IsNotOutOfMemory replies'
    → IsRunOf (optional_rules rules) calls w replies v → IsRunOf (optional_rules rules) calls w replies' v'
    → (replies ≡ replies') × (v ≡ v')

-- a limiter that holds the totals before a run is there after it, and holds the totals then
abbrev pub HoldsTotalsAlways : {L : Type 0} → Rules L → (L → Holdings) → Type 0
HoldsTotalsAlways {L} rules holdings = (s : State) (l : L) → HoldsTotals (holdings l) s
    → (turns : List Turn) (w' : World (Option L)) → Run (optional_rules rules) (world s (Some l)) turns w'
    → (l' : L) × (w'.limiter ≡ Some l') × HoldsTotals (holdings l') w'.state

-- a quota that holds at most its caps before a run does so after it, and has the same caps
abbrev pub QuotasStayWithin : Type 0
QuotasStayWithin = (s : State) (quota : Quota) → IsWithinCaps quota → (turns : List Turn) (w' : World (Option Quota))
    → Run (optional_rules quota_rules) (world s (Some quota)) turns w'
    → (quota' : Quota) × (w'.limiter ≡ Some quota') × IsWithinCaps quota' × SameCaps quota quota'
