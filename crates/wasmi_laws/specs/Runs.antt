-- Laws over turns and runs: runs that are cut in two, sizes and totals that never shrink, plain refusals that change
-- nothing, the caps of a quota, what a run keeps of its meter, and the same run with more fuel.
use Rattle.std.specs.Prelude.{◌≡◌, ◌≤◌, ◌++◌, ℕ, List, length, take, drop, map, Option, Some, slice_get, All, ◌+◌, is_some, option_map}
use Rattle.wasmi_meter.specs.declared.{limiter.Kind.Kind, quota.Quota.Quota, error.MemoryError.MemoryError, error.TableError.TableError}
use Rattle.wasmi_meter.specs.Limiter.{Rules, optional_rules}
use Rattle.wasmi_meter.specs.Capped.{IsWithinCaps, cap_of, holdings, quota_rules}
use Rattle.wasmi_machine.specs.declared.{calls.Call.Call, calls.Reply.Reply}
use Rattle.wasmi_machine.specs.State.{State, World, Turn, world, IsRefusal, sizes, total, HoldsTotals}
use Rattle.wasmi_machine.specs.Steps.{Step, Sequence, Run, IsRunOf}
use Rattle.wasmi_machine.specs.Exchange.{Nowhere, place_of}
use Rattle.wasmi_meter.specs.Meter.{Meter, amount_left}
use Rattle.wasmi_machine.specs.declared.calls.Call.TheVariants.{SetFuel, GetFuel}
use Rattle.wasmi_machine.specs.declared.calls.Reply.TheVariants.{Memory, Table}
use Rattle.wasmi_machine.specs.Account.{SetsNoFuel}
use Rattle.wasmi_machine.specs.Determinism.{AcceptsNotices}
use Rattle.wasmi_meter.specs.declared.error.MemoryError.TheVariants as memory
use Rattle.wasmi_meter.specs.declared.error.TableError.TheVariants as table
use Rattle.wasmi_machine.specs.declared.calls.Reply.TheVariants as reply

-- the replies are those of two runs in a row: of the first calls, and of the others from where these end
pub record IsRunInTwo {S : Type 0} (rules : Rules S) (first rest : List Call) (u : World S) (replies : List Reply)
    (w : World S) : Type 0 where
  pub between : World S
  pub first_run : IsRunOf rules first u (take (length first) replies) between
  pub rest_run : IsRunOf rules rest between (drop (length first) replies) w

-- What tools/generate writes begins.
-- the error of a memory is found before the limiter is asked and before anything is charged
abbrev pub IsPlainMemoryError : MemoryError → Type 0
IsPlainMemoryError memory.OutOfSystemMemory = ⊥
IsPlainMemoryError memory.OutOfBoundsGrowth = ⊥
IsPlainMemoryError memory.OutOfBoundsAccess = Unit {0}
IsPlainMemoryError memory.InvalidMemoryType = ⊥
IsPlainMemoryError memory.InvalidStaticBufferSize = ⊥
IsPlainMemoryError memory.ResourceLimiterDeniedAllocation = ⊥
IsPlainMemoryError memory.MinimumSizeOverflow = ⊥
IsPlainMemoryError memory.MaximumSizeOverflow = ⊥
IsPlainMemoryError (memory.OutOfFuel required) = ⊥

-- the error of a table is found before the limiter is asked and before anything is charged
abbrev pub IsPlainTableError : TableError → Type 0
IsPlainTableError table.OutOfSystemMemory = ⊥
IsPlainTableError table.MinimumSizeOverflow = ⊥
IsPlainTableError table.MaximumSizeOverflow = ⊥
IsPlainTableError table.ResourceLimiterDeniedAllocation = ⊥
IsPlainTableError table.GrowOutOfBounds = ⊥
IsPlainTableError table.InitOutOfBounds = Unit {0}
IsPlainTableError table.FillOutOfBounds = Unit {0}
IsPlainTableError table.SetOutOfBounds = Unit {0}
IsPlainTableError table.CopyOutOfBounds = Unit {0}
IsPlainTableError table.ElementTypeMismatch = Unit {0}
IsPlainTableError (table.OutOfFuel required) = ⊥

-- What tools/generate writes ends.

-- The reply is a refusal that is found before the limiter is asked and before anything is charged: a trap, an index
-- that names nothing, an access past the end, another type, metering that is off, or no place for a new slot. Each reply
-- has a line.
abbrev pub IsPlainRefusal : Reply → Type 0
IsPlainRefusal reply.Done = ⊥
IsPlainRefusal (reply.Made index) = ⊥
IsPlainRefusal (reply.Value value) = ⊥
IsPlainRefusal (reply.Number number) = ⊥
IsPlainRefusal (reply.Bytes bytes) = ⊥
IsPlainRefusal (reply.Reference value) = ⊥
IsPlainRefusal (reply.Memory error) = IsPlainMemoryError error
IsPlainRefusal (reply.Table error) = IsPlainTableError error
IsPlainRefusal (reply.Fuel error) = Unit {0}
IsPlainRefusal (reply.Global error) = Unit {0}
IsPlainRefusal (reply.Segment error) = Unit {0}
IsPlainRefusal (reply.Trap code) = Unit {0}
IsPlainRefusal reply.NoSuch = Unit {0}
IsPlainRefusal reply.NoRegion = Unit {0}
IsPlainRefusal reply.NoRoom = Unit {0}

module _ {S : Type 0} (rules : Rules S) where
  -- a run of turns is, at each place, a run of those before it, and a run of the others from where these end
  abbrev pub RunsAreCut : Type 0
  RunsAreCut = (u : World S) (turns turns' : List Turn) (w : World S) → Run rules u (turns ++ turns') w
      → (v : World S) × Run rules u turns v × Run rules v turns' w

  -- a run of calls is, at each place, two runs in a row
  abbrev pub RunsOfCallsAreCut : Type 0
  RunsOfCallsAreCut = (calls calls' : List Call) (u : World S) (replies : List Reply) (w : World S)
      → IsRunOf rules (calls ++ calls') u replies w → IsRunInTwo rules calls calls' u replies w

  -- every size, of a memory in bytes or of a table in elements, stays at its index in a run and doesn't shrink
  abbrev pub SizesNeverShrink : Type 0
  SizesNeverShrink = (w : World S) (turns : List Turn) (w' : World S) → Run rules w turns w' → (kind : Kind) (k n : ℕ)
      → slice_get (sizes w.state kind) k ≡ Some n → (n' : ℕ) × (slice_get (sizes w'.state kind) k ≡ Some n') × (n ≤ n')

  -- the totals of a machine don't shrink in a run
  abbrev pub TotalsNeverShrink : Type 0
  TotalsNeverShrink = (w : World S) (turns : List Turn) (w' : World S) → Run rules w turns w'
      → (kind : Kind) → total w.state kind ≤ total w'.state kind

  -- a turn with a plain refusal leaves the machine, its meter and the limiter as they were
  abbrev pub PlainRefusalsChangeNothing : Type 0
  PlainRefusalsChangeNothing =
      (w : World S) (turn : Turn) (w' : World S) → Step rules w turn w' → IsPlainRefusal turn.reply → w' ≡ w

  -- a refused turn of a call that makes nothing and grows nothing leaves the machine, its meter and the limiter
  abbrev pub OtherRefusalsChangeNothing : Type 0
  OtherRefusalsChangeNothing =
      (w : World S) (turn : Turn) (w' : World S) → Step rules w turn w' → place_of turn.call ≡ Nowhere
      → IsRefusal turn.reply → w' ≡ w

  -- a run in which each reply is a plain refusal leaves the machine, its meter and the limiter as they were
  abbrev pub PlainlyRefusedRunsChangeNothing : Type 0
  PlainlyRefusedRunsChangeNothing = (w : World S) (turns : List Turn) (w' : World S) → Run rules w turns w'
      → All IsPlainRefusal (map Turn.reply turns) → w' ≡ w

-- a machine has no more of each kind than the caps of a quota
abbrev pub IsWithinCapsOf : Quota → State → Type 0
IsWithinCapsOf quota s = (kind : Kind) → total s kind ≤ cap_of quota kind

-- under a quota that holds what a machine has, within its caps, the machine is within them after each turn of a run
abbrev pub CapsHoldInRuns : Type 0
CapsHoldInRuns = (s : State) (quota : Quota) → HoldsTotals (holdings quota) s → IsWithinCaps quota
    → (turns : List Turn) (w' : World (Option Quota)) → Run (optional_rules quota_rules) (world s (Some quota)) turns w'
    → Sequence (λ v turn v'. Step (optional_rules quota_rules) v turn v' × IsWithinCapsOf quota v'.state)
    (world s (Some quota)) turns w'

-- the meter with so much more fuel left; one that is off stays
abbrev pub meter_with_more : ℕ → Meter → Meter
meter_with_more more m = record m { left = option_map (λ left. left + more) m.left }

-- the world whose meter has so much more fuel left
abbrev pub world_with_more : {S : Type 0} → ℕ → World S → World S
world_with_more more w = record w { state = record w.state { meter = meter_with_more more w.state.meter } }

-- the call neither sets the fuel nor asks for it
abbrev pub NamesNoFuel : Call → Type 0
NamesNoFuel (SetFuel fuel) = ⊥
NamesNoFuel GetFuel = ⊥
NamesNoFuel call = Unit {0}

-- the reply doesn't say that fuel ran out
abbrev pub HasFuel : Reply → Type 0
HasFuel (Memory (memory.OutOfFuel required)) = ⊥
HasFuel (Table (table.OutOfFuel required)) = ⊥
HasFuel reply = Unit {0}

module _ {S : Type 0} (rules : Rules S) where
  -- a run keeps the costs of the meter
  abbrev pub CostsAreKept : Type 0
  CostsAreKept = (w : World S) (turns : List Turn) (w' : World S) → Run rules w turns w'
      → w'.state.meter.costs ≡ w.state.meter.costs

  -- a meter that is on is on after a run, and one that is off is off
  abbrev pub SwitchIsKept : Type 0
  SwitchIsKept = (w : World S) (turns : List Turn) (w' : World S) → Run rules w turns w'
      → is_some w'.state.meter.left ≡ is_some w.state.meter.left

  -- a run of calls that don't set the fuel leaves no more than there was
  abbrev pub FuelNeverRises : Type 0
  FuelNeverRises = (w : World S) (turns : List Turn) (w' : World S) → Run rules w turns w'
      → All SetsNoFuel (map Turn.call turns) → amount_left w'.state.meter ≤ amount_left w.state.meter

-- if the limiter accepts each notice, a run of calls that neither set the fuel nor ask for it, in which no reply says
-- that fuel ran out, is the same run with any more fuel, all of which is left then
abbrev pub MoreFuelChangesNothing : {L : Type 0} → Rules L → Type 0
MoreFuelChangesNothing {L} rules =
    AcceptsNotices rules → (more : ℕ) (w : World (Option L)) (turns : List Turn) (w' : World (Option L))
    → All NamesNoFuel (map Turn.call turns) → All HasFuel (map Turn.reply turns) → Run (optional_rules rules) w turns w'
    → Run (optional_rules rules) (world_with_more more w) turns (world_with_more more w')
