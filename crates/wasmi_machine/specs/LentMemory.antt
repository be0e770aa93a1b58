-- Machines with memories in lent regions, beside the same machines with memories of their own; growths, calls and runs
-- that fit these regions.
use Rattle.std.specs.Prelude.{◌≡◌, ◌⊎◌, ◌+◌, ◌*◌, ℕ, true, false, List, map, None, MatchOption}
use Rattle.wasmi_meter.specs.Limiter.{Rules}
use Rattle.wasmi_store.specs.Buffer.{Owned, fits_room}
use Rattle.wasmi_store.specs.Memory.{page_bytes, in_bounds, MemoryValue, pages_of}
use Rattle.wasmi_machine.specs.declared.{calls.Call.Call, slots.Slot.Slot}
use Rattle.wasmi_machine.specs.declared.calls.Call.TheVariants.{NewLentMemory, GrowMemory}
use Rattle.wasmi_machine.specs.declared.slots.Slot.TheVariants.{Live, Gone}
use Rattle.wasmi_machine.specs.State.{State, live_at, World, Turn}
use Rattle.wasmi_machine.specs.Steps.{Step, Sequence}

-- a memory that grows into memory of its own, instead of a lent region
abbrev pub owned_memory : MemoryValue → MemoryValue
owned_memory x = record x { room = Owned }

-- a slot whose memory, if one is live, grows into memory of its own
abbrev pub owned_slot : Slot MemoryValue → Slot MemoryValue
owned_slot (Live x) = Live (owned_memory x)
owned_slot (Gone last) = Gone last

-- a machine whose memories all grow into memory of their own
abbrev pub owned : State → State
owned s = record s { memories = map owned_slot s.memories }

-- a world whose memories all grow into memory of their own
abbrev pub owned_world : {S : Type 0} → World S → World S
owned_world w = record w { state = owned w.state }

-- a world whose memories all grow into memory of their own, without a spare region
abbrev pub unlent_world : {S : Type 0} → World S → World S
unlent_world w = record w { state = record (owned w.state) { spare = None } }

-- a growth of a memory that its room has place for, or that is refused before the limiter is asked
abbrev pub FitsRoom : ℕ → MemoryValue → Type 0
FitsRoom pages x =
    (fits_room x.room (pages * page_bytes x.ty.page) ≡ true) ⊎ (in_bounds x.ty (pages_of x + pages) ≡ false)

-- a call that makes no memory in the spare region, and grows no memory past the region that it lies in
abbrev pub FitsRegions : State → Call → Type 0
FitsRegions s (NewLentMemory ty) = ⊥
FitsRegions s (GrowMemory k pages) = MatchOption (live_at s.memories k) (Unit {0}) (FitsRoom pages)
FitsRegions s call = Unit {0}

-- turns by such calls one after another, from one world to another
abbrev pub RunInRegions : {S : Type 0} → Rules S → World S → List Turn → World S → Type 0
RunInRegions rules = Sequence (λ w turn w'. FitsRegions w.state turn.call × Step rules w turn w')
