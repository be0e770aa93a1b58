-- What a call does to a machine with its limiter, what lines of calls do, what a machine has and reserves in all, the
-- loads, stores and instructions on two vectors that have a number, and what holds of all calls and runs, also of
-- quotas.
use Rattle.std.specs.Prelude.{◌≡◌, ◌⊎◌, ◌≤◌, ◌<◌, ◌-◌, ℕ, List, length, map, Option, Some, None, MatchOption, Vec, ◌≢◌, ◌^◌, nat_lt, if◌then◌else◌, ◌++◌, ◌∷◌, [], option_and_then, option_map}
use Rattle.std.specs.Global.{Global}
use Rattle.wasmi_types.specs.Access.{at}
use Rattle.wasmi_raw.specs.RawVal.{raw_of_vector, raw_of}
use Rattle.wasmi_meter.specs.AnyLimiter.{any_limiter_rules, caps_of}
use Rattle.wasmi_meter.specs.Limiter.{optional_rules}
use Rattle.wasmi_meter.specs.Meter.{meter_after}
use Rattle.wasmi_meter.specs.declared.any_limiter.AnyLimiter.{AnyLimiter}
use Rattle.wasmi_meter.specs.declared.error.MemoryError.TheVariants.{OutOfBoundsAccess}
use Rattle.wasmi_meter.specs.declared.fuel.FuelError.TheVariants.{FuelMeteringDisabled, OutOfFuel}
use Rattle.wasmi_meter.specs.declared.limiter.Kind.TheVariants.{Bytes, Elements}
use Rattle.wasmi_machine.specs.State.{State, live_at, total, with_reserved, World, world, Turn}
use Rattle.wasmi_machine.specs.Steps.{RepliesWith, SomeCopy, IsRunOf, Run}
use Rattle.wasmi_machine.specs.declared.{calls.Call.Call, calls.Reply.Reply, slots.SlotCounts.SlotCounts}
use Rattle.wasmi_machine.specs.declared.calls.Call.TheVariants.{NewSegment}
use Rattle.wasmi_budget.specs.Pool.{ReservesElements}
use Rattle.wasmi_c.specs.Machine.CallStructs.{call_of}
use Rattle.wasmi_c.specs.MemoryCalls.{memory_fuel_needed}
use Rattle.wasmi_c.specs.Machine.Caps.{MachineValue, StaysWithinCaps, Keeps}
use Rattle.wasmi_c.specs.Machine.Replies.{only, with_number, memory_refusal, fuel_refusal, reply_struct, status_of}
use Rattle.wasmi_c.specs.declared.status.TheConstants.{DONE, NO_CALL, NO_ROOM, NO_SUCH, BAD_LINE, HEADER_LINE, TEXT_CUT, LENGTHS_DIFFER}
use Rattle.wasmi_c.specs.Types.{reference_type_of}
use Rattle.wasmi_c.specs.declared.{machine.call_struct.CallStruct.CallStruct, machine.limits.Room.Room, machine.limits.Totals.Totals, machine.reply_struct.ReplyStruct.ReplyStruct, instruction.binary.Binary.Binary, instruction.load.Load.Load, instruction.store.Store.Store}
use Rattle.wasmi_ops.specs.declared.{load_store.LoadOp.LoadOp, load_store.StoreOp.StoreOp, vector.BinaryOp.BinaryOp}
use Rattle.wasmi_c.specs.Instruction.{load_numbered, store_numbered, binary_numbered}
use Rattle.wasmi_grammar.specs.declared.{header.Header.Header, script.Script.Script}
use Rattle.wasmi_grammar.specs.Lines.{WritesScript, calls_of, IsFirstBadLine}
use Rattle.wasmi_script.specs.Printing.{FillsFront}
use Rattle.wasmi_script.specs.Outcomes.{replies_text}
use Rattle.wasmi_machine.specs.declared.calls.Call.TheVariants as calls
use Rattle.wasmi_machine.specs.declared.calls.Reply.TheVariants as replies
use Rattle.wasmi_c.specs.declared.instruction.binary.Binary.TheVariants as two
use Rattle.wasmi_c.specs.declared.instruction.load.Load.TheVariants as load
use Rattle.wasmi_c.specs.declared.instruction.store.Store.TheVariants as store

-- a machine with its limiter, which calls and runs change, as the laws of machines see it
abbrev pub world_of : MachineValue → World (Option AnyLimiter)
world_of machine = world machine.state (Some machine.limiter)

-- a machine replies to a call: a step under its limiter
abbrev pub MachineReplies : Call → MachineValue → Reply → MachineValue → Type 0
MachineReplies call machine reply machine' =
    RepliesWith (optional_rules any_limiter_rules) call (world_of machine) reply (world_of machine')

-- a machine replies to a call with a struct
abbrev pub RepliesInStruct : Call → MachineValue → ReplyStruct → MachineValue → Type 0
RepliesInStruct call machine reply machine' =
    (full : Reply) × MachineReplies call machine full machine' × (reply ≡ reply_struct full)

-- a machine replies to the call that numbers stand for; where they stand for none, it is the same
abbrev pub RepliesToStruct : CallStruct → MachineValue → ReplyStruct → MachineValue → Type 0
RepliesToStruct numbers machine reply machine' = MatchOption (call_of numbers)
    ((reply ≡ only NO_CALL) × (machine' ≡ machine))
    (λ call. RepliesInStruct call machine reply machine')

-- calls by numbers are replied to one after the other, each by such a step
abbrev pub InTurn : {V : Type 0} → (CallStruct → V → ReplyStruct → V → Type 0)
    → List CallStruct → V → List ReplyStruct → V → Type 0
InTurn Replies [] v [] w = w ≡ v
InTurn {V = V} Replies (numbers ∷ calls) v (reply ∷ replies) w =
    (next : V) × Replies numbers v reply next × InTurn Replies calls next replies w
InTurn Replies calls v replies w = ⊥

-- as many replies as calls stand in the place of others; where there are not as many places, nothing has changed
unfoldable pub RepliesInTurn : {V : Type 0} → (CallStruct → V → ReplyStruct → V → Type 0)
    → List CallStruct → List ReplyStruct → V → ℕ × List ReplyStruct → V → Type 0
RepliesInTurn Replies calls old v left w =
    ((length calls ≢ length old) × (left ≡ (LENGTHS_DIFFER, old)) × (w ≡ v))
    ⊎ ((length calls ≡ length old) × (left.0 ≡ DONE) × InTurn Replies calls v left.1 w)

-- the slots of each kind that a machine reserves for this room
abbrev pub slots_of : Room → SlotCounts
slots_of room = record {
  memories = room.memories;
  tables = room.tables;
  segments = room.segments;
  data_segments = room.data_segments;
  globals = room.globals;
}

-- what has a machine gets it with so many more slots reserved; or memory for them is refused, and it is the same
abbrev pub ReservesIn : {V : Type 0} → V → (State → V) → Room → State → ℕ → V → Type 0
ReservesIn holder with_machine room machine status holder' = ((status ≡ NO_ROOM) × (holder' ≡ holder))
    ⊎ ((status ≡ DONE) × (holder' ≡ with_machine (with_reserved machine (slots_of room))))

-- a machine with its limiter gets so many more slots reserved
abbrev pub Reserves : Room → MachineValue → ℕ → MachineValue → Type 0
Reserves room machine = ReservesIn machine (λ state. record machine { state = state }) room machine.state

-- what has a machine gets it as a reservation of so many elements in all of a table leaves it, with the reply's status
abbrev pub ReservesElementsIn : {V : Type 0} → V → (State → V) → ℕ → ℕ → State → ℕ → V → Type 0
ReservesElementsIn holder with_machine table elements machine status holder' = (reply : Reply) × (machine' : State)
    × ReservesElements machine table elements reply machine' × (status ≡ status_of reply)
    × (holder' ≡ with_machine machine')

-- a machine with its limiter is as such a reservation leaves it
abbrev pub ReservesElementsByStatus : ℕ → ℕ → MachineValue → ℕ → MachineValue → Type 0
ReservesElementsByStatus table elements machine =
    ReservesElementsIn machine (λ state. record machine { state = state }) table elements machine.state

-- what a call does to what a handle holds: it becomes another; where it is nothing, that stays, and the result says so
abbrev pub ActsOnHeld : {R V : Type 0} → R → Option V → R → Option V → (V → V → Type 0) → Type 0
ActsOnHeld refusal None result held' Acts = (result ≡ refusal) × (held' ≡ None)
ActsOnHeld {V = V} refusal (Some value) result held' Acts = (value' : V) × Acts value value' × (held' ≡ Some value')

-- what a call does to the machine of a handle: if there is one, it acts and gives a result, else that is the refusal;
-- it stays within its caps
pub record OnHeld {R : Type 0} (Acts : MachineValue → R → MachineValue → Type 0) (refusal : R)
    (held : Option MachineValue) (result : R) (held' : Option MachineValue) : Type 0 where
  pub step : ActsOnHeld refusal held result held' (λ machine machine'. Acts machine result machine')
  pub caps : StaysWithinCaps held held'

-- the bytes of a memory from an offset on are copied to the caller's; where there is no such memory, or they end past
-- it, the caller's stay
abbrev pub ReadsOut : ℕ → ℕ → State → List ℕ → ReplyStruct → List ℕ → Type 0
ReadsOut memory offset machine old reply new = MatchOption (live_at machine.memories memory)
    ((reply ≡ only NO_SUCH) × (new ≡ old))
    (λ found. MatchOption (at found.bytes offset (length old))
    ((reply ≡ memory_refusal OutOfBoundsAccess) × (new ≡ old))
    (λ bytes. (reply ≡ only DONE) × (new ≡ bytes)))

-- a machine replies to a call that takes the caller's list
unfoldable pub RepliesToItems : (Vec ℕ Global → Call) → List ℕ → MachineValue → ReplyStruct → MachineValue → Type 0
RepliesToItems call items machine reply machine' =
    SomeCopy items (λ copy. RepliesInStruct (call copy) machine reply machine')

-- a machine replies to a call that takes a copy of the caller's list; or memory for that is refused, and the machine is the same
unfoldable pub RepliesToCopy : (Vec ℕ Global → Call) → List ℕ → MachineValue → ReplyStruct → MachineValue → Type 0
RepliesToCopy call items machine reply machine' = ((reply ≡ only NO_ROOM) × (machine' ≡ machine))
    ⊎ RepliesToItems call items machine reply machine'

-- a machine replies to the making of an element segment; where the number is none of a reference type, it is the same
abbrev pub RepliesToSegment : ℕ → List ℕ → MachineValue → ReplyStruct → MachineValue → Type 0
RepliesToSegment ty items machine reply machine' = MatchOption (reference_type_of ty)
    ((reply ≡ only NO_CALL) × (machine' ≡ machine))
    (λ ref. RepliesToCopy (NewSegment ref) items machine reply machine')

-- the numbers of bytes and elements, in 128 bits each
abbrev pub totals_in : ℕ → ℕ → ℕ → Totals
totals_in status bytes elements =
    record { bytes = raw_of_vector bytes; elements = raw_of_vector elements; status = status }

-- the machine's totals
abbrev pub totals_of : MachineValue → Totals
totals_of machine = totals_in DONE (total machine.state Bytes) (total machine.state Elements)

-- an amount of fuel is taken from the machine in a holder where its meter is on and so much is left, and the reply has
-- what is left then; the holder has the machine with that, else it is the same
abbrev pub PaysFuelIn : {V : Type 0} → V → (State → V) → ℕ → State → ReplyStruct → V → Type 0
PaysFuelIn holder with_machine amount machine reply holder' = MatchOption machine.meter.left
    ((reply ≡ fuel_refusal FuelMeteringDisabled) × (holder' ≡ holder))
    (λ left. (amount ≤ left → (reply ≡ with_number DONE (left - amount))
    × (holder' ≡ with_machine (record machine { meter = meter_after machine.meter amount })))
    × (left < amount → (reply ≡ fuel_refusal (OutOfFuel amount)) × (holder' ≡ holder)))

-- an amount of fuel is taken from a machine with its limiter
abbrev pub PaysFuel : ℕ → MachineValue → ReplyStruct → MachineValue → Type 0
PaysFuel amount machine = PaysFuelIn machine (λ state. record machine { state = state }) amount machine.state

-- the load of an item that a load is, if it is one
abbrev pub item_load_in : Load → Option LoadOp
item_load_in (load.Scalar op) = Some op
item_load_in (load.Vector op) = None

-- the store of an item that a store is, if it is one
abbrev pub item_store_in : Store → Option StoreOp
item_store_in (store.Scalar op) = Some op
item_store_in store.V128Store = None

-- the instruction on two vectors that an instruction of two operands is, if it is one
abbrev pub vector_binary_in : Binary → Option BinaryOp
vector_binary_in (two.Vector op) = Some op
vector_binary_in other = None

-- the load of an item that has a number, if there is one
abbrev pub item_load_numbered : ℕ → Option LoadOp
item_load_numbered number = option_and_then item_load_in (load_numbered number)

-- the store of an item that has a number, if there is one
abbrev pub item_store_numbered : ℕ → Option StoreOp
item_store_numbered number = option_and_then item_store_in (store_numbered number)

-- the instruction on two vectors that has a number, if there is one
abbrev pub vector_binary_numbered : ℕ → Option BinaryOp
vector_binary_numbered number = option_and_then vector_binary_in (binary_numbered number)

-- the load of an item that has a number, as a call, if there is one
abbrev pub item_load : ℕ → ℕ → ℕ → ℕ → Option Call
item_load number index ptr offset = option_map (λ op. calls.Load op index ptr offset) (item_load_numbered number)

-- the store of an item of up to 64 bits that has a number, as a call, if there is one
abbrev pub item_store : ℕ → ℕ → ℕ → ℕ → ℕ → Option Call
item_store number index ptr offset value =
    option_map (λ op. calls.Store op index ptr offset (raw_of value)) (item_store_numbered number)

-- the instruction on two vectors that has a number, as a call, if there is one
abbrev pub vector_binary : ℕ → ℕ → ℕ → ℕ → Option Call
vector_binary number dst a b = option_map (λ op. calls.Binary op dst a b) (vector_binary_numbered number)

-- what a call on a machine leaves in a word of the caller's: the low word of a value, a number, or the fuel that a
-- growth lacks; else the word as it was
abbrev pub word_after : Reply → ℕ → ℕ
word_after (replies.Value value) word = value.lo
word_after (replies.Number number) word = number
word_after (replies.Memory error) word = memory_fuel_needed error word
word_after full word = word

-- a machine replies to a call with a status and a word; where there is no call, the machine and the word stay
unfoldable pub RepliesInWord : Option Call → ℕ → MachineValue → ℕ × ℕ → MachineValue → Type 0
RepliesInWord called word machine left machine' = MatchOption called ((left ≡ (NO_CALL, word)) × (machine' ≡ machine))
    (λ one. (full : Reply) × MachineReplies one machine full machine' × (left ≡ (status_of full, word_after full word)))

-- a machine replies to a call with a status; where there is no call, the machine stays
unfoldable pub RepliesInStatus : Option Call → MachineValue → ℕ → MachineValue → Type 0
RepliesInStatus called machine status machine' = MatchOption called
    ((status ≡ NO_CALL) × (machine' ≡ machine))
    (λ one. (full : Reply) × MachineReplies one machine full machine' × (status ≡ status_of full))

-- the reply to lines of calls: the length of the text of their replies, or that it has 2 ^ 64 - 1 bytes or more
abbrev pub length_reply : ℕ → ReplyStruct
length_reply count = if nat_lt count (2 ^ 64 - 1) then with_number DONE count else with_number TEXT_CUT (2 ^ 64 - 1)

-- what lines of calls write for the caller: as much of the text of their replies as fits stands at the front of
-- bytes, those after it stay, and the reply has the text's length
pub record WritesOut (text old : List ℕ) (reply : ReplyStruct) (new : List ℕ) : Type 0 where
  pub front : FillsFront text old new
  pub length_told : reply ≡ length_reply (length text)

-- a machine replies to calls: a run of its machine under its limiter
abbrev pub MachineRuns : List Call → MachineValue → List Reply → MachineValue → Type 0
MachineRuns calls machine replies machine' =
    IsRunOf (optional_rules any_limiter_rules) calls (world_of machine) replies (world_of machine')

-- the header of lines of calls: no header line
abbrev pub no_header : Header
no_header = record { meter = None; limiter_line = None; region = None; reserve = None }

-- the calls of a script without header lines are run, and bytes are filled with the text of the replies
pub record RunsScriptBy (Runs : List Call → List Reply → Type 0) (script : Script) (old : List ℕ) (reply : ReplyStruct)
    (new : List ℕ) : Type 0 where
  pub headless : script.header ≡ no_header
  pub replies : List Reply
  pub run : Runs (calls_of script) replies
  pub text : WritesOut (replies_text (calls_of script) replies) old reply new

-- Lines that aren't run: one is the first bad one, or they have header lines, or memory for them or replies is refused.
abbrev pub RefusesLines : List ℕ → ReplyStruct → Type 0
RefusesLines lines reply = ((number : ℕ) × IsFirstBadLine lines number × (reply ≡ with_number BAD_LINE number))
    ⊎ ((script : Script) × WritesScript lines script × (script.header ≢ no_header) × (reply ≡ only HEADER_LINE))
    ⊎ (reply ≡ only NO_ROOM)

-- lines are run on a machine as the script that they write, or they are refused, and nothing has changed
unfoldable pub RunsLines : List ℕ → MachineValue → List ℕ → ReplyStruct → List ℕ → MachineValue → Type 0
RunsLines lines machine old reply new machine' = (RefusesLines lines reply × (new ≡ old) × (machine' ≡ machine))
    ⊎ ((script : Script) × WritesScript lines script
    × RunsScriptBy (λ calls replies. MachineRuns calls machine replies machine') script old reply new)

-- in a run a quota goes on to hold what its machine has, within the same caps, and no limiter becomes a quota
abbrev pub QuotasAreKept : Type 0
QuotasAreKept = (turns : List Turn) (s : State) (l : AnyLimiter) (s' : State) (l' : AnyLimiter)
    → Run (optional_rules any_limiter_rules) (world s (Some l)) turns (world s' (Some l')) → Keeps s l
    → Keeps s' l' × (caps_of l' ≡ caps_of l)

-- a call on a machine is a run of this call alone
abbrev pub CallsAreRuns : Type 0
CallsAreRuns = (call : Call) (machine : MachineValue) (reply : Reply) (machine' : MachineValue)
    → MachineReplies call machine reply machine' → MachineRuns (call ∷ []) machine (reply ∷ []) machine'

-- a run of a machine, and a run from where it ends, are one run of all the calls, with the replies in turn
abbrev pub MachineRunsJoin : Type 0
MachineRunsJoin = (calls calls' : List Call) (u v w : MachineValue) (replies replies' : List Reply)
    → MachineRuns calls u replies v → MachineRuns calls' v replies' w
    → MachineRuns (calls ++ calls') u (replies ++ replies') w

-- calls that numbers stand for, to which a machine replies in turn, are one run of them, with its replies as structs
abbrev pub ListsAreRuns : Type 0
ListsAreRuns = (numbers : List CallStruct) (calls : List Call) (machine : MachineValue) (told : List ReplyStruct)
    (machine' : MachineValue) → map call_of numbers ≡ map Some calls
    → InTurn RepliesToStruct numbers machine told machine'
    → (replies : List Reply) × MachineRuns calls machine replies machine' × (told ≡ map reply_struct replies)
