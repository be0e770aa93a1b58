-- Exchanges: what passes between a machine and its limiter in one turn, the question of each call, the replies to it,
-- the size that grows by it, and what growths and writes over a range are charged.
use Rattle.std.specs.Prelude.{◌≡◌, ◌≢◌, ◌≤◌, ◌-◌, ◌⊎◌, ◌++◌, ℕ, Option, Some, None, Ok, true, nat_eq, is_none, if◌then◌else◌, List, [], ◌∷◌, slice_get, slice_set, option_map, option_and_then}
use Rattle.wasmi_meter.specs.declared.{limiter.Kind.Kind, fuel.CustomFuelCosts.CustomFuelCosts}
use Rattle.wasmi_meter.specs.declared.limiter.Kind.TheVariants.{Bytes, Elements}
use Rattle.wasmi_meter.specs.declared.error.MemoryError.TheVariants as memory_error
use Rattle.wasmi_meter.specs.declared.error.TableError.TheVariants as table_error
use Rattle.wasmi_meter.specs.Limiter.{Question, Answer, IsDenial, Failure, MemoryFailure, TableFailure, kind_of, NoticeAnswer, Rules}
use Rattle.wasmi_meter.specs.Meter.{copy_cost, Meter, due}
use Rattle.wasmi_meter.specs.Attempt.{Request, error_of_failure, optional_due}
use Rattle.wasmi_store.specs.Buffer.{Owned, Lent}
use Rattle.wasmi_typed.specs.declared.typed_ref.TypedRawRef.{TypedRawRef}
use Rattle.wasmi_store.specs.Write.{item_price}
use Rattle.wasmi_store.specs.Memory as memory
use Rattle.wasmi_store.specs.Table as table
use Rattle.wasmi_store.specs.Table.{TableValue, same_type}
use Rattle.wasmi_machine.specs.declared.{calls.Call.Call, calls.Reply.Reply}
use Rattle.wasmi_machine.specs.declared.calls.Reply.TheVariants.{Done, Memory, Table, NoRoom}
use Rattle.wasmi_machine.specs.State.{State, live_at, World, Turn, IsRefusal, sizes}
use Rattle.wasmi_machine.specs.Account.{ChangesMeter}
use Rattle.wasmi_machine.specs.declared.calls.Call.TheVariants as call

-- nothing; a question and its denial; a permission alone; or a permission and the notice that what it permitted failed,
-- with the answer to it
pub data Exchange : Type 0 where
  Nothing : Exchange
  Denial : Question → Answer → Exchange
  Permission : Question → Exchange
  Notice : Question → Failure → NoticeAnswer → Exchange

-- an exchange leads a limiter from one state to another
abbrev pub Passes : {S : Type 0} → Rules S → S → Exchange → S → Type 0
Passes rules l Nothing l' = l' ≡ l
Passes rules l (Denial question answer) l' = IsDenial answer × rules.asked l question answer l'
Passes rules l (Permission question) l' = rules.asked l question (Ok true) l'
Passes {S} rules l (Notice question failure notice_answer) l' = (kind_of failure ≡ question.kind)
    × (permitted : S) × rules.asked l question (Ok true) permitted × rules.noticed permitted failure notice_answer l'

-- what a request asks: nothing where a cause is found before the question
abbrev pub question_in : {V E : Type 0} → Request V E → Option Question
question_in e = if is_none e.early then Some e.question else None

-- what a growth by so many asks: nothing where it is by 0
abbrev pub growth_question : {V E : Type 0} → ℕ → Request V E → Option Question
growth_question amount e = if nat_eq amount 0 then None else question_in e

-- what a growth of a table by references of a type asks: nothing where its elements have another
abbrev pub table_growth_question : ℕ → TypedRawRef → TableValue → Option Question
table_growth_question n init x =
    if same_type x.ty.element init.ty then growth_question n (table.growth_of x n init.raw) else None

-- what a call asks of the limiter in a state, if it asks something
abbrev pub question_of : State → Call → Option Question
question_of s (call.NewMemory ty) = question_in (memory.creation_of Owned ty)
question_of s (call.NewLentMemory ty) =
    option_and_then (λ region. question_in (memory.creation_of (Lent region) ty)) s.spare
question_of s (call.GrowMemory k pages) =
    option_and_then (λ x. growth_question pages (memory.growth_of x pages)) (live_at s.memories k)
question_of s (call.NewTable ty init) = question_in (table.creation_of ty init.ty)
question_of s (call.GrowTable k n init) = option_and_then (table_growth_question n init) (live_at s.tables k)
question_of s call = None

-- what is asked is the question of the call; where it has one, it is asked, unless there is no room for what it makes
abbrev pub AsksFor : Option Question → Exchange → Reply → Type 0
AsksFor question Nothing reply = (question ≡ None) ⊎ (reply ≡ NoRoom)
AsksFor question (Denial asked answer) reply = question ≡ Some asked
AsksFor question (Permission asked) reply = question ≡ Some asked
AsksFor question (Notice asked failure notice_answer) reply = question ≡ Some asked

-- the reply where what was permitted failed, by the answer to the notice
abbrev pub failed_reply : Failure → NoticeAnswer → Reply
failed_reply (MemoryFailure error) answer =
    Memory (error_of_failure memory_error.ResourceLimiterDeniedAllocation error answer)
failed_reply (TableFailure error) answer =
    Table (error_of_failure table_error.ResourceLimiterDeniedAllocation error answer)

-- the reply to an exchange: a denial is a refusal, a permission that stands is none, and a failure is told
abbrev pub RepliesTo : Exchange → Reply → Type 0
RepliesTo Nothing reply = Unit {0}
RepliesTo (Denial question answer) reply = IsRefusal reply
RepliesTo (Permission question) reply = IsRefusal reply → ⊥
RepliesTo (Notice question failure notice_answer) reply = reply ≡ failed_reply failure notice_answer

-- where a call makes something grow: nowhere, at a new index, or at one that is there
pub data Place : Type 0 where
  Nowhere New : Place
  At : ℕ → Place

-- What tools/generate writes begins.
-- where a call lets something grow: a creation at a new index, a growth at the index that it names, and another call
-- nowhere
abbrev pub place_of : Call → Place
place_of (call.NewMemory ty) = New
place_of (call.NewLentMemory ty) = New
place_of (call.GrowMemory memory pages) = At memory
place_of (call.NewTable ty init) = New
place_of (call.GrowTable table delta init) = At table
place_of call = Nowhere

-- What tools/generate writes ends.

-- the size in a place has grown as a question asks: a new one from 0, or another from what it was
abbrev pub GrowsAsAsked : Place → Question → List ℕ → List ℕ → Type 0
GrowsAsAsked Nowhere q sizes sizes' = ⊥
GrowsAsAsked New q sizes sizes' = (q.current ≡ 0) × (sizes' ≡ sizes ++ q.desired ∷ [])
GrowsAsAsked (At k) q sizes sizes' =
    (q.current ≤ q.desired) × (slice_get sizes k ≡ Some q.current) × (sizes' ≡ slice_set sizes k q.desired)

-- no size has changed
abbrev pub NothingGrows : (Kind → List ℕ) → (Kind → List ℕ) → Type 0
NothingGrows sizes sizes' = (kind : Kind) → sizes' kind ≡ sizes kind

-- what has grown by an exchange: after a permission that stands, the size in the place, as was asked; else nothing
abbrev pub GrowsBy : Place → Exchange → (Kind → List ℕ) → (Kind → List ℕ) → Type 0
GrowsBy place (Permission question) sizes sizes' =
    GrowsAsAsked place question (sizes question.kind) (sizes' question.kind)
    × ((kind : Kind) → kind ≢ question.kind → sizes' kind ≡ sizes kind)
GrowsBy place exchange sizes sizes' = NothingGrows sizes sizes'

-- the bytes of one of a kind, as they are paid for
abbrev pub bytes_of_one : Kind → ℕ
bytes_of_one Bytes = 1
bytes_of_one Elements = 4

-- what a meter is due for the growth that a question asks for
abbrev pub growth_due : Meter → Question → ℕ
growth_due m q = due m (λ costs. copy_cost costs (q.desired - q.current) (bytes_of_one q.kind))

-- what a failed growth is charged of a price: memory is refused after it was paid, each other cause is found before
abbrev pub failed_charge : Failure → ℕ → ℕ
failed_charge (MemoryFailure memory_error.OutOfSystemMemory) price = price
failed_charge (TableFailure table_error.OutOfSystemMemory) price = price
failed_charge failure price = 0

-- what a growth is charged by its exchange: nothing before a permission, and its price where it stands
abbrev pub growth_charge : Exchange → Meter → ℕ
growth_charge (Permission question) m = growth_due m question
growth_charge (Notice question failure notice_answer) m = failed_charge failure (growth_due m question)
growth_charge exchange m = 0

-- What tools/generate writes begins.
-- how many elements a call pays for that writes over a range of a table: an initialization by no item pays for none
abbrev pub elements_paid : Call → Option ℕ
elements_paid (call.InitTable table segment dst src len) = if nat_eq len 0 then None else Some len
elements_paid (call.CopyTable dst_table dst src_table src len) = Some len
elements_paid (call.FillTable table dst value len) = Some len
elements_paid call = None

-- the price of what a call writes over a range, if it has one
abbrev pub writing_price : Call → Option (CustomFuelCosts → ℕ)
writing_price (call.FillMemory memory dst value len) = Some (item_price 1 len)
writing_price (call.CopyMemory dst_memory dst src_memory src len) = Some (item_price 1 len)
writing_price (call.InitMemory memory segment dst src len) = Some (item_price 1 len)
writing_price call = option_map table.element_price (elements_paid call)

-- What tools/generate writes ends.

-- what is charged for what is written, by its price and the reply: nothing where it is refused
abbrev pub writing_charge : Meter → Option (CustomFuelCosts → ℕ) → Reply → ℕ
writing_charge m price Done = optional_due (Some m) price
writing_charge m price reply = 0

-- what a turn is charged: what its call writes over a range, where it lets nothing grow; nothing for a creation; and
-- what its exchange says for a growth
abbrev pub charge_at : Place → Exchange → Meter → ℕ → ℕ
charge_at Nowhere exchange m writing = writing
charge_at New exchange m writing = 0
charge_at (At k) exchange m writing = growth_charge exchange m

-- what passes between a machine and its limiter in a turn, from one world to the next: what is asked is the question of
-- the call, a size has grown by it, and the charge is what it allows and is taken of the meter
pub record Exchanges {S : Type 0} (rules : Rules S) (w : World S) (turn : Turn) (w' : World S) : Type 0 where
  pub exchange : Exchange
  pub asks : AsksFor (question_of w.state turn.call) exchange turn.reply
  pub passes : Passes rules w.limiter exchange w'.limiter
  pub replies : RepliesTo exchange turn.reply
  pub grows : GrowsBy (place_of turn.call) exchange (sizes w.state) (sizes w'.state)
  pub charged : turn.charge
      ≡ charge_at (place_of turn.call) exchange w.state.meter (writing_charge w.state.meter (writing_price turn.call)
      turn.reply)
  pub meter : ChangesMeter turn.call w.state.meter turn.charge w'.state.meter
