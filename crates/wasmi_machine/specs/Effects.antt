-- What the effects of calls have in common, whatever they are on: changes, creations, drops and writes of a list or of
-- slots at an index with their replies, and the turns that they make.
use Rattle.std.specs.Prelude.{◌≡◌, ◌⊎◌, ◌++◌, ℕ, Option, Some, Result, Ok, Err, List, [], ◌∷◌, length, slice_get, slice_set, unwrap_or, MatchOption}
use Rattle.wasmi_meter.specs.Attempt.{MeteredValue, with_value}
use Rattle.wasmi_meter.specs.Meter.{Meter, cut_product}
use Rattle.wasmi_store.specs.Growth.{metered, metered_value}
use Rattle.wasmi_store.specs.Write.{MeteredWrite, WritesCharging}
use Rattle.wasmi_machine.specs.declared.{calls.Reply.Reply, slots.Slot.Slot}
use Rattle.wasmi_machine.specs.declared.calls.Reply.TheVariants.{Done, Made, Number, NoSuch, NoRoom}
use Rattle.wasmi_machine.specs.declared.slots.Slot.TheVariants.{Live, Gone}
use Rattle.wasmi_machine.specs.State.{State, live_at, World, world, TurnOutcome, IsFree}

-- the reply to a call that returns a value or is refused
abbrev pub reply_of : {T E : Type 0} → (T → Reply) → (E → Reply) → Result T E → Reply
reply_of answer refusal (Ok value) = answer value
reply_of answer refusal (Err error) = refusal error

-- the reply of a body that ends early where an index names nothing
abbrev pub reply_or_no_such : Option Reply → Reply
reply_or_no_such reply = unwrap_or reply NoSuch

-- the value that an index names has become another, which is put back; without one it is `NoSuch`, and nothing changes
abbrev pub ChangesFound : {X A : Type 0} → Option X → (X → A) → A → Reply → A → (X → X → Type 0) → Type 0
ChangesFound found put part reply part' Change = MatchOption found ((reply ≡ NoSuch) × (part' ≡ part))
    (λ x. (x' : _) × Change x x' × (part' ≡ put x'))

-- the live value in a slot has become another
abbrev pub ChangesAt : {X : Type 0} → ℕ → List (Slot X) → Reply → List (Slot X) → (X → X → Type 0) → Type 0
ChangesAt k slots reply slots' Change =
    ChangesFound (live_at slots k) (λ x. slice_set slots k (Live x)) slots reply slots' Change

-- an item of a list has become another
abbrev pub ChangesItem : {X : Type 0} → ℕ → List X → Reply → List X → (X → X → Type 0) → Type 0
ChangesItem k items reply items' Change = ChangesFound (slice_get items k) (slice_set items k) items reply items' Change

-- the reply to a creation, and the list after it: a new entry at the end where it succeeds
abbrev pub AddsEntry : {X A E : Type 0} → (X → A) → (E → Reply) → Result X E → List A → Reply → List A → Type 0
AddsEntry entry refusal (Ok x) list reply list' = (reply ≡ Made (length list)) × (list' ≡ list ++ entry x ∷ [])
AddsEntry entry refusal (Err error) list reply list' = (reply ≡ refusal error) × (list' ≡ list)

-- where the reply is that there is no room, a fact that is then so
abbrev pub IfNoRoom : Reply → Type 0 → Type 0
IfNoRoom NoRoom Lacks = Lacks
IfNoRoom reply Lacks = Unit {0}

-- an item is added to a list, unless there is no memory for it, which a fact allows
abbrev pub AddsItem : {X : Type 0} → Type 0 → X → List X → Reply → List X → Type 0
AddsItem Lacks x items reply items' = ((reply ≡ NoRoom) × (items' ≡ items) × Lacks)
    ⊎ ((reply ≡ Made (length items)) × (items' ≡ items ++ x ∷ []))

-- what the item of an index has is dropped
abbrev pub DropsContents : {X : Type 0} → (X → X) → ℕ → List X → Reply → List X → Type 0
DropsContents without k items reply items' =
    ChangesItem k items reply items' (λ x x'. (reply ≡ Done) × (x' ≡ without x))

-- a creation under a limiter: without room for a slot nothing is asked
abbrev pub Creates : {X E S : Type 0} → (E → Reply) → (S → Result X E → S → Type 0) → List (Slot X) → S → Reply
    → List (Slot X) → S → Type 0
Creates refusal Makes slots l reply slots' l' = ((reply ≡ NoRoom) × (slots' ≡ slots) × (l' ≡ l))
    ⊎ ((result : _) × Makes l result l' × AddsEntry Live refusal result slots reply slots')

-- the live value of an index is dropped, and its slot keeps how many it had; where the index names none it is `NoSuch`,
-- and nothing has changed
abbrev pub DropsAt : {X : Type 0} → (X → ℕ) → ℕ → List (Slot X) → Reply → List (Slot X) → Type 0
DropsAt count k slots reply slots' = MatchOption (live_at slots k) ((reply ≡ NoSuch) × (slots' ≡ slots))
    (λ x. (reply ≡ Done) × (slots' ≡ slice_set slots k (Gone (count x))))

-- an index names nothing: there is no charge, and nothing has changed
abbrev pub IsNoSuch : {A S : Type 0} → MeteredValue A S → Reply → ℕ → MeteredValue A S → Type 0
IsNoSuch s reply charge s' = (reply ≡ NoSuch) × (charge ≡ 0) × (s' ≡ s)

-- a call with a charge on the live value of an index, with the reply to each result
abbrev pub ActsAt : {X R S : Type 0} → ℕ → (R → Reply) → (MeteredValue X S → R → ℕ → MeteredValue X S → Type 0)
    → MeteredValue (List (Slot X)) S → Reply → ℕ → MeteredValue (List (Slot X)) S → Type 0
ActsAt k reply_to Acts s reply charge s' = MatchOption (live_at s.value k) (IsNoSuch s reply charge s')
    (λ x. (result : _) × (x' : _) × Acts (with_value s x) result charge (with_value s' x')
    × (reply ≡ reply_to result) × (s'.value ≡ slice_set s.value k (Live x')))

-- values of one kind in their slots, and the meter that is charged
abbrev pub MeteredSlots : Type 0 → Type 0
MeteredSlots X = MeteredValue (List (Slot X)) (Unit {0})

-- a range of the value of an index is written over, with its charge
abbrev pub WritesAt : {X E : Type 0} → (E → Reply) → ℕ → (X → MeteredWrite X E) → MeteredSlots X → Reply → ℕ
    → MeteredSlots X → Type 0
WritesAt refusal k write = ActsAt k (reply_of (λ _. Done) refusal) (WritesCharging write)

-- a range of the value of an index is written over with what a source has, with its charge; without a source the reply
-- is `NoSuch`, and nothing has changed
abbrev pub WritesFrom : {X Y E : Type 0} → (E → Reply) → Option Y → ℕ → (Y → X → MeteredWrite X E) → MeteredSlots X
    → Reply → ℕ → MeteredSlots X → Type 0
WritesFrom refusal source k write s reply charge s' =
    MatchOption source (IsNoSuch s reply charge s') (λ y. WritesAt refusal k (write y) s reply charge s')

-- a range of the value of an index is written over by such a write, if there is one
abbrev pub WritesRangeAt : {X E : Type 0} → (E → Reply) → ℕ → Option (X → MeteredWrite X E) → MeteredSlots X → Reply
    → ℕ → MeteredSlots X → Type 0
WritesRangeAt refusal k write = WritesFrom refusal write k (λ w. w)

-- the bytes that an accepted call on so many items, of so many bytes each, has written
abbrev pub item_bytes : ℕ → ℕ → Reply → ℕ
item_bytes size n Done = cut_product n size
item_bytes size n (Number number) = cut_product n size
item_bytes size n reply = 0

-- an effect of a call has changed one part of the state, whatever the part is
pub record ChangesPart {A : Type 0} (with_part : A → State) (Effect : Reply → A → Type 0) (reply : Reply)
    (s' : State) : Type 0 where
  pub part : A
  pub effect : Effect reply part
  pub after : s' ≡ with_part part

module _ {S : Type 0} (w : World S) (outcome : TurnOutcome) (w' : World S) where
  -- a turn that changes nothing but what its reply tells
  pub record OnlyReplies (Effect : Reply → Type 0) : Type 0 where
    pub free : IsFree outcome
    pub effect : Effect outcome.reply
    pub after : w' ≡ w

  -- a turn that changes the state, without a charge and without the limiter
  pub record Changes (Effect : Reply → State → Type 0) : Type 0 where
    pub free : IsFree outcome
    pub machine : State
    pub effect : Effect outcome.reply machine
    pub after : w' ≡ record w { state = machine }

  -- a turn that makes something under the limiter, without a charge; there may be no room for it as a fact says
  pub record Asks {A : Type 0} (Lacks : Type 0) (with_part : A → State) (Effect : S → Reply → A → S → Type 0)
      : Type 0 where
    pub free : IsFree outcome
    pub part : A
    pub limiter : S
    pub effect : Effect w.limiter outcome.reply part limiter
    pub room : IfNoRoom outcome.reply Lacks
    pub after : w' ≡ world (with_part part) limiter

  -- a turn that acts on one part of the state, with a charge, and with the bytes that it has written by its reply
  pub record ActsMetered {A : Type 0} (old : A) (with_part : A → State)
      (Effect : MeteredValue A S → Reply → ℕ → MeteredValue A S → Type 0) (bytes : Reply → ℕ) : Type 0 where
    pub part : A
    pub meter : Meter
    pub limiter : S
    pub effect : Effect (metered_value old (Some w.state.meter) w.limiter) outcome.reply outcome.charge
        (metered_value part (Some meter) limiter)
    pub wrote : outcome.written ≡ bytes outcome.reply
    pub after : w' ≡ world (record (with_part part) { meter = meter }) limiter

  -- a turn that acts on one part of the state, with a charge, and with the bytes that it has written by its reply, and
  -- does not reach the limiter
  pub record ActsMeteredUnasked {A : Type 0} (old : A) (with_part : A → State)
      (Effect : MeteredValue A (Unit {0}) → Reply → ℕ → MeteredValue A (Unit {0}) → Type 0)
      (bytes : Reply → ℕ) : Type 0 where
    pub part : A
    pub meter : Meter
    pub effect : Effect (metered old (Some w.state.meter)) outcome.reply outcome.charge (metered part (Some meter))
    pub wrote : outcome.written ≡ bytes outcome.reply
    pub after : w' ≡ record w { state = record (with_part part) { meter = meter } }
