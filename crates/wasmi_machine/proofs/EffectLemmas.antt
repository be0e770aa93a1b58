-- What holds of an effect on slots, on a list or on a value, whatever they are of: a refusal leaves them, it ends in
-- one way where there is enough memory, and sizes and validity are kept.
use Rattle.std.proofs.Common.{Err, List, None, Ok, Option, Result, Some, ap, inl, inr, length, map, refl, subst, sym, ℕ, ◌∙◌, ◌≡◌, ◌⊎◌}
use Rattle.wasmi_machine.proofs.Common.{All-get_or, All-push, All-set, get_or_from_slice_get, slice_get_within, All, slice_get, slice_set, IsNotOutOfMemory, ActsAt, AddsEntry, ChangesAt, ChangesFound, Creates, DropsAt, IfNoRoom, MatchOption, reply_of, live_at, slot_count, IsValidSlot, Change, Reply, Slot, Gone, Live, AttemptOutcome, Met, MeteredValue, answer_of, value_after, with_value, Rules, Grows, Growth, Makes}
use Rattle.wasmi_machine.proofs.SlotsLemmas.{live_slot, put_back}
use Rattle.wasmi_machine.proofs.TotalLemmas.{counts_kept}
use Rattle.wasmi_machine.specs.Laws.{IsRefusal}
use Rattle.wasmi_machine.specs.declared.calls.Reply.TheVariants as replied

-- a fact of an effect on the live value of an index, by whether the index names one, and which
pub on_found : {X C : Type 0} (o : Option X) (Missing : Type 0) (Fact : X → Type 0) → MatchOption o Missing Fact
    → (o ≡ None → Missing → C) → ((x : X) → o ≡ Some x → Fact x → C) → C
on_found None Missing Fact h missing live = missing refl h
on_found (Some x) Missing Fact h missing live = live x refl h

-- a fact of an effect on the live value of an index, by whether the index names one
pub on_live : {X C : Type 0} (o : Option X) (Missing : Type 0) (Fact : X → Type 0) → MatchOption o Missing Fact
    → (Missing → C) → ((x : X) → o ≡ Some x → Fact x → C) → C
on_live o Missing Fact h missing live = on_found o Missing Fact h (λ none. missing) live

-- two facts of an effect on one live value, or on none
pub both_live : {X : Type 0} (o : Option X) (Missing Missing' : Type 0) (Fact Fact' : X → Type 0)
    → MatchOption o Missing Fact → MatchOption o Missing' Fact'
    → MatchOption o (Missing × Missing') (λ x. Fact x × Fact' x)
both_live None Missing Missing' Fact Fact' h h' = (h, h')
both_live (Some x) Missing Missing' Fact Fact' h h' = (h, h')

-- what a refusal leaves
module _ {E : Type 0} (refusal : E → Reply) where
  -- a refused entry leaves the list
  pub appends_back : {X A : Type 0} (entry : X → A) (result : Result X E) (list : List A) (reply : Reply)
      (list' : List A) → IsRefusal reply → AddsEntry entry refusal result list reply list' → list' ≡ list
  appends_back entry (Ok x) list reply list' refused appends = absurd (rw appends.0 at refused)
  appends_back entry (Err error) list reply list' refused appends = appends.1

  -- a refused creation under a limiter leaves the slots
  pub creates_back : {X S : Type 0} (Makes : S → Result X E → S → Type 0) (slots : List (Slot X)) (l : S)
      (reply : Reply) (slots' : List (Slot X)) (l' : S) → IsRefusal reply
      → Creates refusal Makes slots l reply slots' l' → slots' ≡ slots
  creates_back Makes slots l reply slots' l' refused (inl none) = none.1
  creates_back Makes slots l reply slots' l' refused (inr (result, makes, appends)) =
      appends_back Live result slots reply slots' refused appends

  module _ {V S : Type 0} (rules : Rules S) (g : Growth V E) (s s' : MeteredValue V S) (charge : ℕ) where
    -- a refused attempt leaves the value
    attempt_back : (outcome : AttemptOutcome E)
        → IsRefusal (reply_of replied.Number refusal (answer_of g.request g.size outcome))
        → s'.value ≡ value_after g.request s.value outcome → s'.value ≡ s.value
    attempt_back Met refused is = absurd refused
    attempt_back outcome refused is = is

    -- a refused growth leaves the value
    pub grows_back : (result : Result ℕ E) → IsRefusal (reply_of replied.Number refusal result)
        → Grows rules g s result charge s' → s'.value ≡ s.value
    grows_back result refused (inl none) = rw none.same
    grows_back result refused (inr some) = attempt_back some.outcome (rw some.answered at refused) some.attempt.value

-- a refused call with a charge leaves the slots, if it leaves what it acts on
pub acts_back : {X R S : Type 0} (k : ℕ) (reply_to : R → Reply)
    (Acts : MeteredValue X S → R → ℕ → MeteredValue X S → Type 0)
    → ((s s' : MeteredValue X S) (charge : ℕ) (result : R) → IsRefusal (reply_to result) → Acts s result charge s'
    → s'.value ≡ s.value) → (s s' : MeteredValue (List (Slot X)) S) (reply : Reply) (charge : ℕ) → IsRefusal reply
    → ActsAt k reply_to Acts s reply charge s' → s'.value ≡ s.value
acts_back k reply_to Acts back s s' reply charge refused acts = on_live (live_at s.value k) _ _ acts
    (λ missing. rw missing.2)
    (λ x found a. a.4 ∙ put_back s.value k x a.1 found (back _ _ charge a.0 (rw a.3 at refused) a.2))

-- two facts of an effect on one live value, or on none, taken apart at once
pub on_both : {X C : Type 0} (o : Option X) (Missing Missing' : Type 0) (Fact Fact' : X → Type 0)
    → MatchOption o Missing Fact → MatchOption o Missing' Fact' → (Missing → Missing' → C)
    → ((x : X) → Fact x → Fact' x → C) → C
on_both None Missing Missing' Fact Fact' h h' missing live = missing h h'
on_both (Some x) Missing Missing' Fact Fact' h h' missing live = live x h h'

-- two additions of one entry to a list are one
pub appends_same : {X A E : Type 0} (entry : X → A) (refusal : E → Reply) (result : Result X E) (list : List A)
    (reply reply' : Reply) (list' list'' : List A) → AddsEntry entry refusal result list reply list'
    → AddsEntry entry refusal result list reply' list'' → (reply ≡ reply') × (list' ≡ list'')
appends_same entry refusal (Ok x) list reply reply' list' list'' a b = (a.0 ∙ sym b.0, a.1 ∙ sym b.1)
appends_same entry refusal (Err error) list reply reply' list' list'' a b = (a.0 ∙ sym b.0, a.1 ∙ sym b.1)

-- what a creation ends in
pub record Creation (A S : Type 0) : Type 0 where
  pub reply : Reply
  pub part : A
  pub limiter : S

-- a creation ends in one way, where there is enough memory
abbrev pub HasOneOutcome : {A S : Type 0} → (Reply → A → S → Type 0) → Type 0
HasOneOutcome {A} {S} Relation =
    (o o' : Creation A S) → IsNotOutOfMemory o.reply → IsNotOutOfMemory o'.reply → Relation o.reply o.part o.limiter
    → Relation o'.reply o'.part o'.limiter → (o.reply ≡ o'.reply) × (o.part ≡ o'.part) × (o.limiter ≡ o'.limiter)

-- two creations in a new slot end in one way
pub creates_same : {X E S : Type 0} (refusal : E → Reply) (Makes : S → Result X E → S → Type 0)
    → ((l : S) (result result' : Result X E) (l' l'' : S) → Makes l result l' → Makes l result' l''
    → (result ≡ result') × (l' ≡ l'')) → (slots : List (Slot X)) (l : S) → HasOneOutcome (Creates refusal Makes slots l)
creates_same refusal Makes same slots l o o' room room' (inl none) b = absurd (rw none.0 at room)
creates_same refusal Makes same slots l o o' room room' (inr a) (inl none) = absurd (rw none.0 at room')
creates_same refusal Makes same slots l o o' room room' (inr (result, makes, appends))
    (inr (result', makes', appends')) =
    let made = same l result result' o.limiter o'.limiter makes makes' in
    let put = appends_same Live refusal result slots o.reply o'.reply o.part o'.part appends
    (rw made.0 appends') in
    (put.0, put.1, made.1)

-- what may be so where there is no room, from what is then so
pub no_room_too : (reply : Reply) (Lacks Lacks' : Type 0) → (Lacks → Lacks') → IfNoRoom reply Lacks
    → IfNoRoom reply Lacks'
no_room_too replied.NoRoom Lacks Lacks' too lacks = too lacks
no_room_too reply Lacks Lacks' too lacks = tt

-- what holds of an effect on a part: a refusal leaves it, it is decided where there is enough memory, and it keeps a fact
pub record EffectFacts {A : Type 0} (Effect : Reply → A → Type 0) (old : A) (Keeps : A → Type 0) : Type 0 where
  pub back : (reply : Reply) (part : A) → IsRefusal reply → Effect reply part → part ≡ old
  pub same : (reply reply' : Reply) (part part' : A) → IsNotOutOfMemory reply → IsNotOutOfMemory reply'
      → Effect reply part → Effect reply' part' → (reply ≡ reply') × (part ≡ part')
  pub keeps : (reply : Reply) (part : A) → Effect reply part → Keeps part

-- the facts of an effect that has this reply and makes the part this one
pub settled_facts : {A : Type 0} {told : Reply} {new old : A} {Keeps : A → Type 0} → (IsRefusal told → new ≡ old)
    → Keeps new → EffectFacts (λ reply part. (reply ≡ told) × (part ≡ new)) old Keeps
settled_facts back keeps = record {
  back = λ reply part refused effect. effect.1 ∙ back (rw effect.0 at refused);
  same = λ reply reply' part part' has has' effect effect'. (effect.0 ∙ sym effect'.0, effect.1 ∙ sym effect'.1);
  keeps = λ reply part effect. rw effect.1 keeps;
}

-- the facts of an effect that leaves the part where there is no room
pub room_facts : {A Lacks : Type 0} {Effect : Reply → A → Type 0} {old : A} {Keeps : A → Type 0} → Keeps old
    → EffectFacts Effect old Keeps
    → EffectFacts (λ reply part. ((reply ≡ replied.NoRoom) × (part ≡ old) × Lacks) ⊎ Effect reply part) old Keeps
room_facts keeps facts = record {
  back = λ reply part refused effect. elim effect [
    | inl none ↦ none.1
    | inr made ↦ facts.back reply part refused made
  ];
  same = λ reply reply' part part' has has' effect effect'. elim effect [
    | inl none ↦ absurd (rw none.0 at has)
    | inr made ↦ elim effect' [
      | inl none ↦ absurd (rw none.0 at has')
      | inr made' ↦ facts.same reply reply' part part' has has' made made'
    ]
  ];
  keeps = λ reply part effect. elim effect [
    | inl none ↦ rw none.1 keeps
    | inr made ↦ facts.keeps reply part made
  ];
}

-- a change of a value is decided
abbrev pub ChangesOnce : {X : Type 0} → (Reply → X → X → Type 0) → Type 0
ChangesOnce {X} Change = (x : X) (reply reply' : Reply) (x' x'' : X) → Change reply x x' → Change reply' x x''
    → (reply ≡ reply') × (x' ≡ x'')

-- the facts of an effect that changes what was found, and puts it back
pub found_facts : {X A : Type 0} {found : Option X} {put : X → A} {old : A} {Change : Reply → X → X → Type 0}
    {Keeps : A → Type 0} → ((x : X) → found ≡ Some x → put x ≡ old)
    → ((reply : Reply) → IsRefusal reply → (x x' : X) → Change reply x x' → x' ≡ x) → ChangesOnce Change → Keeps old
    → ((x : X) → found ≡ Some x → (reply : Reply) (x' : X) → Change reply x x' → Keeps (put x'))
    → EffectFacts (λ reply part. ChangesFound found put old reply part (Change reply)) old Keeps
found_facts {found = found} {put = put} read back once keeps kept = record {
  back = λ reply part refused changes. on_live found _ _ changes (λ missing. missing.1)
      (λ x is h. h.2 ∙ ap put (back reply refused x h.0 h.1) ∙ read x is);
  same = λ reply reply' part part' has has' changes changes'. on_both found _ _ _ _ changes changes'
      (λ h h'. (h.0 ∙ sym h'.0, h.1 ∙ sym h'.1))
      (λ x h h'. let both = once x reply reply' h.0 h'.0 h.1 h'.1 in (both.0, h.2 ∙ ap put both.1 ∙ sym h'.2));
  keeps = λ reply part changes. on_live found _ _ changes (λ missing. rw missing.1 keeps)
      (λ x is h. rw h.2 (kept x is reply h.0 h.1));
}

-- what a call on what an index names ends in
pub record Acted (A S : Type 0) : Type 0 where
  pub reply : Reply
  pub charge : ℕ
  pub after : MeteredValue A S

-- a call on what an index names ends in one way
abbrev pub HasOneEnding : {A S : Type 0} → (Reply → ℕ → MeteredValue A S → Type 0) → Type 0
HasOneEnding {A} {S} Relation =
    (o o' : Acted A S) → Relation o.reply o.charge o.after → Relation o'.reply o'.charge o'.after
    → (o.reply ≡ o'.reply) × (o.charge ≡ o'.charge) × (o.after ≡ o'.after)

-- two calls with a charge on what an index names end in one way
pub acts_same : {X R S : Type 0} (Acts : MeteredValue X S → R → ℕ → MeteredValue X S → Type 0)
    → ((s : MeteredValue X S) (result result' : R) (charge charge' : ℕ) (s' s'' : MeteredValue X S)
    → Acts s result charge s' → Acts s result' charge' s'' → (result ≡ result') × (charge ≡ charge') × (s' ≡ s''))
    → (k : ℕ) (reply_to : R → Reply) (s : MeteredValue (List (Slot X)) S) → HasOneEnding (ActsAt k reply_to Acts s)
acts_same {X = X} {S = S} Acts same k reply_to s o o' a b =
    on_both (live_at s.value k) _ _ _ _ a b (λ h h'. (h.0 ∙ sym h'.0, h.1 ∙ sym h'.1, h.2 ∙ sym h'.2))
    (λ x (result, x', acts, replies, put) (result', x'', acts', replies', put').
    let both =
    same (with_value s x) result result' o.charge o'.charge (with_value o.after x') (with_value o'.after x'') acts
    acts' in
    let value = put ∙ ap (λ (t : MeteredValue X S). slice_set s.value k (Live t.value)) both.2 ∙ sym put' in (
      replies ∙ ap reply_to both.0 ∙ sym replies',
      both.1,
      λ i. record { value = value i; meter = (both.2 i).meter; limiter = (both.2 i).limiter },
    ))

-- a change that keeps the count keeps the sizes
pub changes_kept : {X : Type 0} (count : X → ℕ) (k : ℕ) (slots : List (Slot X)) (reply : Reply) (slots' : List (Slot X))
    (Change : X → X → Type 0) → ((x x' : X) → Change x x' → count x' ≡ count x) → ChangesAt k slots reply slots' Change
    → map (slot_count count) slots' ≡ map (slot_count count) slots
changes_kept count k slots reply slots' Change same changes = on_live (live_at slots k) _ _ changes
    (λ missing. rw missing.1)
    (λ x found h. rw h.2 (counts_kept count slots k x (Live h.0) found (same x h.0 h.1)))

module _ {X : Type 0} (Valid : X → Type 0) where
  -- valid items stay so with a valid new entry at the end
  pub appended_valid : {E : Type 0} (refusal : E → Reply) (result : Result X E) (list : List X) (reply : Reply)
      (list' : List X) → ((x : X) → result ≡ Ok x → Valid x) → AddsEntry (λ x. x) refusal result list reply list'
      → All Valid list → All Valid list'
  appended_valid refusal (Ok x) list reply list' made appends valid =
      rw appends.1 (All-push Valid list x valid (made x refl))
  appended_valid refusal (Err error) list reply list' made appends valid = rw appends.1 valid

  -- what is in the slots is valid
  abbrev pub AllValid : List (Slot X) → Type 0
  AllValid slots = All (IsValidSlot Valid) slots

  -- the live value that an index names is valid
  pub live_valid : (slots : List (Slot X)) (k : ℕ) (x : X) → live_at slots k ≡ Some x → AllValid slots → Valid x
  live_valid slots k x found valid =
      let slot = live_slot (slice_get slots k) x found in
      subst (IsValidSlot Valid) (get_or_from_slice_get slots k (Live x) (Live x) slot)
      (All-get_or (IsValidSlot Valid) slots k (Live x) (slice_get_within slots k (Live x) slot) valid)

  -- valid slots stay so where one is set to a valid one
  pub put_valid : (slots slots' : List (Slot X)) (k : ℕ) (slot : Slot X) → slots' ≡ slice_set slots k slot
      → IsValidSlot Valid slot → AllValid slots → AllValid slots'
  put_valid slots slots' k slot is one valid =
      rw is (All-set (IsValidSlot Valid) slots k slot one valid)

  -- valid slots stay so by a call with a charge that keeps a live value valid
  pub acts_valid : {R S : Type 0} (k : ℕ) (reply_to : R → Reply)
      (Acts : MeteredValue X S → R → ℕ → MeteredValue X S → Type 0)
      → ((s s' : MeteredValue X S) (result : R) (charge : ℕ) → Valid s.value → Acts s result charge s' → Valid s'.value)
      → (s s' : MeteredValue (List (Slot X)) S) (reply : Reply) (charge : ℕ) → ActsAt k reply_to Acts s reply charge s'
      → AllValid s.value → AllValid s'.value
  acts_valid k reply_to Acts keeps s s' reply charge acts valid = on_live (live_at s.value k) _ _ acts
      (λ missing. rw missing.2 valid)
      (λ x found h. put_valid s.value s'.value k (Live h.1) h.4
      (keeps _ _ h.0 charge (live_valid s.value k x found valid) h.2) valid)

  -- valid slots stay so by a creation of a valid value
  pub creates_valid : {E S : Type 0} (refusal : E → Reply) (Makes : S → Result X E → S → Type 0)
      → ((l l' : S) (x : X) → Makes l (Ok x) l' → Valid x)
      → (slots : List (Slot X)) (l : S) (reply : Reply) (slots' : List (Slot X)) (l' : S)
      → Creates refusal Makes slots l reply slots' l' → AllValid slots → AllValid slots'
  creates_valid refusal Makes made slots l reply slots' l' (inl none) valid = rw none.1 valid
  creates_valid refusal Makes made slots l reply slots' l' (inr (Ok x, makes, appends)) valid =
      rw appends.1 (All-push (IsValidSlot Valid) slots (Live x) valid (made l l' x makes))
  creates_valid refusal Makes made slots l reply slots' l' (inr (Err error, makes, appends)) valid = rw appends.1 valid

-- a fact of an effect on a live value, or on none, from another one of it
pub on_live_too : {X : Type 0} (o : Option X) (Missing Missing' : Type 0) (Fact Fact' : X → Type 0)
    → (Missing → Missing') → ((x : X) → Fact x → Fact' x) → MatchOption o Missing Fact → MatchOption o Missing' Fact'
on_live_too None Missing Missing' Fact Fact' missing live h = missing h
on_live_too (Some x) Missing Missing' Fact Fact' missing live h = live x h

-- what slots keep that become others: the sizes and validity
abbrev pub KeepsSlots : {X : Type 0} → (X → ℕ) → (X → Type 0) → List (Slot X) → List (Slot X) → Type 0
KeepsSlots count Valid slots slots' =
    (map (slot_count count) slots' ≡ map (slot_count count) slots) × (AllValid Valid slots → AllValid Valid slots')

-- slots keep both where one value becomes another of its count that is as valid
pub slot_kept : {X : Type 0} (count : X → ℕ) (Valid : X → Type 0) (slots : List (Slot X)) (k : ℕ) (x x' : X)
    → live_at slots k ≡ Some x → count x' ≡ count x → (Valid x → Valid x')
    → KeepsSlots count Valid slots (slice_set slots k (Live x'))
slot_kept count Valid slots k x x' found same valid = (
  counts_kept count slots k x (Live x') found same,
  λ all. put_valid Valid slots _ k (Live x') refl (valid (live_valid Valid slots k x found all)) all,
)

-- what holds of a change of slots: the facts of an effect that keeps their sizes and validity
abbrev pub SlotFacts : {X : Type 0} → (X → ℕ) → (X → Type 0) → (List (Slot X) → Reply → List (Slot X) → Type 0) → Type 0
SlotFacts {X} count Valid Becomes =
    (slots : List (Slot X)) → EffectFacts (Becomes slots) slots (KeepsSlots count Valid slots)

-- the facts of a drop of a live value from its slot
pub drop_facts : {X : Type 0} (count : X → ℕ) (Valid : X → Type 0) (k : ℕ) → SlotFacts count Valid (DropsAt count k)
drop_facts count Valid k slots = record {
  back = λ reply slots' refused drops.
      on_live (live_at slots k) _ _ drops (λ missing. missing.1) (λ x found h. absurd (rw h.0 at refused));
  same = λ reply reply' slots' slots'' has has' drops drops'. on_both (live_at slots k) _ _ _ _ drops drops'
      (λ h h'. (h.0 ∙ sym h'.0, h.1 ∙ sym h'.1)) (λ x h h'. (h.0 ∙ sym h'.0, h.1 ∙ sym h'.1));
  keeps = λ reply slots' drops. on_live (live_at slots k) _ _ drops
      (λ missing. (rw missing.1, λ valid. rw missing.1 valid))
      (λ x found h. (
        rw h.1 (counts_kept count slots k x (Gone (count x)) found refl),
        λ valid. put_valid Valid slots slots' k (Gone (count x)) h.1 tt valid,
      ));
}

-- ---- a value is put, or it is refused

-- items are put into a value, or they are refused with this error, and the value is the same
abbrev pub PutsOr : {X E : Type 0} → Option (List ℕ) → (List ℕ → X) → E → X → Result (Unit {0}) E → X → Type 0
PutsOr written put error x result x' =
    MatchOption written ((result ≡ Err error) × (x' ≡ x)) (λ items. (result ≡ Ok tt) × (x' ≡ put items))

-- a change by which items are put into a value, as many as it has, or are refused
module _ {X E : Type 0} (count : X → ℕ) (Valid : X → Type 0) (refusal : E → Reply)
    (Sets : X → Result (Unit {0}) E → X → Type 0) (written : X → Option (List ℕ)) (put : X → List ℕ → X) (error : X → E)
    (puts : (x : X) (result : Result (Unit {0}) E) (x' : X) → Sets x result x'
    → PutsOr (written x) (put x) (error x) x result x')
    (long : (x : X) (items : List ℕ) → written x ≡ Some items → length items ≡ count x)
    (keeps : (x : X) (items : List ℕ) → length items ≡ count x
    → (count (put x items) ≡ count x) × (Valid x → Valid (put x items))) where
  -- the change, with its reply
  abbrev Setting : Reply → X → X → Type 0
  Setting reply x x' = (result : Result (Unit {0}) E) × Sets x result x'
      × (reply ≡ reply_of (λ _. replied.Done) refusal result)

  -- a refused change leaves the value
  setting_back : (reply : Reply) → IsRefusal reply → (x x' : X) → Setting reply x x' → x' ≡ x
  setting_back reply refused x x' c = on_live (written x) _ _ (puts x c.0 x' c.1) (λ none. none.1)
      (λ items is done. absurd (rw (c.2, done.0) at refused))

  -- two changes of one value are one
  setting_once : ChangesOnce Setting
  setting_once x reply reply' x' x'' c c' =
      let both : (c.0 ≡ c'.0) × (x' ≡ x'') = on_both (written x) _ _ _ _ (puts x c.0 x' c.1) (puts x c'.0 x'' c'.1)
      (λ h h'. (h.0 ∙ sym h'.0, h.1 ∙ sym h'.1)) (λ items h h'. (h.0 ∙ sym h'.0, h.1 ∙ sym h'.1)) in
      (c.2 ∙ ap (reply_of (λ _. replied.Done) refusal) both.0 ∙ sym c'.2, both.1)

  -- the change keeps the count and validity
  setting_kept : (reply : Reply) (x x' : X) → Setting reply x x' → (count x' ≡ count x) × (Valid x → Valid x')
  setting_kept reply x x' c = on_live (written x) _ _ (puts x c.0 x' c.1)
      (λ none. (ap count none.1, λ valid. rw none.1 valid))
      (λ items is done. rw done.1 (keeps x items (long x items is)))

  -- the facts of a change of a slot by it
  pub setting_facts : (k : ℕ)
      → SlotFacts count Valid (λ slots reply slots'. ChangesAt k slots reply slots' (Setting reply))
  setting_facts k slots = found_facts (λ x found. put_back slots k x x found refl) setting_back setting_once
      (refl, λ valid. valid) (λ x found reply x' c.
      let kept = setting_kept reply x x' c in slot_kept count Valid slots k x x' found kept.0 kept.1)
