-- What becomes of each item or slot of a list, as one is set, changed or dropped, or one is added at the end.
use Rattle.std.proofs.Common.{Err, List, None, Ok, Option, Result, Some, [], ap, arith, inl, inr, length, length-set, refl, subst, suc, zero, ℕ, ◌+◌, ◌++◌, ◌≤◌, ◌∙◌, ◌∷◌, ◌≡◌, ◌⊎◌, ⊎_elim}
use Rattle.std.proofs.lemmas.Bool.{cases_eq}
use Rattle.wasmi_laws.proofs.Common.{length-append, slice_get, slice_set, both_live, on_live, value_kept, live_slot, set_other, set_same, ActsAt, AddsEntry, AddsItem, ChangesAt, ChangesItem, Creates, DropsAt, MeteredSlots, MatchOption, WritesRangeAt, reply_of, live_at, Reply, Done, Slot, Gone, Live, MeteredValue, with_value, MeteredWrite, WritesCharging}

module _ {X : Type 0} where
  -- an index of a list with one item more has what it had, or it had nothing and has this item
  pub at_appended : (xs : List X) (y : X) (j : ℕ) → (slice_get (xs ++ y ∷ []) j ≡ slice_get xs j)
      ⊎ ((slice_get xs j ≡ None) × (slice_get (xs ++ y ∷ []) j ≡ Some y))
  at_appended [] y zero = inr (refl, refl)
  at_appended [] y (suc j) = inl refl
  at_appended (x ∷ xs) y zero = inl refl
  at_appended (x ∷ xs) y (suc j) = at_appended xs y j

-- every index of a list has what it had, if anything, or what that may become, and there are at most so many more items
abbrev pub EachAfter : {X : Type 0} → ℕ → (ℕ → Option X → Option X → Type 0) → List X → List X → Type 0
EachAfter {X} more Becomes xs xs' =
    (j : ℕ) → ((slice_get xs' j ≡ slice_get xs j) ⊎ Becomes j (slice_get xs j) (slice_get xs' j))
    × (length xs' ≤ length xs + more)

module _ {X : Type 0} (Becomes : ℕ → Option X → Option X → Type 0) (xs xs' : List X) where
  -- every item stays in the same list
  pub unchanged : (more : ℕ) → xs' ≡ xs → EachAfter more Becomes xs xs'
  unchanged more same j = (inl (ap (λ ys. slice_get ys j) same), omega (arith, ap length same))

  -- every item stays where a new one is added at the end of a list
  pub appended : (y : X) → ((j : ℕ) → Becomes j None (Some y)) → xs' ≡ xs ++ y ∷ [] → EachAfter 1 Becomes xs xs'
  appended y new is j = (
    rw is (⊎_elim (λ same. inl same) (λ made. inr (rw (made.0, made.1) (new j))) (at_appended xs y j)),
    omega (arith, ap length is, length-append xs (y ∷ [])),
  )

  -- every other item stays where one item of a list is set
  pub put : (k : ℕ) (x y : X) → slice_get xs k ≡ Some x → Becomes k (Some x) (Some y) → xs' ≡ slice_set xs k y
      → EachAfter 0 Becomes xs xs'
  put k x y found becomes is j = (
    ⊎_elim
        (λ same. inr (rw (← same, found, is, set_same xs k y x found) becomes))
        (λ other. inl (ap (λ ys. slice_get ys j) is ∙ set_other xs k j y other)) (cases_eq k j),
    omega (arith, ap length is, length-set xs k y),
  )

-- an entry is added to a list, or its error is replied
pub entry_added : {X A E : Type 0} (Becomes : ℕ → Option A → Option A → Type 0) (entry : X → A) (refusal : E → Reply)
    (result : Result X E) (list : List A) (reply : Reply) (list' : List A)
    → ((j : ℕ) (x : X) → result ≡ Ok x → Becomes j None (Some (entry x)))
    → AddsEntry entry refusal result list reply list' → EachAfter 1 Becomes list list'
entry_added Becomes entry refusal (Ok x) list reply list' new adds =
    appended Becomes list list' (entry x) (λ j. new j x refl) adds.1
entry_added Becomes entry refusal (Err error) list reply list' new adds = unchanged Becomes list list' 1 adds.1

-- an item is added at the end of a list, or there is no place for it
pub item_added : {Lacks X : Type 0} (Becomes : ℕ → Option X → Option X → Type 0) (x : X) (items : List X)
    (reply : Reply) (items' : List X) → ((j : ℕ) → Becomes j None (Some x)) → AddsItem Lacks x items reply items'
    → EachAfter 1 Becomes items items'
item_added Becomes x items reply items' new (inl none) = unchanged Becomes items items' 1 none.1
item_added Becomes x items reply items' new (inr made) = appended Becomes items items' x new made.1

-- a call changes an item of a list
pub item_changed : {X : Type 0} (Becomes : ℕ → Option X → Option X → Type 0) (k : ℕ) (items : List X) (reply : Reply)
    (items' : List X) (Change : X → X → Type 0) → ((x x' : X) → Change x x' → Becomes k (Some x) (Some x'))
    → ChangesItem k items reply items' Change → EachAfter 0 Becomes items items'
item_changed Becomes k items reply items' Change becomes changes = on_live (slice_get items k) _ _ changes
    (λ missing. unchanged Becomes items items' 0 missing.1)
    (λ x found h. put Becomes items items' k x h.0 found (becomes x h.0 h.1) h.2)

module _ {X : Type 0} (Becomes : ℕ → Option (Slot X) → Option (Slot X) → Type 0) where
  -- the live value of one slot becomes another, or is dropped
  pub slot_put : (k : ℕ) (slots slots' : List (Slot X)) (x : X) (slot : Slot X) → live_at slots k ≡ Some x
      → Becomes k (Some (Live x)) (Some slot) → slots' ≡ slice_set slots k slot → EachAfter 0 Becomes slots slots'
  slot_put k slots slots' x slot found becomes is =
      put Becomes slots slots' k (Live x) slot (live_slot (slice_get slots k) x found) becomes is

  -- a call changes the live value of one slot
  pub slot_changed : (k : ℕ) (slots : List (Slot X)) (reply : Reply) (slots' : List (Slot X))
      (Change : X → X → Type 0) → ((x x' : X) → Change x x' → Becomes k (Some (Live x)) (Some (Live x')))
      → ChangesAt k slots reply slots' Change → EachAfter 0 Becomes slots slots'
  slot_changed k slots reply slots' Change becomes changes = on_live (live_at slots k) _ _ changes
      (λ missing. unchanged Becomes slots slots' 0 missing.1)
      (λ x found h. slot_put k slots slots' x (Live h.0) found (becomes x h.0 h.1) h.2)

  -- a call drops the live value of one slot
  pub slot_dropped : (count : X → ℕ) (k : ℕ) (slots : List (Slot X)) (reply : Reply) (slots' : List (Slot X))
      → ((x : X) → Becomes k (Some (Live x)) (Some (Gone (count x)))) → DropsAt count k slots reply slots'
      → EachAfter 0 Becomes slots slots'
  slot_dropped count k slots reply slots' becomes drops = on_live (live_at slots k) _ _ drops
      (λ missing. unchanged Becomes slots slots' 0 missing.1)
      (λ x found h. slot_put k slots slots' x (Gone (count x)) found (becomes x) h.1)

  -- a creation adds a slot to a list
  pub slot_made : {E S : Type 0} (refusal : E → Reply) (Makes : S → Result X E → S → Type 0) (slots : List (Slot X))
      (l : S) (reply : Reply) (slots' : List (Slot X)) (l' : S)
      → ((j : ℕ) (x : X) → Makes l (Ok x) l' → Becomes j None (Some (Live x)))
      → Creates refusal Makes slots l reply slots' l' → EachAfter 1 Becomes slots slots'
  slot_made refusal Makes slots l reply slots' l' new (inl none) = unchanged Becomes slots slots' 1 none.1
  slot_made refusal Makes slots l reply slots' l' new (inr (result, makes, adds)) = entry_added Becomes Live refusal result
      slots reply slots' (λ j x is. new j x (subst (λ r. Makes l r l') is makes)) adds

  -- a call with a charge changes the live value of one slot
  pub slot_acted : {R S : Type 0} (k : ℕ) (reply_to : R → Reply)
      (Acts : MeteredValue X S → R → ℕ → MeteredValue X S → Type 0) (s s' : MeteredValue (List (Slot X)) S)
      (reply : Reply) (charge : ℕ) → ((x x' : X) (result : R) → Acts (with_value s x) result charge (with_value s' x')
      → Becomes k (Some (Live x)) (Some (Live x'))) → ActsAt k reply_to Acts s reply charge s' → EachAfter 0 Becomes s.value s'.value
  slot_acted {R} {S} k reply_to Acts s s' reply charge becomes acts = on_live (live_at s.value k) _ _ acts
      (λ missing. unchanged Becomes s.value s'.value 0 (ap (λ (t : MeteredValue (List (Slot X)) S). t.value) missing.2))
      (λ x found h. slot_put k s.value s'.value x (Live h.1) found (becomes x h.1 h.0 h.2) h.4)

  -- a write over a range, which may be missing, changes the live value of one slot
  pub slot_written : {E : Type 0} (refusal : E → Reply) (Keeps : X → X → Type 0) → ((x : X) → Keeps x x) → (k : ℕ)
      → ((x x' : X) → Keeps x x' → Becomes k (Some (Live x)) (Some (Live x')))
      → (write : Option (X → MeteredWrite X E))
      → MatchOption write (Unit {0}) (λ w. (x x' : X) → (w x).written ≡ Some x' → Keeps x x') → (s : MeteredSlots X)
      (reply : Reply) (charge : ℕ) (s' : MeteredSlots X) → WritesRangeAt refusal k write s reply charge s'
      → EachAfter 0 Becomes s.value s'.value
  slot_written refusal Keeps same k becomes write keeps s reply charge s' writes =
      on_live write _ _ (both_live write _ _ _ _ keeps writes)
      (λ missing. unchanged Becomes s.value s'.value 0 (ap (λ (t : MeteredSlots X). t.value) missing.1.2))
      (λ w found h. slot_acted k (reply_of (λ _. Done) refusal) (WritesCharging w) s s' reply charge
      (λ x x' result acts. becomes x x'
      (value_kept Keeps w h.0 same (with_value s x) result charge (with_value s' x') acts)) h.1)
