-- Lists in which every item is related to the next, as in a chain of subtypes: related to all that follow, or not.
use Rattle.std.proofs.Common.{[], ◌≡◌, ℕ, ◌<◌, ◌≤◌, Bool, true, false, refl, sym, ap, ◌∙◌, arith, inl, inr, List, ◌∷◌, ◌+◌, ◌-◌, zero, suc, Some, length, get_or, slice_get, subst}
use Rattle.wasmi_law_tests.proofs.Common.{◌↔◌, IsTrue, same_Some, slice_get_read, RelatesForward}
use Rattle.std.proofs.lemmas.Bool.{cases_lt}

-- every one of the first n items of a list stands in a relation to the next
abbrev pub RelatesNext : {X : Type 0} → (X → X → Type 0) → List X → ℕ → Type 0
RelatesNext {X} Relates xs n =
    (k : ℕ) (a b : X) → k + 1 < n → slice_get xs k ≡ Some a → slice_get xs (k + 1) ≡ Some b → Relates a b

-- before an item that isn't the first there is another
item_before : {X : Type 0} (xs : List X) (j : ℕ) (b : X) → slice_get xs (suc j) ≡ Some b
    → (a : X) × (slice_get xs j ≡ Some a)
item_before [] j b at = absurd (let none = at in cc)
item_before (x ∷ xs) zero b at = (x, refl)
item_before (x ∷ xs) (suc j) b at = item_before xs j b at

module _ {X : Type 0} (Relates : X → X → Type 0) (own : (a : X) → Relates a a)
    (onward : (a b c : X) → Relates a b → Relates b c → Relates a c) (xs : List X) where
  -- an item is related to that of the same place
  related_to_own : (i j : ℕ) (a b : X) → i ≡ j → slice_get xs i ≡ Some a → slice_get xs j ≡ Some b → Relates a b
  related_to_own i j a b is at at' = subst (Relates a) (same_Some a b (sym at ∙ ap (slice_get xs) is ∙ at')) (own a)

  -- what is related to the next is related to all that follow
  next_reaches : (n : ℕ) → RelatesNext Relates xs n → RelatesForward Relates xs n
  next_reaches n next i zero a b before below at at' = related_to_own i zero a b (omega arith) at at'
  next_reaches n next i (suc j) a b before below at at' =
      elim (cases_lt i (suc j)) as (λ _. Relates a b) [
        | inl less ↦
            let last = item_before xs j b at' in
            let is : suc j ≡ j + 1 = omega arith in
            let so_far = next_reaches n next i j a last.0 (omega arith) (omega arith) at last.1 in
            onward a last.0 b so_far (next j last.0 b (omega arith) last.1 (ap (slice_get xs) (sym is) ∙ at'))
        | inr same ↦ related_to_own i (suc j) a b (omega arith) at at'
      ]

  -- where each of the first n items is related to the next, a chain is related exactly forward
  pub chain_is_forward : (n i : ℕ) → n ≤ i → RelatesNext Relates xs i → IsTrue true ↔ RelatesForward Relates xs n
  chain_is_forward n i ended next =
      let forward = next_reaches n (λ k a b below at at'. next k a b (omega arith) at at') in
      (λ yes. forward, λ given. refl)

module _ {X : Type 0} (Relates : X → X → Type 0) (xs : List X) (i : ℕ) (x y : X) (later : 1 ≤ i)
    (within : i < length xs) (at : x ≡ get_or xs (i - 1) x) (at' : y ≡ get_or xs i y) where
  -- the item of a chain before this one
  before_is : slice_get xs (i - 1) ≡ Some x
  before_is = slice_get_read xs (length xs) (i - 1) x refl (omega arith) at

  -- this item of a chain
  here_is : slice_get xs i ≡ Some y
  here_is = slice_get_read xs (length xs) i y refl within at'

  -- where one item isn't related to the next, not each is related to all that follow
  pub chain_breaks : (told : Bool) → told ≡ false → IsTrue told ↔ Relates x y
      → IsTrue false ↔ RelatesForward Relates xs (length xs)
  chain_breaks told fails tells = (
    λ yes. absurd cc,
    λ forward. sym fails ∙ tells.1 (forward (i - 1) i x y (omega arith) within before_is here_is),
  )

  -- where the items before are related to the next, and one more is, so are all of these
  pub chain_goes_on : (told : Bool) → told ≡ true → IsTrue told ↔ Relates x y → RelatesNext Relates xs i
      → RelatesNext Relates xs (i + 1)
  chain_goes_on told holds tells next k a b below found found' =
      elim (cases_lt (k + 1) i) as (λ _. Relates a b) [
        | inl less ↦ next k a b less found found'
        | inr reached ↦
            let is_x = same_Some x a (sym before_is ∙ ap (slice_get xs) (omega arith) ∙ found) in
            let is_y = same_Some y b (sym here_is ∙ ap (slice_get xs) (omega arith) ∙ found') in
            subst (λ u. Relates u b) is_x (subst (Relates x) is_y (tells.0 holds))
      ]
