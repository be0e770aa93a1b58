-- Items of a list and slots, as they are read, set, written over and put back.
use Rattle.std.proofs.Common.{List, None, Option, Some, [], ap, refl, set, suc, sym, zero, ℕ, ◌∙◌, ◌∷◌, ◌≡◌, arith, ◌++◌, ◌+◌, ◌<◌, ◌≤◌, length, length-set, take, drop, Bool, true, false}
use Rattle.wasmi_machine.proofs.Common.{slice_get_within, set-get_or, get_or_from_slice_get, none-some, same_Some, option_and_then, slice_get, slice_set, live_at, live_value, Slot, Gone, Live, leb-true, common_steps, cond_some, if◌then◌else◌, nat_le, overwrite}

module _ {X : Type 0} where
  -- an item that was set is read
  pub set_same : (xs : List X) (k : ℕ) (y x : X) → slice_get xs k ≡ Some x → slice_get (set xs k y) k ≡ Some y
  set_same [] k y x found = absurd (none-some x found)
  set_same (z ∷ zs) zero y x found = refl
  set_same (z ∷ zs) (suc k) y x found = set_same zs k y x found

  -- another item than the one that was set is read as before
  pub set_other : (xs : List X) (k j : ℕ) (y : X) → (k ≡ j → ⊥) → slice_get (set xs k y) j ≡ slice_get xs j
  set_other [] k j y other = refl
  set_other (z ∷ zs) zero zero y other = absurd (other refl)
  set_other (z ∷ zs) zero (suc j) y other = refl
  set_other (z ∷ zs) (suc k) zero y other = refl
  set_other (z ∷ zs) (suc k) (suc j) y other = set_other zs k j y (λ same. other (ap suc same))

  -- an item that was read is written back, and the list is the same
  pub set_read : (xs : List X) (k : ℕ) (y : X) → slice_get xs k ≡ Some y → set xs k y ≡ xs
  set_read xs k y found = ap (set xs k) (sym (get_or_from_slice_get xs k y y found)) ∙ set-get_or xs k y

  -- the slot of a live value
  pub live_slot : (slot : Option (Slot X)) (x : X) → option_and_then live_value slot ≡ Some x → slot ≡ Some (Live x)
  live_slot None x found = absurd (none-some x found)
  live_slot (Some (Gone last)) x found = absurd (none-some x found)
  live_slot (Some (Live y)) x found = ap (λ z. Some (Live z)) (same_Some y x found)

-- the index of a value that was taken out of its slot is within the slots
pub taken_within : {X : Type 0} (slots slots' : List (Slot X)) (k : ℕ) (x : X) → Some x ≡ live_at slots k
    → slots' ≡ slice_set slots k (Gone 0) → k < length slots'
taken_within slots slots' k x found taken = rw (taken, length-set slots k (Gone 0))
    (slice_get_within slots k (Live x) (live_slot (slice_get slots k) x (sym found)))

-- the same value is put back into its slot
pub put_back : {X : Type 0} (slots : List (Slot X)) (k : ℕ) (x x' : X) → live_at slots k ≡ Some x → x' ≡ x
    → slice_set slots k (Live x') ≡ slots
put_back slots k x x' found same = rw same (set_read slots k (Live x) (live_slot (slice_get slots k) x found))

-- a list that is written over keeps its length
pub overwrite_length : (xs ys zs : List ℕ) (a : ℕ) → overwrite xs a ys ≡ Some zs → length zs ≡ length xs
overwrite_length xs ys zs a is =
    let parts = cond_some (nat_le (a + length ys) (length xs)) (take a xs ++ ys ++ drop (a + length ys) xs) zs is in
    let fits : a + length ys ≤ length xs = leb-true (a + length ys) (length xs) parts.0 in
    let same : length (take a xs ++ ys ++ drop (a + length ys) xs) ≡ length xs = grind (arith, common_steps) in
    ap length (sym parts.1) ∙ same

-- a list that is written over, if a test holds, keeps its length
pub accessed_length : (xs ys zs : List ℕ) (a : ℕ) (low : Bool) → (if low then overwrite xs a ys else None) ≡ Some zs
    → length zs ≡ length xs
accessed_length xs ys zs a true is = overwrite_length xs ys zs a is
accessed_length xs ys zs a false is = absurd (none-some zs is)
