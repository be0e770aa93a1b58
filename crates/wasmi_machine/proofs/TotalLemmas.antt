-- The sizes of slots and their sums, as slots change, and what holds of the sizes of each kind.
use Rattle.std.proofs.Common.{◌≡◌, ◌++◌, ℕ, List, Some, ap, sym, ◌∙◌, [], map, sum, ◌+◌, ◌∷◌, ◌≢◌}
use Rattle.wasmi_machine.proofs.Common.{slice_get, slice_set, map-set, get_or_from_slice_get, slice_get-map, slice_get_within, Slot, live_at, slot_count, sum_by-set, sum_by_push, Kind, Bytes, Elements}
use Rattle.wasmi_machine.proofs.SlotsLemmas.{live_slot, set_read}

module _ {X : Type 0} (count : X → ℕ) where
  -- what is counted in a list at the index of something live
  pub count_at : (slots : List (Slot X)) (k : ℕ) (x : X) → live_at slots k ≡ Some x
      → slice_get (map (slot_count count) slots) k ≡ Some (count x)
  count_at slots k x found = rw (slice_get-map, live_slot (slice_get slots k) x found)

  -- a slot is set, and has as many as before
  pub counts_kept : (slots : List (Slot X)) (k : ℕ) (x : X) (slot : Slot X) → live_at slots k ≡ Some x
      → slot_count count slot ≡ count x → map (slot_count count) (slice_set slots k slot) ≡ map (slot_count count) slots
  counts_kept slots k x slot found same =
      rw (map-set, same) (set_read (map (slot_count count) slots) k (count x) (count_at slots k x found))

-- the sum of numbers of which one is set
pub sum_set : (xs : List ℕ) (k current desired : ℕ) → slice_get xs k ≡ Some current
    → sum (slice_set xs k desired) + current ≡ sum xs + desired
sum_set xs k current desired found =
    ap (λ n. sum (slice_set xs k desired) + n) (sym (get_or_from_slice_get xs k current 0 found))
    ∙ sum_by-set (λ x. x) xs k desired 0 (slice_get_within xs k current found)

-- the sum of numbers with one more
pub sum_push : (xs : List ℕ) (desired : ℕ) → sum (xs ++ desired ∷ []) ≡ sum xs + desired
sum_push xs desired = sum_by_push (λ x. x) xs desired

-- what holds of bytes and of elements holds of each kind
pub each_kind : (P : Kind → Type 0) → P Bytes → P Elements → (kind : Kind) → P kind
each_kind P bytes elements Bytes = bytes
each_kind P bytes elements Elements = elements

-- what holds of one kind, and of the other, holds of each
pub of_each : (P : Kind → Type 0) (one : Kind) → P one → ((kind : Kind) → kind ≢ one → P kind) → (kind : Kind) → P kind
of_each P Bytes own others = each_kind P own (others Elements (λ e. cc))
of_each P Elements own others = each_kind P (others Bytes (λ e. cc)) own
