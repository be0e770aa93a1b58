-- What holds of each effect on tables: that they stay valid, elements that are set, and memory that is reserved for
-- their elements.
use Rattle.std.proofs.Common.{Bool, List, None, Option, Result, [], false, refl, true, ℕ, ◌∷◌, ◌≡◌, ⊎_elim}
use Rattle.wasmi_machine.proofs.EffectLemmas.{AllValid, PutsOr, SlotFacts, live_valid, on_live, put_valid, setting_facts}
use Rattle.wasmi_machine.proofs.Common.{ReservesElementsAt, SetsElementAt, live_at, Reply, Slot, Live, MatchBool, if◌then◌else◌, TableError, IsValidTable, SetsTable, SetsTableRaw, TableValue, size_of, same_type, with_elements, TypedRawRef, overwrite}
use Rattle.std.specs.Prelude.{Err}
use Rattle.wasmi_meter.specs.declared.error.TableError.TheVariants.{ElementTypeMismatch, SetOutOfBounds}
use Rattle.wasmi_machine.specs.declared.calls.Reply.TheVariants as replied
use Rattle.wasmi_machine.proofs.SlotsLemmas.{accessed_length}

-- a table of another one's type with as many elements is valid
pub table_as_long : (x x' : TableValue) → x'.ty ≡ x.ty → size_of x' ≡ size_of x → IsValidTable x → IsValidTable x'
table_as_long x x' same long valid = record { type = rw same valid.type; sized = rw (same, long) valid.sized }

-- a call that sets an element puts it, or is refused
module _ (index : ℕ) (value : TypedRawRef) (x : TableValue) where
  -- what the elements become, where the types are the same or not
  abbrev elements_set : Bool → Option (List ℕ)
  elements_set typed = if typed then overwrite x.elements index (value.raw ∷ []) else None

  -- the error, where it is refused
  abbrev set_error : Bool → TableError
  set_error typed = if typed then SetOutOfBounds else ElementTypeMismatch

  -- an element is put or refused by whether the types are the same
  set_puts : (result : Result (Unit {0}) TableError) (x' : TableValue) (typed : Bool)
      → MatchBool typed (SetsTableRaw index value.raw x result x') ((result ≡ Err ElementTypeMismatch) × (x' ≡ x))
      → PutsOr (elements_set typed) (with_elements x) (set_error typed) x result x'
  set_puts result x' true sets = sets
  set_puts result x' false sets = sets

-- the facts of a call that sets an element of the table of an index
pub set_facts : (k index : ℕ) (value : TypedRawRef) → SlotFacts size_of IsValidTable (SetsElementAt k index value)
set_facts k index value = setting_facts size_of IsValidTable replied.Table
    (λ x result x'. SetsTable index value x result x') (λ x. elements_set index value x (same_type x.ty.element value.ty))
    with_elements (λ x. set_error index value x (same_type x.ty.element value.ty))
    (λ x result x'. set_puts index value x result x' (same_type x.ty.element value.ty))
    (λ x elements. accessed_length x.elements (value.raw ∷ []) elements index _)
    (λ x elements long. (long, table_as_long x (with_elements x elements) refl long)) k

-- tables stay valid where memory is reserved for elements of one
pub reserves_valid : (k n : ℕ) (slots : List (Slot TableValue)) (reply : Reply) (slots' : List (Slot TableValue))
    → ReservesElementsAt k n slots reply slots' → AllValid IsValidTable slots → AllValid IsValidTable slots'
reserves_valid k n slots reply slots' reserves valid = on_live (live_at slots k) _ _ reserves
    (λ missing. rw missing.1 valid) (λ x found h. let own = live_valid IsValidTable slots k x found valid in
    put_valid IsValidTable slots slots' k (Live h.0) h.2 (⊎_elim
    (λ done. table_as_long x h.0 (rw done.1) (rw done.1) own) (λ refused. rw refused.2 own) h.1) valid)
