-- Memories whose bytes are the first of a region: a part of a region that is filled, and the growth of such a memory.
use Rattle.std.proofs.Common.{rules, Option, ◌≡◌, ℕ, ◌+◌, ◌-◌, ◌*◌, ◌/◌, ◌≤◌, List, ◌++◌, Bool, true, length, take, drop, replicate, refl, sym, ap, ◌∙◌, arith}
use Rattle.std.specs.Prelude.{nat_le}
use Rattle.std.proofs.lemmas.Bool.Decides.{nat_tests}
use Rattle.std.proofs.Math.Nat.{sub_self}
use Rattle.std.proofs.lemmas.List.{take-append-drop, take_at, drop_at, drop-drop, length-append, length-replicate, length-take-le, length-drop}
use Rattle.wasmi_store.specs.Buffer.{with_zeros, fits_room}
use Rattle.wasmi_store.specs.Growth.{IsAsked}
use Rattle.wasmi_store.specs.Memory.{MemoryValue, memory_of, buffer_of, pages_of, growth_of, size_question, MemoryTypeValue, page_bytes, in_bounds, maximum_bytes}
use Rattle.wasmi_region.specs.Memory.{memory_in, zeroed}
use Rattle.wasmi_store.proofs.MemoryLemmas.{growth_asked}

-- a region without a place for zeros is as it was
pub zeroed_none : (region : List ℕ) (size : ℕ) → zeroed region size size ≡ region
zeroed_none region size = rw (sub_self size) (search (rules, take-append-drop))

-- items from one place on up to another: what stands up to the other, and past it
pub filled_part : (xs ys : List ℕ) (start end item : ℕ) → start ≤ end → start ≤ length xs
    → ys ≡ take start xs ++ replicate (end - start) item ++ drop end xs
    → (take end ys ≡ take start xs ++ replicate (end - start) item) × (drop end ys ≡ drop end xs)
filled_part xs ys start end item grows within filled =
    let front : List ℕ = take start xs ++ replicate (end - start) item in
    let first = length-take-le start xs within in
    let long : length front ≡ end = simp (length-append, length-replicate, first) (omega arith) in
    let split : ys ≡ front ++ drop end xs = filled ∙ search rules in
    (rw split (take_at front (drop end xs) end long), rw split (drop_at front (drop end xs) end long))

-- zeros within a region leave its length, and what stands past them
module _ (region : List ℕ) (start end : ℕ) (grows : start ≤ end) (within : end ≤ length region) where
  pub zeroed_rest : drop end (zeroed region start end) ≡ drop end region
  zeroed_rest = (filled_part region _ start end 0 grows (omega arith) refl).1

  pub zeroed_length : length (zeroed region start end) ≡ length region
  zeroed_length =
      let first = length-take-le start region (omega arith) in
      simp (length-append, length-replicate, length-drop, first) (omega arith)

module _ (ty : MemoryTypeValue) (region : List ℕ) (size : ℕ) (within : size ≤ length region) (pages : ℕ) where
  abbrev x : MemoryValue
  x = memory_in ty region size

  -- the memory on a region has so many bytes
  pub sized : length x.bytes ≡ size
  sized = length-take-le size region within

  -- the memory on a region has so many pages
  pub paged : pages_of x ≡ size / page_bytes ty.page
  paged = ap (λ (n : ℕ). n / page_bytes ty.page) sized

  -- what the type says of the pages after a growth, it says of the memory's
  pub bounds : (b : Bool) → in_bounds ty (size / page_bytes ty.page + pages) ≡ b
      → in_bounds ty (pages_of x + pages) ≡ b
  bounds b h = rw paged h

  -- a growth within the bounds, to a new size
  module _ {new_size : ℕ} (found : (in_bounds ty (size / page_bytes ty.page + pages) ≡ true)
      × (new_size ≡ size + pages * page_bytes ty.page)) where
    -- the growth asks for its sizes
    pub asked_in : {maximum : Option ℕ} → maximum ≡ maximum_bytes ty
        → IsAsked (growth_of x pages) (size_question size new_size maximum)
    asked_in cut = growth_asked x pages (bounds true found.0, rw sized found.1) (sym sized) cut

    -- the room has place for the new size exactly where the region has
    pub room_is : (has_room : Bool) → has_room ≡ nat_le new_size (length region)
        → fits_room x.room (new_size - size) ≡ has_room
    room_is has_room h = let left = length-drop size region in rw h (grind (arith, nat_tests))

    -- with zeros from the old size to the new one, the region has the memory that has grown
    pub grown : (region' : List ℕ) → region' ≡ take size region ++ replicate (new_size - size) 0 ++ drop new_size region
        → memory_in ty region' new_size ≡ memory_of ty (with_zeros (buffer_of x) (pages * page_bytes ty.page))
    grown region' zeroed =
        let part = filled_part region region' size new_size 0 (omega (arith, found.1)) within zeroed in
        let added : new_size - size ≡ pages * page_bytes ty.page = omega (arith, found.1) in
        let rest : drop (new_size - size) (drop size region) ≡ drop new_size region =
        drop-drop (new_size - size) size region ∙ ap (λ (k : ℕ). drop k region) (omega arith) in
        rw (part.0, part.1, ← added, rest) refl
