-- The making and the growth of a memory, by what was tested on the way; and sizes in bytes and in pages after a growth
-- or a write.
use Rattle.std.proofs.Common.{◌≡◌, ℕ, ◌<◌, ◌+◌, ◌-◌, ◌*◌, ◌/◌, ◌%◌, ◌^◌, Bool, true, false, Option, Some, None, List, ◌++◌, length, replicate, Ok, Err, refl, sym, arith}
use Rattle.wasmi_store.proofs.Common.{cond-true, cond-false, if◌then◌else◌, nat_lt, refill, length_refill, length-replicate, MemoryError, Question, Answer, Rules, Meter, due, copy_cost, Permits, BufferValue, zeros_in, fits_room, MemoryTypeValue, page_bytes, minimum_bytes, maximum_bytes, in_bounds, MemoryValue, pages_of, new_memory, size_question, MakesMemory, PermitsMinimum, IsPermitted, ReachesCharge, IsAsked}
use Rattle.std.proofs.lemmas.List.{length-append}
use Rattle.std.proofs.lemmas.Option.{cond_some}
use Rattle.wasmi_meter.specs.declared.error.MemoryError.TheVariants.{ResourceLimiterDeniedAllocation, MinimumSizeOverflow, InvalidStaticBufferSize}
use Rattle.wasmi_meter.specs.declared.limiter.Kind.TheVariants.{Bytes}
use Rattle.wasmi_store.specs.Buffer.{Room}
use Rattle.wasmi_store.specs.Memory.{IsSized, creation_of, growth_of, memory_growth}
use Rattle.wasmi_store.specs.declared.memory.ty.PageSize.{PageSize}
use Rattle.wasmi_store.specs.declared.memory.ty.PageSize.TheVariants.{Byte, Wasm}
use Rattle.wasmi_store.proofs.GrowthLemmas as any
use Rattle.wasmi_store.proofs.GrowthLemmas.{permitted_by, TellsOf, growing, PermitsGrowth}

-- bytes that are written over stay as many
pub sized_refilled : (ty : MemoryTypeValue) (xs ws : List ℕ) → IsSized ty (length xs)
    → IsSized ty (length (refill (length xs) xs ws))
sized_refilled ty xs ws sized = rw (← length_refill (length xs) xs ws refl) sized

-- a buffer of zeros is sized as their number
pub sized_zeros : (ty : MemoryTypeValue) (room : Room) (size : ℕ) (b : BufferValue) → b ≡ zeros_in room size
    → IsSized ty size → IsSized ty (length b.bytes)
sized_zeros ty room size b is sized = rw (is, length-replicate {A = ℕ} size 0) sized

-- whole pages and n pages more are whole pages, and n more of them
pages_added : (page : PageSize) (size n : ℕ) → size % page_bytes page ≡ 0
    → ((size + n * page_bytes page) % page_bytes page ≡ 0)
    × ((size + n * page_bytes page) / page_bytes page ≡ size / page_bytes page + n)
pages_added Byte size n whole = (omega arith, omega arith)
pages_added Wasm size n whole = (omega arith, omega arith)

-- with a page or more there are more bytes
pub more_with_pages : {size n : ℕ} (page : PageSize) → (n ≡ 0 → ⊥) → size < size + n * page_bytes page
more_with_pages Byte some = omega (arith, some)
more_with_pages Wasm some = omega (arith, some)

-- bytes that grow by pages within the bounds of their type stay sized
pub sized_grown : (ty : MemoryTypeValue) (xs : List ℕ) (pages : ℕ) → IsSized ty (length xs)
    → in_bounds ty (length xs / page_bytes ty.page + pages) ≡ true
    → IsSized ty (length (xs ++ replicate (pages * page_bytes ty.page) 0))
sized_grown ty xs pages sized bounds =
    let n = pages * page_bytes ty.page in
    let added = pages_added ty.page (length xs) pages sized.whole in
    rw (length-append xs (replicate n 0), length-replicate {A = ℕ} n 0) (record {
      whole = added.0;
      minimum = omega (arith, added.1, sized.minimum);
      within = rw added.1 bounds;
    })

-- a memory's minimum in bytes that is absent is one whose test fails
untested : (b : Bool) (n : ℕ) → (let none : Option ℕ = None in none) ≡ (if b then Some n else None) → b ≡ false
untested true n h = absurd cc
untested false n h = refl

module _ {S : Type 0} (rules : Rules S) (ty : MemoryTypeValue) (l : S) where
  -- a minimum that isn't below 2 ^ 64 bytes is refused, and the limiter isn't asked
  pub minimum_overflows : (let none : Option ℕ = None in none)
      ≡ (if nat_lt (minimum_bytes ty) (2 ^ 64) then Some (minimum_bytes ty) else None)
      → PermitsMinimum rules ty l (Err MinimumSizeOverflow) l
  minimum_overflows over room = any.makes_unasked rules (creation_of room ty) (new_memory room ty) l MinimumSizeOverflow
      (cond-false _ _ _ (untested (nat_lt (minimum_bytes ty) (2 ^ 64)) (minimum_bytes ty) over))

  -- where the limiter doesn't permit the minimum, the error of its answer is answered
  pub minimum_denied : (size : ℕ)
      → Some size ≡ (if nat_lt (minimum_bytes ty) (2 ^ 64) then Some (minimum_bytes ty) else None)
      → (maximum : Option ℕ) → maximum ≡ maximum_bytes ty → (answer : Answer) (l' : S)
      → rules.asked l (record { kind = Bytes; current = 0; desired = size; maximum = maximum }) answer l'
      → (error : MemoryError)
      → Permits ResourceLimiterDeniedAllocation ResourceLimiterDeniedAllocation answer (Err error)
      → PermitsMinimum rules ty l (Err error) l'
  minimum_denied size fits maximum cut answer l' asks error denies room =
      let both = cond_some _ _ _ (sym fits) in
      any.makes_denied rules (creation_of room ty) (new_memory room ty) l _
      (record { early = cond-true _ _ _ both.0; question_is = rw (← both.1, cut) refl }) answer l' asks error denies

module _ {S : Type 0} (rules : Rules S) (room : Room) (ty : MemoryTypeValue) (l p : S) (size : ℕ)
    (permitted : PermitsMinimum rules ty l (Ok size) p) where
  -- where the minimum is permitted, the making is
  making_permitted : IsPermitted rules (creation_of room ty) l p
  making_permitted = record { early = cond-true _ _ _ permitted.1; asks = permitted.2 }

  -- where the room is too short, the limiter gets a notice, and the error is by its answer
  pub makes_short : fits_room room size ≡ false → (error : MemoryError) (l' : S)
      → TellsOf rules (creation_of room ty) InvalidStaticBufferSize p error l'
      → MakesMemory rules room ty l (Err error) l'
  makes_short short error l' tells =
      any.makes_late rules (creation_of room ty) (new_memory room ty) l p making_permitted InvalidStaticBufferSize
      (cond-false _ _ _ (rw permitted.0 at short)) error l' tells

  -- where the room has place, nothing stands before the charge
  pub making_reaches : fits_room room size ≡ true → ReachesCharge rules (creation_of room ty) l p
  making_reaches holds = record { permits = making_permitted; late = cond-true _ _ _ (rw permitted.0 at holds) }

-- ---- growths

-- a memory's growth within the bounds asks for its sizes
pub growth_asked : (x : MemoryValue) (pages : ℕ) {size desired : ℕ} {maximum : Option ℕ}
    → (in_bounds x.ty (pages_of x + pages) ≡ true) × (desired ≡ length x.bytes + pages * page_bytes x.ty.page)
    → size ≡ length x.bytes → maximum ≡ maximum_bytes x.ty
    → IsAsked (growth_of x pages) (size_question size desired maximum)
growth_asked x pages found sized cut =
    record { early = cond-true _ _ _ found.0; question_is = rw (sized, found.1, cut) refl }

-- a memory's growth is permitted where its sizes are asked for and the limiter says yes
pub growth_permitted : {S : Type 0} (rules : Rules S) (x : MemoryValue) (m : Meter) (pages : ℕ) {question : Question}
    {l p : S} {answer : Answer} (some : pages ≡ 0 → ⊥) → IsAsked (growth_of x pages) question → answer ≡ Ok true
    → rules.asked l question answer p → PermitsGrowth (growing rules (memory_growth pages) x m l some) p
    (fits_room x.room (question.desired - question.current)) InvalidStaticBufferSize
    (due m (λ costs. copy_cost costs (question.desired - question.current) 1))
growth_permitted rules x m pages {question} some asked says asks =
    let added : question.desired - question.current ≡ pages * page_bytes x.ty.page =
    rw asked.question_is (omega arith) in record {
      permits = permitted_by rules (growth_of x pages) question asked _ _ (rw says at asks);
      late = rw added refl;
      due = rw added refl;
    }
