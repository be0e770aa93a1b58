-- What is made of a valid type is valid, and what is valid grows to what is valid.
use Rattle.std.proofs.Common.{◌≡◌, ℕ, ◌+◌, ◌*◌, ◌/◌, ◌%◌, ◌≤◌, ◌^◌, Bool, true, false, Option, Some, None, Result, Ok, length, refl, sym, arith, inl, inr, length-append}
use Rattle.wasmi_store.proofs.Common.{nat_tests, length-replicate, nat_le, nat_lt, if◌then◌else◌, Rules, MemoryError, TableError, MeteredValue, Request, AttemptOutcome, Met, MayEnd, value_after, Growth, Makes, Grows, MemoryTypeValue, page_bytes, minimum_bytes, in_bounds, MemoryValue, new_memory, IsValidMemory, MakesMemory, GrowsMemoryCharging, TableTypeValue, same_type, TableValue, size_of, new_table, with_added, IsValidTable, MakesTable, GrowsTableCharging}
use Rattle.std.proofs.lemmas.Option.{none-some}
use Rattle.std.specs.Option.{option_map_or, ForSome}
use Rattle.wasmi_typed.specs.declared.typed_ref.TypedRawRef.{TypedRawRef}
use Rattle.wasmi_store.specs.Buffer.{Room}
use Rattle.wasmi_store.specs.declared.memory.ty.PageSize.{PageSize}
use Rattle.wasmi_store.specs.declared.memory.ty.PageSize.TheVariants.{Byte, Wasm}
use Rattle.wasmi_store.specs.Memory.{memory_growth}
use Rattle.wasmi_store.specs.Memory as memory
use Rattle.wasmi_store.specs.Table.{table_growth}
use Rattle.wasmi_store.specs.Table as table
use Rattle.wasmi_store.proofs.GrowthLemmas.{on_test}
use Rattle.wasmi_store.proofs.MemoryLemmas.{sized_grown}

-- for the validity of what is made: the attempt that makes it was met
made_met : {T E S : Type 0} (rules : Rules S) (e : Request (Unit {0}) E) (made x : T) (l l' : S)
    → Makes rules e made l (Ok x) l' → (x ≡ made) × (e.early ≡ None) × (e.late ≡ None)
made_met rules e made x l l' (Met, attempt, answered) = (cc, attempt.may_end.0, attempt.may_end.1)
made_met rules e made x l l' (outcome, attempt, answered) = cc

module _ {V E S : Type 0} (rules : Rules S) (g : Growth V E) (Valid : V → Type 0) (s s' : MeteredValue V S)
    (valid : Valid s.value) (grown : g.request.early ≡ None → g.request.late ≡ None → Valid g.request.grown) where
  -- the value after an attempt
  after_valid : (m : _) (outcome : AttemptOutcome E) → MayEnd g.request m outcome
      → Valid (value_after g.request s.value outcome)
  after_valid m Met may = grown may.0 may.1
  after_valid m outcome may = valid

  -- the value after a growth
  grown_valid : (result : Result ℕ E) (charge : ℕ) → Grows rules g s result charge s' → Valid s'.value
  grown_valid result charge (inl none) = rw none.same valid
  grown_valid result charge (inr some) =
      rw some.attempt.value (after_valid s.meter some.outcome some.attempt.may_end)

-- a test by which a value is valid holds where the cause is absent that stands if the test fails
passed : {E : Type 0} (test : Bool) (cause : E)
    → (let none : Option E = None in if test then none else Some cause) ≡ None → test ≡ true
passed true cause absent = refl
passed false cause absent = absurd (none-some cause (sym absent))

-- bytes that are whole pages, as those of a valid memory are, and the number of them
pages_multiplied : (page : PageSize) (n : ℕ)
    → ((n * page_bytes page) % page_bytes page ≡ 0) × ((n * page_bytes page) / page_bytes page ≡ n)
pages_multiplied Byte n = (omega arith, omega arith)
pages_multiplied Wasm n = (omega arith, omega arith)

-- the minimum of a valid type lies within its maximum, if there is one
maximum_holds : (n : ℕ) (maximum : Option ℕ) → ForSome maximum (λ m. n ≤ m)
    → option_map_or (λ m. nat_le n m) maximum true ≡ true
maximum_holds n None within = refl
maximum_holds n (Some m) within = let h = within m refl in grind (arith, nat_tests)

-- the minimum of a valid memory type is in its bounds
minimum_in_bounds : (ty : MemoryTypeValue) → memory.IsValid ty → nat_lt (minimum_bytes ty) (2 ^ 64) ≡ true
    → in_bounds ty ty.minimum ≡ true
minimum_in_bounds ty valid below =
    let h = valid.minimum in
    let least : nat_le ty.minimum (memory.greatest_pages ty) ≡ true = grind (arith, nat_tests) in
    rw (least, maximum_holds ty.minimum ty.maximum (λ m is. (valid.maximum m is).0), below) refl

-- a memory that is made of a valid type
pub made_memory_is_valid : {S : Type 0} (rules : Rules S) (room : Room) (ty : MemoryTypeValue) (l : S) (x : MemoryValue)
    (l' : S) → memory.IsValid ty → MakesMemory rules room ty l (Ok x) l' → IsValidMemory x
made_memory_is_valid rules room ty l x l' valid makes =
    let met = made_met rules (memory.creation_of room ty) (new_memory room ty) x l l' makes in
    let pages = pages_multiplied ty.page ty.minimum in
    let bounds = minimum_in_bounds ty valid (passed _ _ met.1) in
    rw met.0 (record {
      type = valid;
      sized = rw (length-replicate {A = ℕ} (minimum_bytes ty) 0) (record {
        whole = pages.0;
        minimum = omega (arith, pages.1);
        within = rw pages.1 bounds;
      });
    })

-- a growth of a valid memory
pub grown_memory_is_valid : {S : Type 0} (rules : Rules S) (pages : ℕ) (s : MeteredValue MemoryValue S)
    (result : Result ℕ MemoryError) (charge : ℕ) (s' : MeteredValue MemoryValue S) → IsValidMemory s.value
    → GrowsMemoryCharging rules pages s result charge s' → IsValidMemory s'.value
grown_memory_is_valid rules pages s result charge s' valid grows =
    let x = s.value in
    grown_valid rules (memory_growth pages x) IsValidMemory s s' valid
    (λ early late. record {
      type = valid.type;
      sized = sized_grown x.ty x.bytes pages valid.sized (passed _ _ early);
    }) result charge grows

-- a table that is made of a valid type
pub made_table_is_valid : {S : Type 0} (rules : Rules S) (ty : TableTypeValue) (init : TypedRawRef) (l : S)
    (x : TableValue) (l' : S) → table.IsValid ty → MakesTable rules ty init l (Ok x) l' → IsValidTable x
made_table_is_valid rules ty init l x l' valid makes =
    let met = made_met rules (table.creation_of ty init.ty) (new_table ty init.raw) x l l' makes in
    let least = valid.minimum in
    rw met.0 (record {
      type = valid;
      sized = rw (length-replicate ty.minimum init.raw) (record {
        minimum = omega arith;
        indexable = grind (arith, nat_tests);
        within = maximum_holds ty.minimum ty.maximum (λ m is. (valid.maximum m is).0);
      });
    })

-- a growth of a valid table
pub grown_table_is_valid : {S : Type 0} (rules : Rules S) (n : ℕ) (init : TypedRawRef) (s : MeteredValue TableValue S)
    (result : Result ℕ TableError) (charge : ℕ) (s' : MeteredValue TableValue S) → IsValidTable s.value
    → GrowsTableCharging rules n init s result charge s' → IsValidTable s'.value
grown_table_is_valid rules n init s result charge s' valid grows =
    let x = s.value in
    let size : length (with_added x n init.raw).elements ≡ size_of x + n = simp (length-append, length-replicate) in
    on_test (same_type x.ty.element init.ty) _ _ grows (λ raw. grown_valid rules (table_growth n init.raw x)
    IsValidTable s s' valid
    (λ early late. record {
      type = valid.type;
      sized = rw size (record {
        minimum = omega (arith, valid.sized.minimum);
        indexable = passed _ _ early;
        within = passed _ _ late;
      });
    }) result charge raw)
    (λ refused. rw refused.2 valid)
