-- Loads after stores: what is put into a list of bytes is found there, and all other bytes are the same.
use Rattle.std.proofs.Common.{◌≡◌, ℕ, ◌+◌, ◌*◌, ◌%◌, ◌^◌, ◌≤◌, Bool, true, false, List, length, take, drop, ◌++◌, Some, None, refl, arith, append_assoc, div-one, length-append, nat_le, nat_lt, if◌then◌else◌, Option, Ok, length-take-le, leb-true}
use Rattle.std.proofs.lemmas.Grind.{common_steps}
use Rattle.std.proofs.lemmas.Option.{cond_some}
use Rattle.std.proofs.lemmas.List.{drop_at, take_at}
use Rattle.std.proofs.Math.Seq.{take-append_seam}
use Rattle.wasmi_types.specs.Numbers.{le_bytes}
use Rattle.wasmi_types.specs.Access.{at, overwrite}
use Rattle.wasmi_access.specs.LoadStore.{loaded, IsStore, IsSameOutside}
use Rattle.wasmi_access.proofs.ByteLemmas.{bytes_power, length-low_first, number_of-low_first}

-- an accepted write: there is room, and the list is in three parts
accepted : (xs : List ℕ) (a : ℕ) (ys new : List ℕ) → overwrite xs a ys ≡ Some new
    → (a + length ys ≤ length xs) × (take a xs ++ ys ++ drop (a + length ys) xs ≡ new)
    × (nat_le (a + length ys) (length xs) ≡ true)
accepted xs a ys new e =
    let both = cond_some (nat_le (a + length ys) (length xs)) (take a xs ++ ys ++ drop (a + length ys) xs) new e in
    (leb-true (a + length ys) (length xs) both.0, both.1, both.0)

-- what lies at a after ys was put there
written : (xs : List ℕ) (a : ℕ) (ys : List ℕ) → a ≤ length xs
    → take (length ys) (drop a (take a xs ++ ys ++ drop (a + length ys) xs)) ≡ ys
written xs a ys h =
    rw (append_assoc, drop_at (take a xs) (ys ++ drop (a + length ys) xs) a (length-take-le a xs h), take-append_seam)

-- a list is as long after ys was put at a as before
kept : (xs : List ℕ) (a : ℕ) (ys : List ℕ) → a + length ys ≤ length xs
    → length (take a xs ++ ys ++ drop (a + length ys) xs) ≡ length xs
kept xs a ys h = grind (arith, common_steps)

-- what was put at a is found there
at-overwrite : (xs : List ℕ) (a : ℕ) (ys new : List ℕ) → overwrite xs a ys ≡ Some new → at new a (length ys) ≡ Some ys
at-overwrite xs a ys new e =
    let facts = accepted xs a ys new e in
    rw (← facts.1, kept xs a ys facts.0, facts.2, written xs a ys (omega (arith, facts.0)))

-- before ys and after it, the list is the same as before ys was put at a
outside_by_length : (old new : List ℕ) (a : ℕ) (ys : List ℕ) → overwrite old a ys ≡ Some new
    → IsSameOutside old new a (length ys)
outside_by_length old new a ys e =
    let facts = accepted old a ys new e in
    let before : length (take a old) ≡ a = length-take-le a old (omega (arith, facts.0)) in
    rw (← facts.1) (
      rw append_assoc (take_at (take a old) (ys ++ drop (a + length ys) old) a before),
      drop_at (take a old ++ ys) _ (a + length ys) (omega (arith, length-append (take a old) ys, before)),
    )

-- an accepted store: its address is below 2 to the power 64, and the list has its bytes
stored_there : (b : Bool) (found : Option (List ℕ)) (new : List ℕ) → (if b then found else None) ≡ Some new
    → (b ≡ true) × (found ≡ Some new)
stored_there true found new e = (refl, e)
stored_there false found new e = cc

-- a load of what was stored
pub loaded-stored : {V : Type 0} (k n a : ℕ) (old new : List ℕ) (value : ℕ → V)
    → IsStore old a (le_bytes k n) new (Ok (tt {0})) → loaded k value new a ≡ Ok (value (n % 2 ^ (8 * k)))
loaded-stored k n a old new value e =
    let facts = stored_there (nat_lt a (2 ^ 64)) (overwrite old a (le_bytes k n)) new e in
    let there = rw (length-low_first 0 k n) at (at-overwrite old a (le_bytes k n) new facts.1) in
    rw (facts.0, there, number_of-low_first 0 k n, div-one n, bytes_power k)

-- what a store leaves alone
pub outside-stored : (k n a : ℕ) (old new : List ℕ) → IsStore old a (le_bytes k n) new (Ok (tt {0}))
    → IsSameOutside old new a k
outside-stored k n a old new e =
    let facts = stored_there (nat_lt a (2 ^ 64)) (overwrite old a (le_bytes k n)) new e in
    rw (length-low_first 0 k n) at (outside_by_length old new a (le_bytes k n) facts.1)
